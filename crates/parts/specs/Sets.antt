-- Sets of parts as numbers: part i is in the set where its binary digit i is 1.
use Rattle.std.specs.Prelude.{ℕ, zero, suc, ◌/◌, ◌%◌, ◌^◌, Bool, List, [], ◌∷◌, map, ◌==◌, bit_and, bit_or, bit_xor}
use Rattle.std.specs.List.{range_with_len, filter}

-- digit i of n: 1 where part i is in the set, else 0
abbrev pub bit : ℕ → ℕ → ℕ
bit n zero = n % 2
bit n (suc i) = bit (n / 2) i

-- part i is in n
abbrev pub has : ℕ → ℕ → Bool
has n i = bit n i == 1

-- the parts of a that are not in b
abbrev pub without : ℕ → ℕ → ℕ
without a b = bit_xor a (bit_and a b)

-- each part of a is in b: b contains a
abbrev pub within : ℕ → ℕ → Bool
within a b = bit_and a b == a

abbrev pub empty : ℕ → Bool
empty a = a == 0

-- the parts of all sets of a list together
abbrev pub joined : List ℕ → ℕ
joined [] = 0
joined (g ∷ gs) = bit_or g (joined gs)

-- the numbers of the parts of n, in rising order
unfoldable pub numbers : ℕ → List ℕ
numbers n = filter (has n) (range_with_len 0 24)

-- the parts of n, each alone, in rising number
unfoldable pub parts : ℕ → List ℕ
parts n = map (λ i. 2 ^ i) (numbers n)
