-- The numbers of the parts of a set, and the parts of those numbers.
use Rattle.std.proofs.Common.{◌≡◌, ℕ, zero, suc, ◌+◌, ◌-◌, ◌^◌, ◌<◌, ◌≤◌, ◌⊎◌, List, [], ◌∷◌, map, length, get_or, drop, refl, sym, ap, ◌∙◌, ap₂, inl, inr, arith}
use Rattle.std.proofs.lemmas.Nat.{pow_below, pow_pos}
use Rattle.std.proofs.lemmas.Bool.{cases_lt}
use Rattle.std.specs.List.{range_with_len}
use Rattle.parts.specs.Sets.{numbers, parts}
use Rattle.parts.proofs.All.{parts_all}
use Rattle.parts.proofs.Lowest.{parts_none}

abbrev alone : ℕ → ℕ
alone i = 2 ^ i

pub parts_of_numbers : (n : ℕ) → parts n ≡ map (λ (i : ℕ). 2 ^ i) (numbers n)
unfolding parts
parts_of_numbers n = refl

same_power : (i j : ℕ) → 2 ^ i ≡ 2 ^ j → i ≡ j
same_power i j e = go (cases_lt i j) (cases_lt j i)
  where
    go : (i < j) ⊎ (j ≤ i) → (j < i) ⊎ (i ≤ j) → i ≡ j
    go (inl l) m = absurd (omega (arith, e, pow_below i j l))
    go (inr l) (inl m) = absurd (omega (arith, e, pow_below j i m))
    go (inr l) (inr m) = omega arith

same_powers : (xs ys : List ℕ) → map alone xs ≡ map alone ys → xs ≡ ys
same_powers [] [] e = refl
same_powers [] (y ∷ ys) e = absurd (omega (arith, ap length e))
same_powers (x ∷ xs) [] e = absurd (omega (arith, ap length e))
same_powers (x ∷ xs) (y ∷ ys) e =
    ap₂ (λ (z : ℕ) zs. z ∷ zs) (same_power x y (ap (λ zs. get_or zs 0 0) e)) (same_powers xs ys (ap (drop 1) e))

-- what the parts of a set are, each alone, says which numbers they have
pub numbers_from_parts : (n : ℕ) (is : List ℕ) → parts n ≡ map (λ (i : ℕ). 2 ^ i) is → numbers n ≡ is
numbers_from_parts n is e = same_powers (numbers n) is (sym (parts_of_numbers n) ∙ e)

pub numbers_none : (n : ℕ) → n ≡ 0 → numbers n ≡ []
numbers_none n z = numbers_from_parts n [] (ap parts z ∙ parts_none)

pub numbers_all : (n : ℕ) → n ≤ 24 → numbers (2 ^ n - 1) ≡ range_with_len 0 n
numbers_all n h = numbers_from_parts _ _ (parts_all n h)

-- the first number of a set is the one of its first part alone
pub numbers_first : (n m i : ℕ) → 2 ^ i ≡ get_or (parts n) 0 0 → parts m ≡ drop 1 (parts n) → numbers n ≡ i ∷ numbers m
numbers_first n m i first others = numbers_from_parts n _ (go (parts n) first others)
  where
    go : (xs : List ℕ) → 2 ^ i ≡ get_or xs 0 0 → parts m ≡ drop 1 xs → xs ≡ map (λ (j : ℕ). 2 ^ j) (i ∷ numbers m)
    go [] f o = absurd (omega (arith, pow_pos i, f))
    go (x ∷ xs) f o = ap₂ (λ (z : ℕ) zs. z ∷ zs) (sym f) (sym o ∙ parts_of_numbers m)
