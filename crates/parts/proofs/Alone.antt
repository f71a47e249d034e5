-- The parts of a set, each alone, in rising number.
use Rattle.std.proofs.Common.{◌≡◌, ℕ, zero, suc, ◌+◌, ◌*◌, ◌/◌, ◌%◌, ◌^◌, ◌<◌, ◌≤◌, min, Bool, true, false, cond, not, ◌&&◌, eqb, List, [], ◌∷◌, map, sym, refl, ap, ◌∙◌, subst, ap₂, pow-suc, arith, pow_pos}
use lib.Bits.{bit_and, bit_or, and_step, and_le_l}
use Rattle.std.specs.List.{AllByRecursion, range_with_len, filter}
use Rattle.std.proofs.ByRecursion.{All-map, All-weaker}
use Rattle.std.proofs.lemmas.Bool.Decides.{same_from_decides, Decides-like, Decides-and, nat_tests}
use Rattle.parts.specs.Sets.{bit, has, within, empty, joined, numbers, parts}
use Rattle.parts.proofs.Bit.{In, bit_lt, bit_zero, bit_of_or, decides_within, decides_apart, same_set}
use Rattle.parts.proofs.Tally.{times, bit_joined}

-- ---- the parts of a set by halves

abbrev pub double : ℕ → ℕ
double x = x * 2

abbrev pub lowest : ℕ → List ℕ → List ℕ
lowest zero xs = xs
lowest (suc b) xs = 1 ∷ xs

-- the parts of n that are below d
abbrev pub parts_of : ℕ → ℕ → List ℕ
parts_of zero n = []
parts_of (suc d) n = lowest (n % 2) (map double (parts_of d (n / 2)))

abbrev alone : ℕ → ℕ
alone i = 2 ^ i

parts_next : (d a n : ℕ) → map alone (filter (has n) (range_with_len (suc a) d)) ≡ map double (map alone (filter (has (n / 2)) (range_with_len a d)))
parts_next zero a n = refl
parts_next (suc d) a n =
    let next : suc a + 1 ≡ suc (a + 1) = omega arith in
    go (has (n / 2) a) _ _ (ap (λ (k : ℕ). map alone (filter (has n) (range_with_len k d))) next ∙ parts_next d (a + 1) n)
  where
    go : (b : Bool) (xs ys : List ℕ) → map alone xs ≡ map double (map alone ys)
        → map alone (cond b (suc a ∷ xs) xs) ≡ map double (map alone (cond b (a ∷ ys) ys))
    go true xs ys e = ap₂ (λ (x : ℕ) l. x ∷ l) (pow-suc 2 a) e
    go false xs ys e = e

parts_from : (d n : ℕ) → map alone (filter (has n) (range_with_len 0 d)) ≡ parts_of d n
parts_from zero n = refl
parts_from (suc d) n = go (n % 2) (omega arith) _ (parts_next d 0 n ∙ ap (map double) (parts_from d (n / 2)))
  where
    go : (b : ℕ) → b < 2 → (xs : List ℕ) {ys : List ℕ} → map alone xs ≡ ys → map alone (cond (eqb b 1) (0 ∷ xs) xs) ≡ lowest b ys
    go zero h xs e = e
    go (suc zero) h xs e = ap (λ l. 1 ∷ l) e
    go (suc (suc b)) h xs e = absurd (omega arith)

pub parts_are : (n : ℕ) → parts n ≡ parts_of 24 n
unfolding parts numbers
parts_are n = parts_from 24 n

pub half_below : (d n : ℕ) → n < 2 ^ suc d → n / 2 < 2 ^ d
half_below d n h = omega arith

double_half : (x : ℕ) → double x / 2 ≡ x
double_half x = omega arith

pub bit_double : (x i : ℕ) → bit (double x) (suc i) ≡ bit x i
bit_double x i = ap (λ (y : ℕ). bit y i) (double_half x)

times_double : (xs : List ℕ) (i : ℕ) → times (map double xs) (suc i) ≡ times xs i
times_double [] i = refl
times_double (x ∷ xs) i = ap₂ (λ (a b : ℕ). a + b) (bit_double x i) (times_double xs i)

times_even : (xs : List ℕ) → times (map double xs) zero ≡ 0
times_even [] = refl
times_even (x ∷ xs) = omega (arith, times_even xs)

times_lowest : (b : ℕ) (xs : List ℕ) (i : ℕ) → b < 2 → times (lowest b xs) i ≡ bit b i + times xs i
times_lowest zero xs i h = omega (arith, bit_zero i)
times_lowest (suc zero) xs i h = refl
times_lowest (suc (suc b)) xs i h = absurd (omega arith)

pub times_parts : (d n i : ℕ) → n < 2 ^ d → times (parts_of d n) i ≡ bit n i
times_parts zero n i h = let z : n ≡ 0 = omega arith in sym (ap (λ (x : ℕ). bit x i) z ∙ bit_zero i)
times_parts (suc d) n zero h =
    omega (arith, times_lowest (n % 2) (map double (parts_of d (n / 2))) 0 (omega arith), times_even (parts_of d (n / 2)))
times_parts (suc d) n (suc i) h =
    let z : n % 2 / 2 ≡ 0 = omega arith in
    omega (
      arith,
      times_lowest (n % 2) (map double (parts_of d (n / 2))) (suc i) (omega arith),
      ap (λ (x : ℕ). bit x i) z,
      bit_zero i,
      times_double (parts_of d (n / 2)) i,
      times_parts d (n / 2) i (half_below d n h),
    )

pub joined_parts : (d n : ℕ) → n < 2 ^ d → joined (parts_of d n) ≡ n
joined_parts d n h = same_set _ _ (λ i. omega (arith, bit_joined (parts_of d n) i, times_parts d n i h, bit_lt n i))

-- what each part alone is
all_lowest : (P : ℕ → Type 0) → P 1 → (b : ℕ) (xs : List ℕ) → AllByRecursion P xs → AllByRecursion P (lowest b xs)
all_lowest P one zero xs h = h
all_lowest P one (suc b) xs h = (one, h)

pub all_parts : (P : ℕ → ℕ → Type 0) → ((d : ℕ) → P (suc d) 1) → ((d x : ℕ) → P d x → P (suc d) (double x)) → (d n : ℕ) → AllByRecursion (P d) (parts_of d n)
all_parts P one twice zero n = tt
all_parts P one twice (suc d) n =
    all_lowest (P (suc d)) (one d) (n % 2) _ (All-map (P (suc d)) double _ (All-weaker (P d) (λ x. P (suc d) (double x)) (twice d) _ (all_parts P one twice d (n / 2))))

pub parts_filled : (d n : ℕ) → AllByRecursion (λ x. 0 < x) (parts_of d n)
parts_filled = all_parts (λ _ x. 0 < x) (λ _. omega arith) (λ d x h. omega arith)

pub parts_below : (d n : ℕ) → AllByRecursion (λ x. x < 2 ^ d) (parts_of d n)
parts_below = all_parts (λ d x. x < 2 ^ d) (λ d. omega (arith, pow_pos d)) (λ d x h. omega arith)

-- one part alone: each set has it or is apart from it
abbrev pub Lone : ℕ → Type 0
Lone x = (s : ℕ) → not (within x s) ≡ empty (bit_and x s)

within_double : (x s : ℕ) → within (double x) s ≡ within x (s / 2)
within_double x s =
    same_from_decides (within (double x) s) (within x (s / 2)) (decides_within (double x) s)
    (Decides-like (within x (s / 2)) there (λ h i. omega (arith, h (suc i), bit_double x i)) (decides_within x (s / 2)))
  where
    there : In x (s / 2) → In (double x) s
    there h zero = omega arith
    there h (suc i) = omega (arith, h i, bit_double x i)

and_double : (x s : ℕ) → bit_and (double x) s ≡ double (bit_and x (s / 2))
and_double x s =
    and_step (double x) s ∙ ap (λ (y : ℕ). bit_and y (s / 2) * 2 + min (double x % 2) (s % 2)) (double_half x) ∙ omega arith

empty_double : (y : ℕ) → empty (double y) ≡ empty y
empty_double y = grind (arith, nat_tests)

lone_one : Lone 1
lone_one s = let small = and_le_l 1 s in go (bit_and 1 s) small
  where
    go : (v : ℕ) → v ≤ 1 → not (eqb v 1) ≡ eqb v 0
    go v h = grind (arith, nat_tests)

lone_double : (x : ℕ) → Lone x → Lone (double x)
lone_double x h s =
    ap not (within_double x s) ∙ h (s / 2) ∙ sym (ap empty (and_double x s) ∙ empty_double (bit_and x (s / 2)))

pub parts_lone : (d n : ℕ) → AllByRecursion Lone (parts_of d n)
parts_lone = all_parts (λ _ x. Lone x) (λ _. lone_one) (λ d x h. lone_double x h)

pub apart_or : (a b s : ℕ) → empty (bit_and (bit_or a b) s) ≡ (empty (bit_and a s) && empty (bit_and b s))
apart_or a b s =
    same_from_decides _ _ (decides_apart (bit_or a b) s)
    (Decides-like (empty (bit_and a s) && empty (bit_and b s))
    (λ h i. omega (arith, bit_of_or a b i, h.0 i, h.1 i))
    (λ h. (λ i. omega (arith, bit_of_or a b i, h i), λ i. omega (arith, bit_of_or a b i, h i)))
    (Decides-and _ _ (decides_apart a s) (decides_apart b s)))

-- ---- the same of all the parts of a set

pub times_set : (n i : ℕ) → n < 2 ^ 24 → times (parts n) i ≡ bit n i
times_set n i h = ap (λ xs. times xs i) (parts_are n) ∙ times_parts 24 n i h

pub joined_set : (n : ℕ) → n < 2 ^ 24 → joined (parts n) ≡ n
joined_set n h = ap joined (parts_are n) ∙ joined_parts 24 n h

pub filled_set : (n : ℕ) → AllByRecursion (λ x. 0 < x) (parts n)
filled_set n = subst (AllByRecursion (λ x. 0 < x)) (sym (parts_are n)) (parts_filled 24 n)

pub below_set : (n : ℕ) → AllByRecursion (λ x. x < 2 ^ 24) (parts n)
below_set n = subst (AllByRecursion (λ x. x < 2 ^ 24)) (sym (parts_are n)) (parts_below 24 n)

pub lone_set : (n : ℕ) → AllByRecursion Lone (parts n)
lone_set n = subst (AllByRecursion Lone) (sym (parts_are n)) (parts_lone 24 n)
