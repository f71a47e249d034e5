-- The lowest part of a set is the first of its parts.
use Rattle.std.proofs.Common.{◌≡◌, ℕ, zero, suc, ◌+◌, ◌-◌, ◌/◌, ◌%◌, ◌^◌, ◌<◌, ◌≤◌, min, ◌⊎◌, List, [], ◌∷◌, map, length, get_or, drop, sym, refl, ap, ◌∙◌, ap₂, inl, inr, pow-suc, arith}
use lib.Count.{ones, ones_step, count_trailing_zeros, under}
use Rattle.std.proofs.lemmas.List.{drop_all}
use Rattle.std.proofs.lemmas.Bool.{cases_lt}
use Rattle.parts.specs.Sets.{without, numbers, parts}
use Rattle.parts.proofs.Bit.{without_zero, without_half, without_low}
use Rattle.parts.proofs.Alone.{double, lowest, parts_of, half_below, parts_are}

length_double : (xs : List ℕ) → length (map double xs) ≡ length xs
length_double [] = refl
length_double (x ∷ xs) = ap suc (length_double xs)

length_lowest : (b : ℕ) (xs : List ℕ) → b < 2 → length (lowest b xs) ≡ b + length xs
length_lowest zero xs h = omega arith
length_lowest (suc zero) xs h = omega arith
length_lowest (suc (suc b)) xs h = absurd (omega arith)

pub length_parts : (d n : ℕ) → n < 2 ^ d → length (parts_of d n) ≡ ones n
unfolding ones
length_parts zero n h = let z : n ≡ 0 = omega arith in sym (ap ones z)
length_parts (suc d) n h =
    length_lowest (n % 2) _ (omega arith)
    ∙ ap (λ (k : ℕ). n % 2 + k) (length_double (parts_of d (n / 2)) ∙ length_parts d (n / 2) (half_below d n h))
    ∙ sym (ones_step n)

first_double : (xs : List ℕ) → get_or (map double xs) 0 0 ≡ double (get_or xs 0 0)
first_double [] = refl
first_double (x ∷ xs) = refl

rest_double : (xs : List ℕ) → drop 1 (map double xs) ≡ map double (drop 1 xs)
rest_double [] = refl
rest_double (x ∷ xs) = refl

-- the lowest part of a set that is not empty
pub first_part : (d k n : ℕ) → d ≤ k → 0 < n → n < 2 ^ d → get_or (parts_of d n) 0 0 ≡ 2 ^ count_trailing_zeros k n
unfolding count_trailing_zeros
first_part zero k n l p h = absurd (omega arith)
first_part (suc d) zero n l p h = absurd (omega arith)
first_part (suc d) (suc k) n l p h =
    go (n % 2) (count_trailing_zeros k (n / 2)) (parts_of d (n / 2)) (λ e. first_part d k (n / 2) (omega arith) (omega arith) (half_below d n h))
  where
    go : (b t : ℕ) (xs : List ℕ) → (b ≡ 0 → get_or xs 0 0 ≡ 2 ^ t) → get_or (lowest b (map double xs)) 0 0 ≡ 2 ^ under b t
    go zero t xs ih = first_double xs ∙ ap double (ih refl) ∙ sym (pow-suc 2 t)
    go (suc b) t xs ih = refl

pub rest_parts : (d k n : ℕ) → d ≤ k → 0 < n → n < 2 ^ d → parts_of d (without n (2 ^ count_trailing_zeros k n)) ≡ drop 1 (parts_of d n)
unfolding count_trailing_zeros
rest_parts zero k n l p h = absurd (omega arith)
rest_parts (suc d) zero n l p h = absurd (omega arith)
rest_parts (suc d) (suc k) n l p h =
    let low = 2 ^ count_trailing_zeros (suc k) n in
    ap₂ (λ (b m : ℕ). lowest b (map double (parts_of d m))) (without_low n low) (without_half n low)
    ∙ go (n % 2) (count_trailing_zeros k (n / 2)) (λ e. rest_parts d k (n / 2) (omega arith) (omega arith) (half_below d n h)) (omega arith)
  where
    go : (b t : ℕ) → (b ≡ 0 → parts_of d (without (n / 2) (2 ^ t)) ≡ drop 1 (parts_of d (n / 2))) → b < 2
        → lowest (b - 2 ^ under b t % 2) (map double (parts_of d (without (n / 2) (2 ^ under b t / 2)))) ≡ drop 1 (lowest b (map double (parts_of d (n / 2))))
    go zero t ih h =
        let half : 2 ^ suc t / 2 ≡ 2 ^ t = omega arith in
        let even : 0 - 2 ^ suc t % 2 ≡ 0 = omega arith in
        ap₂ (λ (b m : ℕ). lowest b (map double (parts_of d (without (n / 2) m)))) even half
        ∙ ap (map double) (ih refl) ∙ sym (rest_double (parts_of d (n / 2)))
    go (suc zero) t ih h = ap (λ (m : ℕ). map double (parts_of d m)) (without_zero (n / 2))
    go (suc (suc b)) t ih h = absurd (omega arith)

pub count_parts : (n : ℕ) → n < 2 ^ 24 → length (parts n) ≡ ones n
count_parts n h = ap length (parts_are n) ∙ length_parts 24 n h

pub low_part : (n : ℕ) → 0 < n → n < 2 ^ 24 → get_or (parts n) 0 0 ≡ 2 ^ count_trailing_zeros 32 n
low_part n p h = ap (λ xs. get_or xs 0 0) (parts_are n) ∙ first_part 24 32 n (omega arith) p h

pub past_low : (n : ℕ) → 0 < n → n < 2 ^ 24 → parts (without n (2 ^ count_trailing_zeros 32 n)) ≡ drop 1 (parts n)
past_low n p h = parts_are (without n (2 ^ count_trailing_zeros 32 n)) ∙ rest_parts 24 32 n (omega arith) p h ∙ ap (drop 1) (sym (parts_are n))

pub parts_none : parts 0 ≡ []
unfolding parts numbers
parts_none = refl

pub low_place : (d k n : ℕ) → d ≤ k → 0 < n → n < 2 ^ d → count_trailing_zeros k n < d
unfolding count_trailing_zeros
low_place zero k n l p h = absurd (omega arith)
low_place (suc d) zero n l p h = absurd (omega arith)
low_place (suc d) (suc k) n l p h =
    go (n % 2) (count_trailing_zeros k (n / 2)) (λ e. low_place d k (n / 2) (omega arith) (omega arith) (half_below d n h))
  where
    go : (b t : ℕ) → (b ≡ 0 → t < d) → under b t < suc d
    go zero t ih = let small : t < d = ih refl in omega arith
    go (suc b) t ih = omega arith

-- a set without the first of its parts has the others
pub past_first : (n : ℕ) → 0 < n → n < 2 ^ 24 → parts (without n (get_or (parts n) 0 0)) ≡ drop 1 (parts n)
past_first n p h = ap (λ (x : ℕ). parts (without n x)) (low_part n p h) ∙ past_low n p h

-- past the end of a list nothing more is dropped
pub drop_capped : (xs : List ℕ) (k n : ℕ) → length xs ≤ n → drop (min k n) xs ≡ drop k xs
drop_capped xs k n h = go (cases_lt k n)
  where
    go : (k < n) ⊎ (n ≤ k) → drop (min k n) xs ≡ drop k xs
    go (inl l) = ap (λ (m : ℕ). drop m xs) (omega arith)
    go (inr l) = drop_all (min k n) xs (omega arith) ∙ sym (drop_all k xs (omega arith))
