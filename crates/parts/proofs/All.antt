-- The set of all parts below a number.
use Rattle.std.proofs.Common.{◌≡◌, ℕ, zero, suc, ◌+◌, ◌-◌, ◌/◌, ◌%◌, ◌^◌, ◌≤◌, [], ◌∷◌, map, sym, refl, ap, ◌∙◌, ap₂, pow-suc, arith, pow_pos}
use Rattle.std.specs.List.{range_with_len}
use Rattle.parts.specs.Sets.{parts}
use Rattle.parts.proofs.Alone.{double, lowest, parts_of, parts_are}

alone_next : (n a : ℕ) → map (λ (i : ℕ). 2 ^ i) (range_with_len (suc a) n) ≡ map double (map (λ (i : ℕ). 2 ^ i) (range_with_len a n))
alone_next zero a = refl
alone_next (suc n) a =
    let next : suc a + 1 ≡ suc (a + 1) = omega arith in
    ap₂ (λ (x : ℕ) l. x ∷ l) (pow-suc 2 a) (ap (λ (k : ℕ). map (λ (i : ℕ). 2 ^ i) (range_with_len k n)) next ∙ alone_next n (a + 1))

parts_of_none : (d : ℕ) → parts_of d 0 ≡ []
parts_of_none zero = refl
parts_of_none (suc d) = ap (map double) (parts_of_none d)

parts_of_all : (d n : ℕ) → n ≤ d → parts_of d (2 ^ n - 1) ≡ map (λ (i : ℕ). 2 ^ i) (range_with_len 0 n)
parts_of_all d zero h = parts_of_none d
parts_of_all zero (suc n) h = absurd (omega arith)
parts_of_all (suc d) (suc n) h =
    let some = pow_pos n in
    let low : (2 ^ suc n - 1) % 2 ≡ 1 = omega (arith, some) in
    let half : (2 ^ suc n - 1) / 2 ≡ 2 ^ n - 1 = omega (arith, some) in
    ap₂ (λ (b m : ℕ). lowest b (map double (parts_of d m))) low half
    ∙ ap (λ l. 1 ∷ map double l) (parts_of_all d n (omega arith)) ∙ ap (λ l. 1 ∷ l) (sym (alone_next n 0))

-- the parts of all numbers below n, each alone
pub parts_all : (n : ℕ) → n ≤ 24 → parts (2 ^ n - 1) ≡ map (λ (i : ℕ). 2 ^ i) (range_with_len 0 n)
parts_all n h = parts_are (2 ^ n - 1) ∙ parts_of_all 24 n h
