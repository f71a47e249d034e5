-- Products that share no state are at most as many as the states.
use Rattle.std.proofs.Common.{◌≡◌, ℕ, zero, suc, ◌+◌, ◌^◌, ◌<◌, ◌≤◌, Bool, true, false, not, ◌⊎◌, List, [], ◌∷◌, length, refl, ap, inl, inr, arith}
use lib.Bits.{bit_and, bit_or}
use Rattle.std.specs.List.{AllByRecursion}
use Rattle.std.proofs.lemmas.Bool.{and_parts, and_from, eqb-false, not-true, not_from_false, cases_lt}
use Rattle.parts.specs.Sets.{within, empty, joined}
use Rattle.products.specs.Product.{Meaning, lacks_each, is_in, how_many, tidy_from, tidy, names}
use Rattle.parts.proofs.Bit.{In, bit_zero, bit_of_or, same_set, decides_within, decides_apart, in_below}
use Rattle.products.proofs.Cuts.{one_if}
use Rattle.products.specs.Law.{KindLaws}
use Rattle.products.specs.Cutting.{Cut}
use Rattle.histories.proofs.Fresh.{Good}

-- a tidy product has the state in which its must set works and nothing else
not_in : (g m used : ℕ) → In m used → not (empty g) ≡ true → empty (bit_and used g) ≡ true → within g m ≡ false
not_in g m used sub some free = go (within g m) refl
  where
    go : (b : Bool) → within g m ≡ b → b ≡ false
    go true e =
        let zeros : g ≡ 0 = same_set g 0 (λ i. omega (arith, (decides_within g m).0 e i, sub i, (decides_apart used g).0 free i, bit_zero i)) in
        absurd (eqb-false g 0 (not-true (empty g) some) zeros)
    go false e = refl

lacks_own : (m used : ℕ) (gs : List ℕ) → In m used → tidy_from used gs ≡ true → lacks_each gs m ≡ true
lacks_own m used [] sub h = refl
lacks_own m used (g ∷ gs) sub h =
    let here = and_parts (not (empty g)) _ h in
    let next = and_parts (empty (bit_and used g)) _ here.1 in
    and_from (not (within g m)) _ (not_from_false (within g m) (not_in g m used sub here.0 next.0))
    (lacks_own m (bit_or used g) gs (λ i. omega (arith, sub i, bit_of_or used g i)) next.1)

pub own_state : (p : Meaning) → tidy p ≡ true → is_in p p.must ≡ true
own_state p h =
    and_from (within p.must p.must) _ ((decides_within _ _).1 (λ i. omega arith)) (lacks_own p.must p.must p.groups (λ i. omega arith) h)

pub must_below : (n : ℕ) (p : Meaning) → names p < 2 ^ n → p.must < 2 ^ n
must_below n p h = in_below n p.must (names p) (λ i. omega (arith, bit_of_or p.must (joined p.groups) i)) h

-- a function summed over the numbers below n
abbrev pub over : (ℕ → ℕ) → ℕ → ℕ
over f zero = 0
over f (suc n) = f n + over f n

over_at : (f : ℕ → ℕ) (n k : ℕ) → k < n → f k ≤ over f n
over_at f zero k h = absurd (omega arith)
over_at f (suc n) k h = go (over_at f n k) (cases_lt k n)
  where
    go : (k < n → f k ≤ over f n) → (k < n) ⊎ (n ≤ k) → f k ≤ f n + over f n
    go rest (inl l) = omega (arith, rest l)
    go rest (inr l) = let same : k ≡ n = omega arith in omega (arith, ap f same)

over_plus : (f g : ℕ → ℕ) (n : ℕ) → over (λ s. f s + g s) n ≡ over f n + over g n
over_plus f g zero = refl
over_plus f g (suc n) = omega (arith, over_plus f g n)

over_none : (n : ℕ) → over (λ _. 0) n ≡ 0
over_none zero = refl
over_none (suc n) = omega (arith, over_none n)

over_most : (f : ℕ → ℕ) (n : ℕ) → ((s : ℕ) → s < n → f s ≤ 1) → over f n ≤ n
over_most f zero h = omega arith
over_most f (suc n) h = omega (arith, h n (omega arith), over_most f n (λ s l. h s (omega arith)))

many_over : {fits : Meaning → Type 0} {cut : Cut} (laws : KindLaws fits cut) (n : ℕ) (ps : List Meaning) → AllByRecursion (Good fits n) ps → length ps ≤ over (how_many ps) (2 ^ n)
many_over laws n [] good = omega arith
many_over laws n (p ∷ ps) good =
    let own : one_if (is_in p p.must) ≡ 1 = ap one_if (own_state p (laws.tidies p good.0.fit)) in
    let here : one_if (is_in p p.must) ≤ over (λ s. one_if (is_in p s)) (2 ^ n) = over_at (λ s. one_if (is_in p s)) (2 ^ n) p.must (must_below n p good.0.below) in
    let split : over (how_many (p ∷ ps)) (2 ^ n) ≡ over (λ s. one_if (is_in p s)) (2 ^ n) + over (how_many ps) (2 ^ n) = over_plus (λ s. one_if (is_in p s)) (how_many ps) (2 ^ n) in
    let rest : length ps ≤ over (how_many ps) (2 ^ n) = many_over laws n ps good.1 in
    omega arith

pub at_most : {fits : Meaning → Type 0} {cut : Cut} (laws : KindLaws fits cut) (n : ℕ) (ps : List Meaning) → AllByRecursion (Good fits n) ps → ((s : ℕ) → s < 2 ^ n → how_many ps s ≤ 1) → length ps ≤ 2 ^ n
at_most laws n ps good h = omega (arith, many_over laws n ps good, over_most (how_many ps) (2 ^ n) h)
