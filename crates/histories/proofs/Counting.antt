-- In how many products of a list a state is, and where.
use Rattle.std.proofs.Common.{◌≡◌, ℕ, zero, suc, ◌<◌, ◌≤◌, Bool, true, false, ◌||◌, List, [], ◌∷◌, ◌++◌, length, get_or, sym, refl, ap, ◌∙◌, arith}
use Rattle.std.proofs.lemmas.Bool.{or_left, or_right}
use Rattle.std.proofs.Math.Bool.{or-false, or_assoc}
use Rattle.parts.specs.Sets.{within}
use Rattle.products.specs.Product.{Meaning, product, is_in, how_many}
use Rattle.products.proofs.Cuts.{one_if}
use Rattle.histories.specs.Entry.{covered}

-- product j of the row has the state
abbrev pub At : List Meaning → ℕ → ℕ → Type 0
At ps j s = (j < length ps) × (is_in (get_or ps j (product 0 [])) s ≡ true)

first_counts : (p : Meaning) (s : ℕ) → is_in p s ≡ true → one_if (is_in p s) ≡ 1
first_counts p s h = ap one_if h

pub at_counts : (ps : List Meaning) (j s : ℕ) → At ps j s → 1 ≤ how_many ps s
at_counts [] j s h = absurd (omega (arith, h.0))
at_counts (p ∷ ps) zero s h = omega (arith, first_counts p s h.1)
at_counts (p ∷ ps) (suc j) s h = let rest : 1 ≤ how_many ps s = at_counts ps j s (omega (arith, h.0), h.1) in omega arith

-- a state in at most one product is in one only
pub one_place : (ps : List Meaning) (j k s : ℕ) → how_many ps s ≤ 1 → At ps j s → At ps k s → j ≡ k
one_place [] j k s most h l = absurd (omega (arith, h.0))
one_place (p ∷ ps) zero zero s most h l = refl
one_place (p ∷ ps) zero (suc k) s most h l =
    let rest : 1 ≤ how_many ps s = at_counts ps k s (omega (arith, l.0), l.1) in absurd (omega (arith, first_counts p s h.1))
one_place (p ∷ ps) (suc j) zero s most h l =
    let rest : 1 ≤ how_many ps s = at_counts ps j s (omega (arith, h.0), h.1) in absurd (omega (arith, first_counts p s l.1))
one_place (p ∷ ps) (suc j) (suc k) s most h l =
    ap suc (one_place ps j k s (omega arith) (omega (arith, h.0), h.1) (omega (arith, l.0), l.1))

-- a state that is counted is in a product
pub find : (ps : List Meaning) (s : ℕ) → 1 ≤ how_many ps s → (j : ℕ) × At ps j s
find [] s h = absurd (omega arith)
find (p ∷ ps) s h = go (is_in p s) refl (find ps s)
  where
    later : (j : ℕ) × At ps j s → (j : ℕ) × At (p ∷ ps) j s
    later f = (suc f.0, (omega (arith, f.1.0), f.1.1))

    go : (b : Bool) → is_in p s ≡ b → (1 ≤ how_many ps s → (j : ℕ) × At ps j s) → (j : ℕ) × At (p ∷ ps) j s
    go true e rest = (0, (omega arith, e))
    go false e rest = later (rest (omega (arith, ap one_if e)))

abbrev pub Some : List ℕ → ℕ → Type 0
Some paths s = (i : ℕ) × (i < length paths) × (within (get_or paths i 0) s ≡ true)

pub covered_some : (paths : List ℕ) (s : ℕ) → covered paths s ≡ true → Some paths s
covered_some [] s h = absurd (let z : ◌≡◌ {A = ℕ} 0 1 = ap one_if h in omega arith)
covered_some (path ∷ paths) s h = go (within path s) refl (covered_some paths s)
  where
    later : Some paths s → Some (path ∷ paths) s
    later f = (suc f.0, omega (arith, f.1), f.2)

    go : (b : Bool) → within path s ≡ b → (covered paths s ≡ true → Some paths s) → Some (path ∷ paths) s
    go true e rest = (0, omega arith, e)
    go false e rest = later (rest (sym (ap (λ b. b || covered paths s) e) ∙ h))

pub some_covered : (paths : List ℕ) (i s : ℕ) → i < length paths → within (get_or paths i 0) s ≡ true → covered paths s ≡ true
some_covered [] i s l h = absurd (omega arith)
some_covered (path ∷ paths) zero s l h = or_left (within path s) (covered paths s) h
some_covered (path ∷ paths) (suc i) s l h = or_right (within path s) (covered paths s) (some_covered paths i s (omega arith) h)

pub covered_push : (paths : List ℕ) (path s : ℕ) → covered (paths ++ (path ∷ [])) s ≡ (covered paths s || within path s)
covered_push [] path s = or-false (within path s)
covered_push (p ∷ paths) path s = ap (λ b. within p s || b) (covered_push paths path s) ∙ sym (or_assoc (within p s) (covered paths s) (within path s))
