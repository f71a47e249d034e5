-- What a book comes to step by step, what is told of each step, and what holds of every book on the way.
use Rattle.std.specs.Prelude.{◌≡◌, ℕ, List, [], ◌∷◌, map, take, fold}
use Rattle.histories.specs.Entry.{Book, covered}
use Rattle.histories.specs.Sound.{Sound}
use Rattle.measures.specs.Lists.{total}
use Rattle.measures.specs.Semiring.{Semiring}
use Rattle.products.specs.Cutting.{Cut}
use Rattle.products.specs.Product.{is_in}
use Rattle.stages.specs.Asks.{Ask, Telling, next, telling}
use Rattle.worths.specs.States.{worth_of}

-- the book after all that is asked, one after the other
abbrev pub after : {V : Type 0} → Cut → Book → List (Ask V) → Book
after cut = fold (next cut)

module _ (R : Semiring) {V : Type 0} (mean : V → R.Of) where
  -- what is told of each
  abbrev pub tellings : Cut → Book → List (Ask V) → List (Telling R.Of)
  tellings cut b [] = []
  tellings cut b (ask ∷ asks) = telling R mean cut b ask ∷ tellings cut (next cut b ask) asks

-- the book is sound at the start and after each thing asked
abbrev pub SoundAlong : {V : Type 0} → Cut → Book → List (Ask V) → Type 0
SoundAlong cut b asks = (k : ℕ) → Sound cut (after cut b (take k asks))

-- whatever the parts weigh, the worths of the products add up to the worth of the states that contain an entered path
abbrev pub Adding : Semiring → Book → Type 0
Adding R b =
    (W F : ℕ → R.Of) → total R (map (λ p. worth_of R b.parts W F (is_in p)) b.products) ≡ worth_of R b.parts W F (covered b.paths)

abbrev pub AddingAlong : {V : Type 0} → Semiring → Cut → Book → List (Ask V) → Type 0
AddingAlong R cut b asks = (k : ℕ) → Adding R (after cut b (take k asks))
