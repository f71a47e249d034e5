-- What is promised of a whole history: of the book it comes to, of what was told of each step, and of every book on the way.
use Rattle.std.specs.Prelude.{◌≡◌, ℕ, List, map, length}
use Rattle.books.specs.Held.{lent, SparedSpace}
use Rattle.histories.specs.Runs.{making}
use Rattle.measures.specs.Semiring.{Semiring}
use Rattle.products.specs.Cutting.{Cut}
use Rattle.products.specs.Product.{Meaning}
use Rattle.products.specs.declared.kind.ProductKind.{Ghosts}
use Rattle.replays.specs.Along.{after, tellings, SoundAlong, AddingAlong}
use Rattle.stages.specs.Stages.{asks_of, telling_of, book_of, space_of}
use Rattle.stages.specs.declared.stage.HistoryStep.{HistoryStep}
use Rattle.stages.specs.declared.stage.Stage.{Stage}

-- V is what worths are read in, R and `mean` what its values mean; a machine of n parts, the slots as they were lent, a working
-- space of `most` products, the steps, and the book at the end
pub record Replayed {K V : Type 0} {kind : Ghosts K} (R : Semiring) (mean : V → R.Of) (cut : Cut) (meaning : K → Meaning) (n : ℕ) (slots : List K) (most : ℕ) (steps : List (HistoryStep V)) (stage : Stage K kind) : Type 0 where
  -- the book is what the steps make of a new one
  pub book : book_of meaning stage ≡ after cut (making n (length slots)) (asks_of most steps)
  -- what was told of each step is what the definitions say of the book before it: of a worth, that it is the sum of the state
  -- worths over exactly the states that contain an entered path
  pub told : map (λ s. telling_of mean s.report) steps ≡ tellings R mean cut (making n (length slots)) (asks_of most steps)
  -- after the making and after each step the products are apart, and hold the states that contain an entered path and no other
  pub sound : SoundAlong cut (making n (length slots)) (asks_of most steps)
  -- and their worths add up to the worth of these states
  pub adding : AddingAlong R cut (making n (length slots)) (asks_of most steps)
  -- the slots past the last product are as they were lent
  pub spared : SparedSpace (lent slots) (space_of stage)
