-- What is promised of the steps of a client: it asks for each of them.
use Rattle.std.specs.Prelude.{◌≡◌, ℕ, ◌≤◌, List, [], ◌∷◌, ◌++◌, length, Some, None, Option, Ok, Err, Result}
use Rattle.stages.specs.declared.order.Order.{Order}
use Rattle.stages.specs.declared.stage.HistoryStep.{HistoryStep}
use Rattle.clients.specs.declared.ending.CutShort.{CutShort}
use Rattle.clients.specs.declared.ending.CutShort.TheVariants.{NoMemory, Full}

-- the steps are those that a client asks for, one after the other: it is `first` before them and `last` after them, and is shown
-- the earlier steps each time
module _ {C V : Type 0} (asks : C → List (HistoryStep V) → Option (Order V) → C → Type 0) where
  pub data Asking (first : C) : List (HistoryStep V) → C → Type 0 where
    nothing : Asking first [] first
    one_more : {steps : List (HistoryStep V)} {before after : C} (step : HistoryStep V) → Asking first steps before → asks before steps (Some step.order) after → Asking first (steps ++ (step ∷ [])) after

  -- the client asks for nothing more; there is no more room for a step than there was from the start; or no further step can be counted
  abbrev pub Ended : ℕ → List (HistoryStep V) → C → Result (Unit {0}) CutShort → C → Type 0
  Ended room steps last (Ok _) after = asks last steps None after
  Ended room steps last (Err NoMemory) after = (room ≤ length steps) × (after ≡ last)
  Ended room steps last (Err Full) after = (18446744073709551615 ≤ length steps) × (after ≡ last)

  -- the client before them and after all, the steps, the room that there was for them, and why they ended
  pub record AskedFor (first : C) (steps : List (HistoryStep V)) (room : ℕ) (ending : Result (Unit {0}) CutShort) (after : C) : Type 0 where
    pub last : C
    pub asking : Asking first steps last
    pub ended : Ended room steps last ending after
