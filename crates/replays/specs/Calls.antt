-- Entries, sealings and reopenings are asked of a book as a history calls for them.
use Rattle.std.specs.Prelude.{◌≡◌}
use Rattle.histories.specs.Entry.{Book, Answer}
use Rattle.histories.specs.Runs as runs
use Rattle.histories.specs.Runs.{Call, Step}
use Rattle.measures.specs.Semiring.{Semiring}
use Rattle.products.specs.Cutting.{Cut}
use Rattle.stages.specs.Asks.{Ask, enter, seal, reopen, not_allowed, answer_told, next, answered}

-- what a call asks
abbrev pub asked : {V : Type 0} → Call → Ask V
asked (runs.enter places path) = enter places path
asked runs.seal = seal
asked runs.reopen = reopen

-- a call that the book allows leads to the book of the history, and is answered as there; one that it does not allow is passed over
pub record Agree (R : Semiring) {V : Type 0} (mean : V → R.Of) (cut : Cut) (b : Book) (call : Call) : Type 0 where
  pub allowed : (a : Answer) (after : Book) → Step cut b call a after → (next cut b (asked {V = V} call) ≡ after) × (answered R mean cut b (asked call) ≡ answer_told a)
  pub passed : ((a : Answer) (after : Book) → Step cut b call a after → ⊥) → (next cut b (asked {V = V} call) ≡ b) × (answered R mean cut b (asked call) ≡ not_allowed)

abbrev pub CallsAgree : (R : Semiring) {V : Type 0} → (V → R.Of) → Cut → Type 0
CallsAgree R mean cut = (b : Book) (call : Call) → Agree R mean cut b call
