-- What a book comes to by entries, sealings and reopenings alone, and what each of them answers. A call that the book does not
-- allow is passed over.
use Rattle.std.specs.Prelude.{ℕ, true, false, cond, List, [], ◌∷◌, map, take, Ok, Err, fold, Result}
use Rattle.histories.specs.Entry.{Book, Answer, answer}
use Rattle.histories.specs.Runs.{Call, enter, seal, reopen, after_entry, marked}
use Rattle.histories.specs.Sound.{Sound}
use Rattle.products.specs.Cutting.{Cut}
use Rattle.replays.specs.declared.changes.HistoryStep.{HistoryStep}
use Rattle.replays.specs.declared.changes.Order.{Order}
use Rattle.replays.specs.declared.changes.Order.TheVariants.{Enter, Seal, Reopen}
use Rattle.replays.specs.declared.changes.Outcome.{Outcome}
use Rattle.replays.specs.declared.changes.Outcome.TheVariants.{Taken, Refused, NotAllowed}
use Rattle.stages.specs.declared.answer.Answer as given
use Rattle.stages.specs.declared.answer.NotTaken.{NotTaken}
use Rattle.stages.specs.declared.answer.NotTaken.TheVariants as untaken

-- an order as a call, with a working space of so many products
abbrev pub call_of : ℕ → Order → Call
call_of places (Enter path) = enter places path.bits
call_of places Seal = seal
call_of places Reopen = reopen

abbrev pub order_of : HistoryStep → Order
order_of s = s.order

-- the orders of a history as calls
abbrev pub calls_of : ℕ → List HistoryStep → List Call
calls_of places steps = map (call_of places) (map order_of steps)

abbrev pub answer_of : HistoryStep → Outcome
answer_of s = s.outcome

-- the book after a call
abbrev pub next : Cut → Book → Call → Book
next cut b (enter places path) = cond b.is_sealed b (after_entry cut b path (answer cut b places path))
next cut b seal = cond b.is_sealed b (marked true b)
next cut b reopen = cond b.is_sealed (marked false b) b

abbrev pub outcome_of : Answer → Outcome
outcome_of (Ok _) = Taken
outcome_of (Err refusal) = Refused refusal

-- what a call answers
abbrev pub answered : Cut → Book → Call → Outcome
answered cut b (enter places path) = cond b.is_sealed NotAllowed (outcome_of (answer cut b places path))
answered cut b seal = cond b.is_sealed NotAllowed Taken
answered cut b reopen = cond b.is_sealed Taken NotAllowed

-- the book after calls, one after the other, and what each of them answers
abbrev pub after : Cut → Book → List Call → Book
after cut = fold (next cut)

abbrev pub outcomes : Cut → Book → List Call → List Outcome
outcomes cut b [] = []
outcomes cut b (call ∷ calls) = answered cut b call ∷ outcomes cut (next cut b call) calls

-- the book is sound at the start and after each of the calls
abbrev pub SoundAlong : Cut → Book → List Call → Type 0
SoundAlong cut b calls = (k : ℕ) → Sound cut (after cut b (take k calls))

-- what a step tells, without what a reading gives
abbrev pub outcome_told : {V : Type 0} → Result (given.Answer V) NotTaken → Outcome
outcome_told (Ok _) = Taken
outcome_told (Err (untaken.Refused refusal)) = Refused refusal
outcome_told (Err untaken.NotAllowed) = NotAllowed
