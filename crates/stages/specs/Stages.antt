-- What the books, the orders and the reports of the code are, as the histories speak of them.
use Rattle.std.specs.Borrow.{GName}
use Rattle.std.specs.Prelude.{ℕ, min, List, map, Ok, Err, vec_items, Result}
use Rattle.books.specs.Held.{open_book, sealed_book, Space, open_space, sealed_space, open_through, sealed_through}
use Rattle.histories.specs.Entry.{Book}
use Rattle.products.specs.Product.{Meaning}
use Rattle.products.specs.declared.kind.ProductKind.{Ghosts}
use Rattle.readings.specs.Readings as readings
use Rattle.refusals.specs.declared.refusal.Refusal.{Refusal}
use Rattle.stages.specs.Asks.{Ask, enter, counts, seal, reopen, read, Told, taken, gives, refused, not_allowed, Telling}
use Rattle.stages.specs.declared.stage.HistoryStep.{HistoryStep}
use Rattle.stages.specs.declared.answer.Answer.{Answer}
use Rattle.stages.specs.declared.answer.Answer.TheVariants.{Taken, Worth, Number, Parts}
use Rattle.stages.specs.declared.answer.NotTaken.{NotTaken}
use Rattle.stages.specs.declared.answer.NotTaken.TheVariants.{Refused, NotAllowed}
use Rattle.stages.specs.declared.answer.Report.{Report}
use Rattle.stages.specs.declared.order.Order.{Order}
use Rattle.stages.specs.declared.order.Order.TheVariants.{Enter, Counts, Seal, Reopen, Read}
use Rattle.stages.specs.declared.order.Reading.{Reading}
use Rattle.stages.specs.declared.order.Reading.TheVariants.{Worth as WorthOf, ProductWorth, Covered, Must, GroupCount, Group}
use Rattle.stages.specs.declared.stage.Stage.{Stage}
use Rattle.stages.specs.declared.stage.Stage.TheVariants.{Open, Sealed}
use Rattle.stages.specs.declared.order.Weighing.{Weighing}

abbrev pub weighing_of : {V : Type 0} → Weighing V → readings.Weighing V
weighing_of w = record { works = vec_items w.works; fails = vec_items w.fails; card = w.card }

abbrev pub reading_of : {V : Type 0} → Reading V → readings.Reading V
reading_of (WorthOf w) = readings.worth_of_book (weighing_of w)
reading_of (ProductWorth k w) = readings.worth_of_product k (weighing_of w)
reading_of Covered = readings.covered_count
reading_of (Must k) = readings.must_set k
reading_of (GroupCount k) = readings.count_of_groups k
reading_of (Group k j) = readings.lack_group k j

-- what an order asks, where the working space has so many products
abbrev pub ask_of : {V : Type 0} → ℕ → Order V → Ask V
ask_of most (Enter path places) = enter (min places most) path.bits
ask_of most Counts = counts
ask_of most Seal = seal
ask_of most Reopen = reopen
ask_of most (Read r) = read (reading_of r)

abbrev pub order_of : {V : Type 0} → HistoryStep V → Order V
order_of s = s.order

-- what the orders of a history ask
abbrev pub asks_of : {V : Type 0} → ℕ → List (HistoryStep V) → List (Ask V)
asks_of most steps = map (ask_of most) (map order_of steps)

-- what an outcome tells, and a report; worths by their meanings
abbrev pub told_of : {V M : Type 0} → (V → M) → Result (Answer V) NotTaken → Told M
told_of mean (Ok Taken) = taken
told_of mean (Ok (Worth x)) = gives (readings.worth (mean x))
told_of mean (Ok (Number n)) = gives (readings.number n)
told_of mean (Ok (Parts s)) = gives (readings.part_set s.bits)
told_of mean (Err (Refused refusal)) = refused refusal
told_of mean (Err NotAllowed) = not_allowed

abbrev pub telling_of : {V M : Type 0} → (V → M) → Report V → Telling M
telling_of mean r = record { told = told_of mean r.outcome; paths = r.paths; products = r.products }

-- a worth that is read, or why it is refused, as an outcome
abbrev pub worth_outcome : {V : Type 0} → Result V Refusal → Result (Answer V) NotTaken
worth_outcome (Ok x) = Ok (Worth x)
worth_outcome (Err refusal) = Err (Refused refusal)

module _ {K : Type 0} {kind : Ghosts K} where
  abbrev pub book_of : (K → Meaning) → Stage K kind → Book
  book_of meaning (Open b) = open_book meaning b
  book_of meaning (Sealed b) = sealed_book meaning b

  -- the slots of a book, and how many of them hold products
  abbrev pub space_of : Stage K kind → Space K
  space_of (Open b) = open_space b
  space_of (Sealed b) = sealed_space b

  -- the reference through which a book holds its slots
  abbrev pub through_of : Stage K kind → GName
  through_of (Open b) = open_through b
  through_of (Sealed b) = sealed_through b
