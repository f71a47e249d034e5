-- What is asked of a book, what the book is after it, and what is told of it. What the book does not allow is passed over.
use Rattle.std.specs.Prelude.{ℕ, true, false, cond, length, Ok, Err, Result}
use Rattle.histories.specs.Entry.{Book, Answer, answer}
use Rattle.histories.specs.Runs.{after_entry, marked}
use Rattle.measures.specs.Semiring.{Semiring}
use Rattle.products.specs.Cutting.{Cut}
use Rattle.readings.specs.Readings.{Reading, Given, reading}
use Rattle.refusals.specs.declared.refusal.Refusal.{Refusal}

-- what is asked of a book: the entry of a path with a working space of so many products, the two counts, sealing, reopening, or a
-- reading by values of V
pub data Ask (V : Type 0) : Type 0 where
  enter : (places path : ℕ) → Ask V
  counts : Ask V
  seal : Ask V
  reopen : Ask V
  read : Reading V → Ask V

-- what is told of it: it is taken, gives something, is refused, or is not allowed
pub data Told (M : Type 0) : Type 0 where
  taken : Told M
  gives : Given M → Told M
  refused : Refusal → Told M
  not_allowed : Told M

-- and how many paths and products the book has then
pub record Telling (M : Type 0) : Type 0 where
  pub told : Told M
  pub paths : ℕ
  pub products : ℕ

-- the book after what is asked
abbrev pub next : {V : Type 0} → Cut → Book → Ask V → Book
next cut b (enter places path) = cond b.is_sealed b (after_entry cut b path (answer cut b places path))
next cut b counts = b
next cut b seal = cond b.is_sealed b (marked true b)
next cut b reopen = cond b.is_sealed (marked false b) b
next cut b (read r) = b

abbrev pub answer_told : {M : Type 0} → Answer → Told M
answer_told (Ok _) = taken
answer_told (Err refusal) = refused refusal

abbrev pub given_told : {M : Type 0} → Result (Given M) Refusal → Told M
given_told (Ok given) = gives given
given_told (Err refusal) = refused refusal

module _ (R : Semiring) {V : Type 0} (mean : V → R.Of) where
  -- what a reading of a sealed book tells
  abbrev pub read_told : Book → Reading V → Told R.Of
  read_told b r = given_told (reading R mean b r)

  abbrev pub answered : Cut → Book → Ask V → Told R.Of
  answered cut b (enter places path) = cond b.is_sealed not_allowed (answer_told (answer cut b places path))
  answered cut b counts = taken
  answered cut b seal = cond b.is_sealed not_allowed taken
  answered cut b reopen = cond b.is_sealed taken not_allowed
  answered cut b (read r) = cond b.is_sealed (read_told b r) not_allowed

  abbrev pub telling : Cut → Book → Ask V → Telling R.Of
  telling cut b ask = record { told = answered cut b ask; paths = length (next cut b ask).paths; products = length (next cut b ask).products }
