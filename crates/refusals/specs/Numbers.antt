-- The table of refusals: the number of each.
use Rattle.std.specs.Prelude.{ℕ}
use Rattle.refusals.specs.declared.refusal.Refusal.{Refusal}
use Rattle.refusals.specs.declared.refusal.Refusal.TheVariants.{PartCountOutOfRange, PartSetOutOfRange, PartNumberOutOfRange, PathEmpty, PathOutsideMachine, WorkingSpaceTooSmall, PathAlreadyCovered, TooManyPaths, TooManyProducts, PulledPartOutsideMachine, WorksListWrongLength, FailsListWrongLength, NoSuchProduct, NoSuchGroup, ValueOutOfRange, FieldBeyondEnd, UnknownTag, FieldWrongLength, FieldNotDue, FieldMissing, FieldWrongContent, BufferTooShort}

abbrev pub number_of : Refusal → ℕ
number_of PartCountOutOfRange = 11
number_of PartSetOutOfRange = 12
number_of PartNumberOutOfRange = 13
number_of PathEmpty = 21
number_of PathOutsideMachine = 22
number_of WorkingSpaceTooSmall = 23
number_of PathAlreadyCovered = 24
number_of TooManyPaths = 25
number_of TooManyProducts = 26
number_of PulledPartOutsideMachine = 31
number_of WorksListWrongLength = 32
number_of FailsListWrongLength = 33
number_of NoSuchProduct = 34
number_of NoSuchGroup = 35
number_of ValueOutOfRange = 36
number_of FieldBeyondEnd = 41
number_of UnknownTag = 42
number_of FieldWrongLength = 43
number_of FieldNotDue = 44
number_of FieldMissing = 45
number_of FieldWrongContent = 46
number_of BufferTooShort = 47
