-- A set with one part more, as a set of parts.
use Rattle.std.specs.Prelude.{◌^◌, bit_or}
use Rattle.std.proofs.lemmas.Nat.{or_lt}
use Rattle.std.proofs.Math.Pow.{pow-lt}
use Rattle.parts.specs.declared.parts.PartNumber.{PartNumber}
use Rattle.parts.specs.declared.parts.PartSet.{PartSet}

abbrev pub set_with : PartSet → PartNumber → PartSet
set_with s part = record { bits = bit_or s.bits (2 ^ part.index); limit = or_lt 24 s.bits (2 ^ part.index) s.limit (pow-lt {j = 24} part.limit) }
