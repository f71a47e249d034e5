-- A set of parts as its number.
use Rattle.std.specs.Prelude.{ℕ}
use Rattle.parts.specs.declared.parts.PartSet.{PartSet}

abbrev pub bits_of : PartSet → ℕ
bits_of s = s.bits
