-- Two sets of parts with the same number are one.
use mathlib.Core.HLevel.{is_prop→PathP}
use Rattle.std.proofs.Common.{◌≡◌, ◌^◌, ◌<◌}
use native.Mathlib.Bridge.{le_prop}
use Rattle.parts.specs.declared.parts.PartSet.{PartSet}

pub same_bits : (s t : PartSet) → s.bits ≡ t.bits → s ≡ t
same_bits s t e = λ i. record { bits = e i; limit = is_prop→PathP (λ j. e j < 2 ^ 24) (λ j. le_prop) s.limit t.limit i }
