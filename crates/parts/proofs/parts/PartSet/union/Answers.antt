use Rattle.std.proofs.Common.{rules}
use lib.Bits.{or_lt}
use Rattle.parts.proofs.parts.PartSet.union.Goals as goal

pub invariant_of-result : goal.invariant_of-result
invariant_of-result c = search (rules, or_lt)
