use Rattle.std.proofs.Common.{◌<◌, sym, arith}
use Rattle.parts.proofs.Lowest.{low_place, low_part}
use Rattle.parts.proofs.parts.PartSet.lowest.Goals as goal

pub invariant_of-result : goal.invariant_of-result
invariant_of-result c =
    let n = c.args.self.bits in
    let some : 0 < n = omega (arith, c.if-self-eq0.false) in
    record { limit = low_place 24 32 n (omega arith) some c.args.self.limit }

pub returns : goal.returns
returns c =
    let n = c.args.self.bits in
    let some : 0 < n = omega (arith, c.if-self-eq0.false) in
    (some, sym (low_part n some c.args.self.limit))
