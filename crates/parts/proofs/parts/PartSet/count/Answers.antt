use Rattle.std.proofs.Common.{sym}
use lib.Count.{ones-le}
use Rattle.parts.proofs.Lowest.{count_parts}
use Rattle.parts.proofs.parts.PartSet.count.Goals as goal

pub returns : goal.returns
returns c =
    let n = c.args.self.bits in
    record { value = sym (count_parts n c.args.self.limit); bound = ones-le 24 n c.args.self.limit }
