use Rattle.std.proofs.Common.{arith}
use Rattle.parts.proofs.Bit.{and_not}
use Rattle.parts.proofs.parts.PartSet.difference.Goals as goal

pub returns : goal.returns
returns c = and_not 32 c.args.self.bits c.args.other.bits (omega (arith, c.args.self.limit)) (omega (arith, c.args.other.limit))
