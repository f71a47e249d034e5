use Rattle.std.proofs.Common.{arith}
use Rattle.std.proofs.lemmas.List.{length-take}
use Rattle.std.proofs.Math.Seq.{take-set-lt}
use Rattle.parts.proofs.parts.list.PartSets.replace.Goals as goal

pub returns : goal.returns
returns g c = take-set-lt c.args.self.now.count c.args.self.now.sets c.args.j c.args.set (omega (arith, length-take c.args.self.now.count c.args.self.now.sets, c.requires))
