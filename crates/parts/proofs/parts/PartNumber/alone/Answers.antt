use Rattle.std.proofs.Common.{◌<◌, arith}
use Rattle.std.proofs.lemmas.Nat.{one_shl, pow_below}
use Rattle.parts.proofs.parts.PartNumber.alone.Goals as goal

pub invariant_of-result : goal.invariant_of-result
invariant_of-result c =
    let i = c.args.self.index in
    let small : i < 32 = omega arith in
    record { limit = rw (one_shl i 32 small) (pow_below i 24 c.args.self.limit) }
