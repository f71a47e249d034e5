use Rattle.std.proofs.Common.{ℕ, ◌<◌, ◌-◌, ap, ◌∙◌, arith}
use Rattle.std.proofs.lemmas.Nat.{one_shl}
use Rattle.std.proofs.Math.Nat.{pow-le-pow_right}
use Rattle.parts.specs.Sets.{numbers}
use Rattle.parts.proofs.Numbers.{numbers_all}
use Rattle.parts.proofs.parts.PartCount.all.Goals as goal

pub invariant_of-result : goal.invariant_of-result
invariant_of-result c =
    let n = c.args.self.count in
    let small : n < 32 = omega (arith, c.args.self.limit.1) in
    record { limit = omega (arith, one_shl n 32 small, pow-le-pow_right {n = 2} (omega arith) c.args.self.limit.1) }

pub returns-clause-each : goal.returns-clause-each
returns-clause-each c =
    let n = c.args.self.count in
    let small : n < 32 = omega (arith, c.args.self.limit.1) in
    ap (λ (m : ℕ). numbers (m - 1)) (one_shl n 32 small) ∙ numbers_all n c.args.self.limit.1
