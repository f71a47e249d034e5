use Rattle.std.proofs.Common.{ℕ, ◌/◌, ◌^◌, eqb, ap, ◌∙◌}
use lib.Bits.{and_mask}
use Rattle.parts.proofs.Bit.{bit_shift}
use Rattle.parts.proofs.parts.PartSet.contains.Goals as goal

pub returns : goal.returns
returns c =
    let n = c.args.self.bits in
    let i = c.args.part.index in
    ap (λ (x : ℕ). eqb x 1) (and_mask (n / 2 ^ i) 1 ∙ bit_shift n i)
