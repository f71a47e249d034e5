use Rattle.std.proofs.Common.{◌≡◌, ℕ, min, drop, ap, ◌∙◌, arith}
use lib.Count.{ones-le}
use Rattle.std.proofs.lemmas.List.{drop-drop}
use Rattle.parts.specs.Sets.{parts}
use Rattle.parts.proofs.Lowest.{count_parts, drop_capped}
use Rattle.parts.proofs.parts.PartSet.past.Goals as goal

pub loop-preserved : goal.loop-preserved
loop-preserved c =
    c.without_lowest-rest.ensures ∙ ap (drop 1) c.loop.invariant ∙ drop-drop 1 c.loop.counter (parts c.args.self.bits)

pub returns : goal.returns
returns c =
    let n = c.args.self.bits in
    let below = c.args.self.limit in
    let all : c.loop.counter ≡ min c.args.k 24 = omega (arith, c.min-end.ensures, c.loop.auto.counter-end) in
    c.loop.invariant ∙ ap (λ (k : ℕ). drop k (parts n)) all ∙ drop_capped (parts n) c.args.k 24 (omega (arith, count_parts n below, ones-le 24 n below))
