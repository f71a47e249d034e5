use Rattle.std.proofs.Common.{drop, sym, ap, ◌∙◌}
use Rattle.parts.specs.Sets.{without, parts}
use Rattle.parts.proofs.Lowest.{parts_none, past_first}
use Rattle.parts.proofs.parts.PartSet.without_lowest.Goals as goal

pub returns-in-Some : goal.returns-in-Some
returns-in-Some c =
    let n = c.args.self.bits in
    let low = c.in-Some.ensures in
    ap parts (c.difference.ensures ∙ ap (without n) (c.alone.ensures ∙ low.1)) ∙ past_first n low.0 c.args.self.limit

pub returns-in-None : goal.returns-in-None
returns-in-None c =
    let none = ap parts c.in-None.ensures ∙ parts_none in
    none ∙ sym (ap (drop 1) none)
