use Rattle.std.proofs.Common.{ap, rules}
use Rattle.parts.proofs.Same.{same_bits}
use Rattle.cards.specs.Trials.{with_pulled}
use Rattle.cards.proofs.card.Card.pull.Goals as goal

pub returns : goal.returns
returns c = ap (with_pulled c.args.self.now) (same_bits _ _ (search rules))
