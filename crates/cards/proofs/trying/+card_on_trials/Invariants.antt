use Rattle.std.proofs.Common.{length}
use Rattle.cards.proofs.trying.+card_on_trials.Given as goal

abbrev pub decreases-card_on_trials : goal.decreases-card_on_trials
decreases-card_on_trials l = length l.parts.now
