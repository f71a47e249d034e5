use Rattle.histories.proofs.Keeping.{all_histories_hold}
use Rattle.histories.proofs.histories_hold.Goals as goal

pub returns : goal.returns
returns g c = all_histories_hold g.met.K.ProductKind.lawful
