use Rattle.tab_store.proofs.Middles.{middles_lie_inside}
use Rattle.tab_store.proofs.laws.middles_lie_inside.Goals as goal

pub returns : goal.returns
returns c = middles_lie_inside
