use Rattle.tab_store.proofs.Targets.{starts_lie_inside}
use Rattle.tab_store.proofs.laws.starts_lie_inside.Goals as goal

pub returns : goal.returns
returns c = starts_lie_inside
