use Rattle.tab_store.proofs.Right.{steps_are_right}
use Rattle.tab_store.proofs.laws.steps_are_right.Goals as goal

pub returns : goal.returns
returns c = steps_are_right
