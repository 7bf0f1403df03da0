use Rattle.tab_store.proofs.Targets.{targets_are_due}
use Rattle.tab_store.proofs.laws.targets_are_due.Goals as goal

pub returns : goal.returns
returns c = targets_are_due
