use Rattle.tab_tablets.proofs.Restored.{restored_are_whole}
use Rattle.tab_tablets.proofs.laws.restored_are_whole.Goals as goal

pub returns : goal.returns
returns c = restored_are_whole
