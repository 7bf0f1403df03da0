use Rattle.tab_tablets.proofs.Restored.{restored_hold_all}
use Rattle.tab_tablets.proofs.laws.restored_hold_all.Goals as goal

pub returns : goal.returns
returns c = restored_hold_all
