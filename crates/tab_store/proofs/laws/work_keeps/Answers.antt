use Rattle.tab_store.proofs.AllTablets.{work_keeps}
use Rattle.tab_store.proofs.laws.work_keeps.Goals as goal

pub returns : goal.returns
returns c = work_keeps
