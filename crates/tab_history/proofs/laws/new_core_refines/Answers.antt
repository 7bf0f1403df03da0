use Rattle.tab_history.proofs.NewCore.{new_core_refines}
use Rattle.tab_history.proofs.laws.new_core_refines.Goals as goal

pub returns : goal.returns
returns c = new_core_refines
