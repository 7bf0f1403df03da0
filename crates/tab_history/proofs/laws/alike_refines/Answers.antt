use Rattle.tab_history.proofs.Chains.{alike_refines}
use Rattle.tab_history.proofs.laws.alike_refines.Goals as goal

pub returns : goal.returns
returns c = alike_refines
