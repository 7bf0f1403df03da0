use Rattle.tab_history.proofs.Chains.{chains_refine}
use Rattle.tab_history.proofs.laws.chains_refine.Goals as goal

pub returns : goal.returns
returns c = chains_refine
