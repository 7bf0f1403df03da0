use Rattle.tab_history.proofs.Chains.{refinement_is_transitive}
use Rattle.tab_history.proofs.laws.refinement_is_transitive.Goals as goal

pub returns : goal.returns
returns c = refinement_is_transitive
