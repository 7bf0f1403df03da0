use Rattle.tab_history.proofs.Chains.{refinement_is_sound}
use Rattle.tab_history.proofs.laws.refinement_is_sound.Goals as goal

pub returns : goal.returns
returns c = refinement_is_sound
