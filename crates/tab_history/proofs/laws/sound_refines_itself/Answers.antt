use Rattle.tab_history.proofs.Chains.{sound_refines_itself}
use Rattle.tab_history.proofs.laws.sound_refines_itself.Goals as goal

pub returns : goal.returns
returns c = sound_refines_itself
