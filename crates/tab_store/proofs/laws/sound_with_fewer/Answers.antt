use Rattle.tab_store.proofs.Fewer.{sound_with_fewer}
use Rattle.tab_store.proofs.laws.sound_with_fewer.Goals as goal

pub returns : goal.returns
returns c = sound_with_fewer
