use Rattle.tab_store.proofs.Sound.{sound_later}
use Rattle.tab_store.proofs.laws.sound_later.Goals as goal

pub returns : goal.returns
returns c = sound_later
