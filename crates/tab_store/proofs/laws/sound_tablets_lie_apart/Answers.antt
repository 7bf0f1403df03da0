use Rattle.tab_store.proofs.Apart.{sound_tablets_lie_apart}
use Rattle.tab_store.proofs.laws.sound_tablets_lie_apart.Goals as goal

pub returns : goal.returns
returns c = sound_tablets_lie_apart
