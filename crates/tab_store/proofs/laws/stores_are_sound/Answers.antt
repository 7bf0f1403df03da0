use Rattle.tab_store.proofs.ChainLaws.{stores_are_sound}
use Rattle.tab_store.proofs.laws.stores_are_sound.Goals as goal

pub returns : goal.returns
returns c = stores_are_sound
