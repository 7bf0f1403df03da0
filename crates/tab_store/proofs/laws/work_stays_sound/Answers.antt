use Rattle.tab_store.proofs.Sound.{work_stays_sound}
use Rattle.tab_store.proofs.laws.work_stays_sound.Goals as goal

pub returns : goal.returns
returns c = work_stays_sound
