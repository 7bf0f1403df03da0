use Rattle.tab_store.proofs.Sound.{new_tables_are_sound}
use Rattle.tab_store.proofs.laws.new_tables_are_sound.Goals as goal

pub returns : goal.returns
returns c = new_tables_are_sound
