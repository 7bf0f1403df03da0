use Rattle.tab_journal.proofs.Telling.{damage_is_told}
use Rattle.tab_journal.proofs.laws.damage_is_told.Goals as goal

pub returns : goal.returns
returns c = damage_is_told
