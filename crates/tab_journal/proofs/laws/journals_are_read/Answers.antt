use Rattle.tab_journal.proofs.Whole.{journals_are_read}
use Rattle.tab_journal.proofs.laws.journals_are_read.Goals as goal

pub returns : goal.returns
returns c = journals_are_read
