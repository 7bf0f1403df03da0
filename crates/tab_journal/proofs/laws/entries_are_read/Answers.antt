use Rattle.tab_journal.proofs.Entries.{entries_are_read}
use Rattle.tab_journal.proofs.laws.entries_are_read.Goals as goal

pub returns : goal.returns
returns c = entries_are_read
