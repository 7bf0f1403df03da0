use Rattle.tab_journal.proofs.Whole.{cuts_are_beginnings}
use Rattle.tab_journal.proofs.laws.cuts_are_beginnings.Goals as goal

pub returns : goal.returns
returns c = cuts_are_beginnings
