use Rattle.tab_journal.proofs.Tearing.{cuts_are_torn}
use Rattle.tab_journal.proofs.laws.cuts_are_torn.Goals as goal

pub returns : goal.returns
returns c = cuts_are_torn
