use Rattle.tab_recovery.proofs.Beginnings.{cuts_keep_all}
use Rattle.tab_recovery.proofs.laws.cuts_keep_all.Goals as goal

pub returns : goal.returns
returns c = cuts_keep_all
