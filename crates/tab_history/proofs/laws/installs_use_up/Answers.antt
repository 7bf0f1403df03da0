use Rattle.tab_history.proofs.GoesOnLemmas.{installs_use_up}
use Rattle.tab_history.proofs.laws.installs_use_up.Goals as goal

pub returns : goal.returns
returns c = installs_use_up
