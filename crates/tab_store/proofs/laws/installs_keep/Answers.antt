use Rattle.tab_store.proofs.OneTablet.{installs_keep}
use Rattle.tab_store.proofs.laws.installs_keep.Goals as goal

pub returns : goal.returns
returns c = installs_keep
