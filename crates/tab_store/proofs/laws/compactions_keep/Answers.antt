use Rattle.tab_store.proofs.OneTablet.{compactions_keep}
use Rattle.tab_store.proofs.laws.compactions_keep.Goals as goal

pub returns : goal.returns
returns c = compactions_keep
