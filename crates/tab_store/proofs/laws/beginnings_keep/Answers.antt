use Rattle.tab_store.proofs.OneTablet.{beginnings_keep}
use Rattle.tab_store.proofs.laws.beginnings_keep.Goals as goal

pub returns : goal.returns
returns c = beginnings_keep
