use Rattle.tab_store.proofs.OneTablet.{freezes_keep}
use Rattle.tab_store.proofs.laws.freezes_keep.Goals as goal

pub returns : goal.returns
returns c = freezes_keep
