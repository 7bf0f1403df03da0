use Rattle.tab_store.proofs.CutTablet.{splits_keep}
use Rattle.tab_store.proofs.laws.splits_keep.Goals as goal

pub returns : goal.returns
returns c = splits_keep
