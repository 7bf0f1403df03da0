use Rattle.tab_store.proofs.OneTablet.{writes_keep}
use Rattle.tab_store.proofs.laws.writes_keep.Goals as goal

pub returns : goal.returns
returns c = writes_keep
