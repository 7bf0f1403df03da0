use Rattle.tab_store.proofs.AllTablets.{tablets_hold_all}
use Rattle.tab_store.proofs.laws.tablets_hold_all.Goals as goal

pub returns : goal.returns
returns c = tablets_hold_all
