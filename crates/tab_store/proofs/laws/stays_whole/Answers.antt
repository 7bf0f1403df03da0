use Rattle.tab_store.proofs.AllTablets.{stays_whole}
use Rattle.tab_store.proofs.laws.stays_whole.Goals as goal

pub returns : goal.returns
returns c = stays_whole
