use Rattle.tab_store.proofs.Staying.{stores_stay}
use Rattle.tab_store.proofs.laws.stores_stay.Goals as goal

pub returns : goal.returns
returns c = stores_stay
