use Rattle.tab_store.proofs.ChainLaws.{new_stores_are_stores}
use Rattle.tab_store.proofs.laws.new_stores_are_stores.Goals as goal

pub returns : goal.returns
returns c = new_stores_are_stores
