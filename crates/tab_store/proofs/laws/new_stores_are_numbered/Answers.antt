use Rattle.tab_store.proofs.ChainLaws.{new_stores_are_numbered}
use Rattle.tab_store.proofs.laws.new_stores_are_numbered.Goals as goal

pub returns : goal.returns
returns c = new_stores_are_numbered
