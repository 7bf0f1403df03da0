use Rattle.tab_store.proofs.ChainLaws.{chains_stay}
use Rattle.tab_store.proofs.laws.chains_stay.Goals as goal

pub returns : goal.returns
returns c = chains_stay
