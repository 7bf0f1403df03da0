use Rattle.tab_store.proofs.ChainLaws.{chains_are_legal}
use Rattle.tab_store.proofs.laws.chains_are_legal.Goals as goal

pub returns : goal.returns
returns c = chains_are_legal
