use Rattle.tab_store.proofs.Belonging.{chains_keep_numbers}
use Rattle.tab_store.proofs.laws.chains_keep_numbers.Goals as goal

pub returns : goal.returns
returns c = chains_keep_numbers
