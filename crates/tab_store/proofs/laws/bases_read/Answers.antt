use Rattle.tab_store.proofs.Reading.{bases_read}
use Rattle.tab_store.proofs.laws.bases_read.Goals as goal

pub returns : goal.returns
returns c = bases_read
