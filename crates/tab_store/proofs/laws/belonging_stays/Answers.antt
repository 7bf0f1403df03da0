use Rattle.tab_store.proofs.Belonging.{belonging_stays}
use Rattle.tab_store.proofs.laws.belonging_stays.Goals as goal

pub returns : goal.returns
returns c = belonging_stays
