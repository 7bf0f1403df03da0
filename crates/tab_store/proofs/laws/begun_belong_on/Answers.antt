use Rattle.tab_store.proofs.Belonging.{begun_belong_on}
use Rattle.tab_store.proofs.laws.begun_belong_on.Goals as goal

pub returns : goal.returns
returns c = begun_belong_on
