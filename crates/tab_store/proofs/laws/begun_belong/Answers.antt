use Rattle.tab_store.proofs.Belonging.{begun_belong}
use Rattle.tab_store.proofs.laws.begun_belong.Goals as goal

pub returns : goal.returns
returns c = begun_belong
