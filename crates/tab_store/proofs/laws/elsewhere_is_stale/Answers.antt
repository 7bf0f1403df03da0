use Rattle.tab_store.proofs.Belonging.{elsewhere_is_stale}
use Rattle.tab_store.proofs.laws.elsewhere_is_stale.Goals as goal

pub returns : goal.returns
returns c = elsewhere_is_stale
