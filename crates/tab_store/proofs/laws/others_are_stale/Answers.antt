use Rattle.tab_store.proofs.ByNumber.{others_are_stale}
use Rattle.tab_store.proofs.laws.others_are_stale.Goals as goal

pub returns : goal.returns
returns c = others_are_stale
