use Rattle.tab_store.proofs.ByNumber.{installs_by_number}
use Rattle.tab_store.proofs.laws.installs_by_number.Goals as goal

pub returns : goal.returns
returns c = installs_by_number
