use Rattle.tab_tablets.proofs.Listed.{lists_on}
use Rattle.tab_tablets.proofs.laws.lists_on.Goals as goal

pub returns : goal.returns
returns c = lists_on
