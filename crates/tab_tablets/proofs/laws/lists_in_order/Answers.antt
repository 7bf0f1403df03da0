use Rattle.tab_tablets.proofs.Listed.{lists_in_order}
use Rattle.tab_tablets.proofs.laws.lists_in_order.Goals as goal

pub returns : goal.returns
returns c = lists_in_order
