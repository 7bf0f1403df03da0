use Rattle.tab_label.proofs.HoldingLemmas.{holds_is}
use Rattle.tab_label.proofs.laws.holding_is_the_relation.Goals as goal

pub returns : goal.returns
returns c = holds_is
