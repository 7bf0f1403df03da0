use Rattle.tab_label.proofs.More.{label_more}
use Rattle.tab_label.proofs.laws.more_authorizations_hold_more.Goals as goal

pub returns : goal.returns
returns c = label_more
