use Rattle.tab_label_meaning.proofs.Held.{held_is_true}
use Rattle.tab_label_meaning.proofs.laws.labels_hold.Goals as goal

pub returns : goal.returns
returns c = held_is_true
