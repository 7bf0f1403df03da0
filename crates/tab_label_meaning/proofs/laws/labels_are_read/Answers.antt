use Rattle.tab_label_meaning.proofs.Held.{read_is_label}
use Rattle.tab_label_meaning.proofs.laws.labels_are_read.Goals as goal

pub returns : goal.returns
returns c = read_is_label
