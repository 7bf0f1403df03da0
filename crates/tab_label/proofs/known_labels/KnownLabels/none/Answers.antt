use Rattle.tab_label.proofs.KnownLabelLemmas.{none_noted}
use Rattle.tab_label.proofs.known_labels.KnownLabels.none.Goals as goal

pub invariant_of-result : goal.invariant_of-result
invariant_of-result c = record { labels = none_noted 256 }
