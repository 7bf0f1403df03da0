use Rattle.tab_accumulo.proofs.Taking.{labels_are_taken}
use Rattle.tab_accumulo.proofs.laws.labels_are_taken.Goals as goal

pub returns : goal.returns
returns c = labels_are_taken
