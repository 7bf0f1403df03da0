use Rattle.tab_label_meaning.proofs.First.{first_is_malformed}
use Rattle.tab_label_meaning.proofs.laws.malformed_is_the_first.Goals as goal

pub returns : goal.returns
returns c = first_is_malformed
