use Rattle.tab_accumulo.proofs.Taking.{terms_are_taken}
use Rattle.tab_accumulo.proofs.laws.terms_are_taken.Goals as goal

pub returns : goal.returns
returns c = terms_are_taken
