use Rattle.tab_accumulo.proofs.Reading.{terms_are_read}
use Rattle.tab_accumulo.proofs.laws.terms_are_read.Goals as goal

pub returns : goal.returns
returns c = terms_are_read
