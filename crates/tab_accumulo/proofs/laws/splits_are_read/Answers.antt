use Rattle.tab_accumulo.proofs.Reading.{splits_are_read}
use Rattle.tab_accumulo.proofs.laws.splits_are_read.Goals as goal

pub returns : goal.returns
returns c = splits_are_read
