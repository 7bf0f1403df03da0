use Rattle.tab_accumulo.proofs.Reading.{records_are_read}
use Rattle.tab_accumulo.proofs.laws.records_are_read.Goals as goal

pub returns : goal.returns
returns c = records_are_read
