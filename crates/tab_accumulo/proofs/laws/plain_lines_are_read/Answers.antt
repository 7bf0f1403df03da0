use Rattle.tab_accumulo.proofs.Reading.{plain_lines_are_read}
use Rattle.tab_accumulo.proofs.laws.plain_lines_are_read.Goals as goal

pub returns : goal.returns
returns c = plain_lines_are_read
