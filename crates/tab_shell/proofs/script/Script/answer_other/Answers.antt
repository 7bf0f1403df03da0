use Rattle.tab_shell.proofs.Reading.{line_opens_none}
use Rattle.tab_shell.proofs.script.Script.answer_other.Goals as goal

pub answer_read-requires : goal.answer_read-requires
answer_read-requires g c = line_opens_none c.read_line.result c.args.text.now c.read_line.ensures

pub returns : goal.returns
returns g c = (c.read_line.result, c.read_line.ensures, c.answer_read-2.ensures)
