use Rattle.tab_shell.proofs.Reading.{line_opens_none}
use Rattle.tab_shell.proofs.pending.Pending.said.Goals as goal

pub returns-then-is_empty-clause-none : goal.returns-then-is_empty-clause-none
returns-then-is_empty-clause-none c = line_opens_none c.read_line.result c.args.part.now c.read_line.ensures

pub returns-clause-none : goal.returns-clause-none
returns-clause-none c = line_opens_none c.read_line-2.result c.deref.result.now c.read_line-2.ensures
