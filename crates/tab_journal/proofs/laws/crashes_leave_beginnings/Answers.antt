use Rattle.tab_journal.proofs.Crashing.{crashes_leave_beginnings}
use Rattle.tab_journal.proofs.laws.crashes_leave_beginnings.Goals as goal

pub returns : goal.returns
returns c = crashes_leave_beginnings
