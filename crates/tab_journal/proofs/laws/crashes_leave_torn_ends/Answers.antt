use Rattle.tab_journal.proofs.Tearing.{crashes_leave_torn_ends}
use Rattle.tab_journal.proofs.laws.crashes_leave_torn_ends.Goals as goal

pub returns : goal.returns
returns c = crashes_leave_torn_ends
