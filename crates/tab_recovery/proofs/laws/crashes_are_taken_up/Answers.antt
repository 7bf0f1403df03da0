use Rattle.tab_recovery.proofs.Crashed.{crashes_are_taken_up}
use Rattle.tab_recovery.proofs.laws.crashes_are_taken_up.Goals as goal

pub returns : goal.returns
returns c = crashes_are_taken_up
