use Rattle.std.proofs.Common.{length}
use Rattle.tab_shell.specs.Batches.{left_of}
use Rattle.tab_shell.proofs.Batching.{HasRead}
use Rattle.tab_shell.proofs.batches.put_session.Given as goal

abbrev pub invariant-loop-fault : goal.invariant-loop-fault
invariant-loop-fault g l = HasRead g.W.Output (left_of l.fn.session.state) (left_of l.session.state) l.fn.output l.output

abbrev pub decreases-loop-fault : goal.decreases-loop-fault
decreases-loop-fault g l = length (left_of l.session.state)
