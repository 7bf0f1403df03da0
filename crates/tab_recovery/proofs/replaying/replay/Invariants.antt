use Rattle.std.proofs.Common.{length}
use Rattle.tab_recovery.proofs.Progress.{Progress}
use Rattle.tab_recovery.proofs.replaying.replay.Given as goal

abbrev pub invariant-loop-rest : goal.invariant-loop-rest
invariant-loop-rest l = record { progress : Progress l.initial.core l.fn.body l.rest l.count l.core }

abbrev pub decreases-loop-rest : goal.decreases-loop-rest
decreases-loop-rest l = length l.rest
