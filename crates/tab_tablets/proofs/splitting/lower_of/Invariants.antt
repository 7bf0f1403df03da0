use Rattle.tab_tablets.proofs.Restored.{GoesOn}
use Rattle.tab_tablets.proofs.splitting.lower_of.Given as goal

abbrev pub invariant-loop-end : goal.invariant-loop-end
invariant-loop-end l = GoesOn l.initial.next l.next l.yielded l.initial.left l.lower.items l.left
