-- None so far.
use Rattle.tab_version.proofs.TakenOut.{NoneBefore}
use Rattle.tab_version.proofs.sought.first_of.Given as goal

abbrev pub invariant-loop-index : goal.invariant-loop-index
invariant-loop-index g l = NoneBefore (g.S.Sought.passes l.sought) l.several l.index
