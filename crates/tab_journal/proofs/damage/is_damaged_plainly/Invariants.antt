use Rattle.tab_journal.proofs.Damaging.{NoneBefore}
use Rattle.tab_journal.proofs.damage.is_damaged_plainly.Given as goal

abbrev pub invariant-loop-place : goal.invariant-loop-place
invariant-loop-place l = NoneBefore l.seal l.window l.read l.place
