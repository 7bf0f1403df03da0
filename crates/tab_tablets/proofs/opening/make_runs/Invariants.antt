use Rattle.std.proofs.Common.{◌≡◌}
use Rattle.tab_tablets.proofs.opening.make_runs.Given as goal

abbrev pub invariant-loop-place : goal.invariant-loop-place
invariant-loop-place l = l.tablet_list ≡ l.initial.tablet_list
