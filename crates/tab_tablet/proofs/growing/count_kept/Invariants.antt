use Rattle.std.proofs.Common.{◌≤◌, length}
use Rattle.tab_tablet.proofs.growing.count_kept.Given as goal

abbrev pub invariant-loop-merged_run : goal.invariant-loop-merged_run
invariant-loop-merged_run l = l.kept ≤ length l.merged_runs
