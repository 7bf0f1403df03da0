use Rattle.std.proofs.Common.{◌≡◌, take}
use Rattle.tab_tablet.proofs.merged_runs.shares.Given as goal

abbrev pub invariant-loop-run : goal.invariant-loop-run
invariant-loop-run l = l.shared.items ≡ take l.run-index l.runs
