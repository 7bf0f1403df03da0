use Rattle.std.proofs.Common.{◌≡◌, take, length}
use Rattle.std.specs.Prelude.{min}
use Rattle.tab_iter.specs.Bags.{flat}
use Rattle.tab_tablet.proofs.counting.count_in_runs.Given as goal

abbrev pub invariant-loop-run : goal.invariant-loop-run
invariant-loop-run l = l.count ≡ min (length (flat (take l.run-index l.runs))) 18446744073709551615
