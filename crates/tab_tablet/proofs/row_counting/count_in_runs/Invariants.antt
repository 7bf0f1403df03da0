use Rattle.std.proofs.Common.{◌≡◌, ◌≤◌, ◌*◌, take, length}
use Rattle.std.specs.Prelude.{filter}
use Rattle.tab_key.specs.Ranges.{is_in_range}
use Rattle.tab_iter.specs.Bags.{flat}
use Rattle.tab_tablet.proofs.row_counting.count_in_runs.Given as goal

abbrev pub invariant-loop-run : goal.invariant-loop-run
invariant-loop-run l = (l.count ≡ length (filter (λ u. is_in_range l.bounds u.key.row) (flat (take l.run-index l.runs)))) × (l.count ≤ l.run-index * 18446744073709551615)
