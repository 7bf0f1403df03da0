use Rattle.std.proofs.Common.{◌≤◌, ◌-◌, max, min}
use Rattle.std.specs.List.{prefix_len}
use Rattle.tab_mem.specs.Starts.{is_before}
use Rattle.tab_mem.proofs.searching.count_by_halves.Given as goal

abbrev pub invariant-loop-low : goal.invariant-loop-low
invariant-loop-low g l = record {
  low_in : l.low ≤ max l.fn.low (min (prefix_len (is_before l.target.start) (g.R.Ordered.listed l.records)) l.fn.high);
  high_in : max l.fn.low (min (prefix_len (is_before l.target.start) (g.R.Ordered.listed l.records)) l.fn.high) ≤ l.high;
  start : l.fn.low ≤ l.low;
  end : l.high ≤ l.fn.high;
}

abbrev pub decreases-loop-low : goal.decreases-loop-low
decreases-loop-low g l = l.high - l.low
