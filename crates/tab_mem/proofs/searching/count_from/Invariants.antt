use Rattle.std.proofs.Common.{◌≤◌, ◌-◌, max}
use Rattle.std.specs.List.{prefix_len}
use Rattle.tab_mem.specs.Starts.{is_before}
use Rattle.tab_mem.proofs.searching.count_from.Given as goal

abbrev pub invariant-loop-step : goal.invariant-loop-step
invariant-loop-step g l = record {
  left : l.low ≤ l.near;
  right : l.near ≤ l.far;
  reach : l.far ≤ l.high;
  passed : l.near ≤ max l.low (prefix_len (is_before l.target.start) (g.R.Ordered.listed l.records));
  moves : 1 ≤ l.step;
}

abbrev pub decreases-loop-step : goal.decreases-loop-step
decreases-loop-step g l = l.far - l.near
