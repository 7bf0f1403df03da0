-- What is sought lies in the part that is left.
use Rattle.std.proofs.Common.{◌≤◌, ◌-◌, max, min}
use Rattle.std.specs.List.{prefix_len}
use Rattle.tab_mem.specs.Starts.{is_before}
use Rattle.tab_table.specs.Blocks.{block_records}
use Rattle.tab_table.proofs.sorted_table.SortedTable.halved.Given as goal

abbrev pub invariant-loop-high : goal.invariant-loop-high
invariant-loop-high l = record {
  low_in : l.low ≤ max l.fn.low (min (prefix_len (is_before l.target.start) (block_records l.self.packed.bytes l.self.packed.count)) l.fn.high);
  high_in : max l.fn.low (min (prefix_len (is_before l.target.start) (block_records l.self.packed.bytes l.self.packed.count)) l.fn.high) ≤ l.high;
  start : l.fn.low ≤ l.low;
  end : l.high ≤ l.fn.high;
}

abbrev pub decreases-loop-high : goal.decreases-loop-high
decreases-loop-high l = l.high - l.low
