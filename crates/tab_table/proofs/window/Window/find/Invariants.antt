-- All before the index stand before the start.
use Rattle.std.proofs.Common.{◌≤◌, max, min}
use Rattle.std.specs.List.{prefix_len}
use Rattle.tab_mem.specs.Starts.{is_before}
use Rattle.tab_table.specs.Blocks.{block_records}
use Rattle.tab_table.specs.Windows.{IsWindow}
use Rattle.tab_table.proofs.window.Window.find.Given as goal

abbrev pub invariant-loop-index : goal.invariant-loop-index
invariant-loop-index l = record {
  window : IsWindow l.self l.packed.bytes l.packed.count;
  up : l.index ≤ max l.low (min (prefix_len (is_before l.target.start) (block_records l.packed.bytes l.packed.count)) l.high);
}
