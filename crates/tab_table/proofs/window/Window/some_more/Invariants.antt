-- The next one is behind the window.
use Rattle.std.proofs.Common.{◌≡◌, ◌≤◌, ◌+◌, true, length}
use Rattle.tab_table.specs.Windows.{IsWindow}
use Rattle.tab_table.proofs.window.Window.some_more.Given as goal

abbrev pub invariant-loop-place : goal.invariant-loop-place
invariant-loop-place l = record {
  window : IsWindow l.self l.packed.bytes l.packed.count;
  known : l.self.known ≡ true;
  low : l.self.first ≤ l.index;
  here : l.self.first + length l.self.records.places.items ≡ l._place;
}
