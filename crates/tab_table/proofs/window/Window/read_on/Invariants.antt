-- The window ends before the index, or has it.
use Rattle.std.proofs.Common.{◌≡◌, ◌≤◌, ◌+◌, ◌-◌, true, length}
use Rattle.tab_table.specs.Windows.{IsWindow}
use Rattle.tab_table.proofs.window.Window.read_on.Given as goal

abbrev pub invariant-loop-self : goal.invariant-loop-self
invariant-loop-self l = record {
  window : IsWindow l.self l.packed.bytes l.packed.count;
  known : l.self.known ≡ true;
  low : l.self.first ≤ l.index;
}

abbrev pub decreases-loop-self : goal.decreases-loop-self
decreases-loop-self l = l.index + 1 - (l.self.first + length l.self.records.places.items)
