use Rattle.std.proofs.Common.{◌≡◌, take, length}
use Rattle.std.specs.Prelude.{min}
use Rattle.tab_tablet.proofs.Clipped.{held_in}
use Rattle.tab_tablet.proofs.counting.count_in_tables.Given as goal

abbrev pub invariant-loop-table : goal.invariant-loop-table
invariant-loop-table l = l.count ≡ min (length (held_in (take l.table-index l.tables))) 18446744073709551615
