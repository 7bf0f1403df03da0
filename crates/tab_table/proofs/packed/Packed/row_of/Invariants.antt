-- So many steps behind the restart.
use Rattle.std.proofs.Common.{◌+◌, ◌*◌, ◌/◌}
use Rattle.tab_table.specs.PartBytes.{IsRowFound}
use Rattle.tab_table.proofs.packed.Packed.row_of.Given as goal

abbrev pub invariant-loop-step : goal.invariant-loop-step
invariant-loop-step l = IsRowFound l.self.bytes l.self.count l.row.items l.place (16 * (l.index / 16) + l._step)
