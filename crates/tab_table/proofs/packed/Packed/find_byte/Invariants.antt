-- So many steps behind the restart.
use Rattle.std.proofs.Common.{◌+◌, ◌*◌, ◌/◌}
use Rattle.tab_table.specs.PartBytes.{IsFound}
use Rattle.tab_table.proofs.packed.Packed.find_byte.Given as goal

abbrev pub invariant-loop-step : goal.invariant-loop-step
invariant-loop-step l = IsFound l.self.bytes l.self.count l.found.byte l.found.place (16 * (l.mine / 16) + l._step) l.part l.index
