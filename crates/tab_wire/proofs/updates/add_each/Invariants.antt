use Rattle.std.proofs.Common.{◌≡◌, ◌-◌}
use Rattle.tab_codec.specs.Reading.{parts_at}
use Rattle.tab_wire.specs.Gives.{bytes_left}
use Rattle.tab_wire.specs.FrameReading.{update_at}
use Rattle.tab_wire.specs.Updating.{grown}
use Rattle.tab_wire.proofs.updates.add_each.Given as goal

abbrev pub invariant-loop : goal.invariant-loop
invariant-loop l = grown l.mutation (parts_at update_at (l.count - l.counter) (bytes_left l.fields)) ≡ grown l.fn.mutation (parts_at update_at l.count (bytes_left l.fn.fields))
