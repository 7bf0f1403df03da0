use Rattle.std.proofs.Common.{take}
use Rattle.std.specs.List.{flat_map}
use Rattle.tab_io.specs.Writing.{HasPut}
use Rattle.tab_wire.specs.Sending.{update_bytes}
use Rattle.tab_wire.proofs.asking.put_each_update.Given as goal

abbrev pub invariant-loop-index : goal.invariant-loop-index
invariant-loop-index g l = HasPut g.W.Output l.initial.output l.output (flat_map update_bytes (take l.index l.mutation.updates))
