use Rattle.std.proofs.Common.{take, drop}
use Rattle.std.specs.List.{flat_map}
use Rattle.tab_io.specs.Writing.{HasPut}
use Rattle.tab_audit.specs.Lists.{later_update}
use Rattle.tab_audit.proofs.updates.put_later.Given as goal

abbrev pub invariant-loop-index : goal.invariant-loop-index
invariant-loop-index g l = HasPut g.W.Output l.initial.output l.output (flat_map later_update (take l.index (drop 1 l.mutation.updates)))
