use Rattle.std.proofs.Common.{arith}
use Rattle.tab_table.proofs.Inside.{counts_inside}
use Rattle.tab_table.proofs.packed.timestamp_at.Goals as goal

pub overflow_add-place : goal.overflow_add-place
overflow_add-place c = omega (arith, counts_inside c.args.blocks.now c.args.place c.requires)
