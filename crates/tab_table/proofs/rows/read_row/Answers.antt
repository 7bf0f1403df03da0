-- What is shared stays, and the rest comes behind it.
use Rattle.std.proofs.Common.{arith}
use Rattle.tab_table.proofs.Inside.{counts_inside}
use Rattle.tab_table.proofs.rows.read_row.Goals as goal

pub shared_at-requires : goal.shared_at-requires
shared_at-requires c = counts_inside c.args.blocks.now c.args.place c.requires

pub overflow_add-place : goal.overflow_add-place
overflow_add-place c = omega (arith, counts_inside c.args.blocks.now c.args.place c.requires)
