-- The entry's head lies in the body.
use Rattle.std.proofs.Common.{arith}
use Rattle.tab_table.proofs.Inside.{counts_inside}
use Rattle.tab_table.proofs.same.len_at.Goals as goal

pub shared_at-requires : goal.shared_at-requires
shared_at-requires c = counts_inside c.args.blocks.now c.args.place c.requires

pub overflow_add-place : goal.overflow_add-place
overflow_add-place c = omega (arith, counts_inside c.args.blocks.now c.args.place c.requires)
