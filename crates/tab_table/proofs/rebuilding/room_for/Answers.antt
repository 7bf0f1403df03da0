-- The entry lies in the blocks.
use Rattle.std.proofs.Common.{◌+◌, arith}
use Rattle.tab_key.proofs.Windows.{ends_behind}
use Rattle.tab_table.proofs.Inside.{counts_inside}
use Rattle.tab_table.proofs.rebuilding.room_for.Goals as goal

pub overflow_add-at : goal.overflow_add-at
overflow_add-at c = omega (arith, counts_inside c.args.blocks.now c.args.at c.requires.rest)

pub overflow_add-rest : goal.overflow_add-rest
overflow_add-rest c = omega (arith, counts_inside c.args.blocks.now c.args.at c.requires.rest)

pub overflow_sub-rest : goal.overflow_sub-rest
overflow_sub-rest c = omega (arith, c.end_of.ensures, ends_behind c.args.blocks.now (c.args.at + 16))

pub counts_at-requires : goal.counts_at-requires
counts_at-requires c = omega (arith, counts_inside c.args.blocks.now c.args.at c.requires.rest)
