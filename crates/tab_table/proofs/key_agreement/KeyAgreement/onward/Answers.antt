-- The entry's head lies in the body.
use Rattle.std.proofs.Common.{arith}
use Rattle.tab_table.proofs.Inside.{counts_inside}
use Rattle.tab_table.proofs.key_agreement.KeyAgreement.onward.Goals as goal

pub overflow_add-place : goal.overflow_add-place
overflow_add-place c = omega (arith, counts_inside c.args.blocks.now c.args.place c.requires.rest)

pub count_at-requires : goal.count_at-requires
count_at-requires c = omega (arith, counts_inside c.args.blocks.now c.args.place c.requires.rest)

pub overflow_add-place-2 : goal.overflow_add-place-2
overflow_add-place-2 c = omega (arith, counts_inside c.args.blocks.now c.args.place c.requires.rest)

pub count_at-requires-2 : goal.count_at-requires-2
count_at-requires-2 c = omega (arith, counts_inside c.args.blocks.now c.args.place c.requires.rest)

pub overflow_add-place-3 : goal.overflow_add-place-3
overflow_add-place-3 c = omega (arith, counts_inside c.args.blocks.now c.args.place c.requires.rest)

pub count_at-requires-3 : goal.count_at-requires-3
count_at-requires-3 c = omega (arith, counts_inside c.args.blocks.now c.args.place c.requires.rest)

pub overflow_add-place-4 : goal.overflow_add-place-4
overflow_add-place-4 c = omega (arith, counts_inside c.args.blocks.now c.args.place c.requires.rest)

pub count_at-requires-4 : goal.count_at-requires-4
count_at-requires-4 c = omega (arith, counts_inside c.args.blocks.now c.args.place c.requires.rest)
