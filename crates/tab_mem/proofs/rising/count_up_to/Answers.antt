use Rattle.std.proofs.Common.{arith}
use Rattle.tab_mem.proofs.Searched.{next_is_other, all_up_to}
use Rattle.tab_mem.proofs.rising.count_up_to.Goals as goal

pub returns-then-below-numbers : goal.returns-then-below-numbers
returns-then-below-numbers c = next_is_other c.args.bound c.args.numbers.now c.args.below 0 c.requires.below (λ lt. absurd (omega arith))

pub returns-then-numbers-below : goal.returns-then-numbers-below
returns-then-numbers-below c = next_is_other c.args.bound c.args.numbers.now c.args.below 0 c.requires.below (λ lt. c.if-numbers-below.true)

pub returns-in-None : goal.returns-in-None
returns-in-None c = all_up_to c.args.bound c.args.numbers.now (λ k. let item = c.type_inv.numbers k in let full = c.in-None.ensures in omega (arith, item.fits, full))
