use Rattle.std.proofs.Common.{◌+◌, arith}
use Rattle.tab_mem.proofs.RowIndexing.{count_in_part}
use Rattle.tab_mem.proofs.row_index.alike_in.Goals as goal

pub overflow_add-result : goal.overflow_add-result
overflow_add-result c =
    let low = count_in_part c.args.number c.args.numbers.now c.args.first c.args.past c.requires.rising c.requires.order c.requires.inside in
    omega (arith, low, c.count_below-below.ensures, c.ranges.past.fits, c.ranges.first.fits)

pub overflow_add-result-2 : goal.overflow_add-result-2
overflow_add-result-2 c =
    let high = count_in_part (c.args.number + 1) c.args.numbers.now c.args.first c.args.past c.requires.rising c.requires.order c.requires.inside in
    omega (arith, high, c.count_up_to-up_to.ensures, c.ranges.past.fits, c.ranges.first.fits)

pub returns-clause-low : goal.returns-clause-low
returns-clause-low c =
    let low = count_in_part c.args.number c.args.numbers.now c.args.first c.args.past c.requires.rising c.requires.order c.requires.inside in
    omega (arith, low, c.count_below-below.ensures)

pub returns-clause-high : goal.returns-clause-high
returns-clause-high c =
    let high = count_in_part (c.args.number + 1) c.args.numbers.now c.args.first c.args.past c.requires.rising c.requires.order c.requires.inside in
    omega (arith, high, c.count_up_to-up_to.ensures)
