use Rattle.std.proofs.Common.{arith}
use Rattle.tab_mem.proofs.Searched.{below_within}
use Rattle.tab_mem.proofs.rising.count_below.Goals as goal

pub loop-left-init : goal.loop-left-init
loop-left-init c =
    let within = below_within c.args.bound c.args.numbers.now in
    record { inside = omega arith; below = omega arith; within = omega (arith, within) }
