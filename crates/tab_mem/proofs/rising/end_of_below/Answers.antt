use Rattle.std.proofs.Common.{◌∙◌, ◌+◌, ◌<◌, length, arith}
use Rattle.tab_mem.specs.Numbers.{count_below}
use Rattle.tab_mem.proofs.Searched.{below_at, one_further}
use Rattle.tab_mem.proofs.rising.end_of_below.Goals as goal
use mir.Val.{bool_byte}

pub loop-place-preserved : goal.loop-place-preserved
loop-place-preserved c =
    let inside : c.loop-place.place < length c.args.numbers.now = omega arith in
    (λ i. c.loop-place.invariant i + bool_byte (below_at c.args.bound c.args.numbers.now c.loop-place.place 0 c.requires.rising inside i))
    ∙ one_further c.args.from (count_below c.args.bound c.args.numbers.now) c.loop-place.place c.loop-place.auto.place
