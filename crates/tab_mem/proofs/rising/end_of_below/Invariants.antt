use Rattle.std.proofs.Common.{◌≡◌, min, max}
use Rattle.tab_mem.specs.Numbers.{count_below}
use Rattle.tab_mem.proofs.rising.end_of_below.Given as goal

abbrev pub invariant-loop-place : goal.invariant-loop-place
invariant-loop-place l = l.reached ≡ max l.from (min (count_below l.bound l.numbers) l.place)
