use Rattle.std.proofs.Common.{◌≡◌, ◌++◌, take}
use Rattle.tab_iter.specs.Bags.{flat}
use Rattle.tab_mem.proofs.sorting.classes.lend_all.Given as goal

abbrev pub invariant-loop-group : goal.invariant-loop-group
invariant-loop-group l = l.items.items ≡ l.initial.items.items ++ flat (take l.group-index l.groups)
