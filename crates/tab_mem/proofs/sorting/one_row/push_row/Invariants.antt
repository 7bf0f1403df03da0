use Rattle.std.proofs.Common.{◌≡◌, ◌++◌, take}
use Rattle.tab_mem.proofs.sorting.one_row.push_row.Given as goal

abbrev pub invariant-loop-item : goal.invariant-loop-item
invariant-loop-item l = l.records ≡ l.fn.records ++ take l.item-index l.items
