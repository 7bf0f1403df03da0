use Rattle.std.proofs.Common.{◌≡◌, ◌++◌, take}
use Rattle.tab_mem.proofs.records.Records.push_each.Given as goal

abbrev pub invariant-loop-item : goal.invariant-loop-item
invariant-loop-item l = l.self ≡ l.fn.self ++ take l.item-index l.items
