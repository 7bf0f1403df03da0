use Rattle.std.proofs.Common.{◌≡◌, ◌++◌, take, map}
use Rattle.tab_export.specs.Places.{place}
use Rattle.tab_export.proofs.order.add_records.Given as goal

abbrev pub invariant-loop-index : goal.invariant-loop-index
invariant-loop-index l = l.order.items ≡ l.initial.order.items ++ map (place l.table) (take l.index l.records)
