use Rattle.std.proofs.Common.{◌≡◌, take}
use Rattle.std.specs.List.{flat_map}
use Rattle.tab_export.specs.Places.{table_places}
use Rattle.tab_export.proofs.order.gathered.Given as goal

abbrev pub invariant-loop-table : goal.invariant-loop-table
invariant-loop-table l = l.order.items ≡ flat_map table_places (take l.table-index l.tables)
