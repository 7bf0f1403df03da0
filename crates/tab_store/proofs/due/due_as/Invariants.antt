-- The tables before tell nothing.
use Rattle.std.proofs.Common.{◌≡◌, map}
use Rattle.tab_store.specs.Due.{due_as}
use Rattle.tab_store.specs.Tables.{named_table}
use Rattle.tab_store.proofs.due.due_as.Given as goal

abbrev pub invariant-loop-table : goal.invariant-loop-table
invariant-loop-table l = due_as l.kind (map named_table l.table-iterator) ≡ due_as l.kind l.tables
