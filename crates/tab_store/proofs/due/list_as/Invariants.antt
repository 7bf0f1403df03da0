-- The tables before are gone through, and the others are left.
use Rattle.std.proofs.Common.{◌≡◌, ◌≤◌, ◌++◌, List, length, map}
use Rattle.tab_store.specs.Due.{all_due, listed_on}
use Rattle.tab_store.specs.Tables.{named_table}
use Rattle.tab_store.specs.declared.due.Due.{Due}
use Rattle.tab_store.proofs.due.list_as.Given as goal

abbrev pub invariant-loop-table : goal.invariant-loop-table
invariant-loop-table l = record {
  few : length l.list.items ≤ l.max;
  listed : (rest : List Due) → listed_on l.max l.list.items (all_due l.kind (map named_table l.table-iterator) ++ rest) ≡ listed_on l.max l.fn.list.items (all_due l.kind l.tables ++ rest);
}
