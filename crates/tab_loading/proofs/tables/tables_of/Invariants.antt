use Rattle.std.proofs.Common.{◌≡◌, length}
use Rattle.std.specs.List.{AllByRecursion, fold}
use Rattle.std.specs.Vec.Iter.{into_iter_items, into_iter_len}
use Rattle.tab_store.specs.Stores.{RiseByName}
use Rattle.tab_store.specs.Tables.{table_at}
use Rattle.tab_loading.specs.Tables.{IsOrdered, number_behind, numbered_from}
use Rattle.tab_loading.proofs.Placing.{placed, all_placed}
use Rattle.tab_loading.proofs.tables.tables_of.Given as goal

-- the tables that are left, put there too, leave what all of them do, and the number behind all of them
abbrev pub invariant-loop-table : goal.invariant-loop-table
invariant-loop-table l = record {
  left : into_iter_len l.table-iterator ≡ length (into_iter_items l.table-iterator);
  each : AllByRecursion IsOrdered (into_iter_items l.table-iterator);
  names : RiseByName l.made;
  read : fold placed (table_at l.made) (numbered_from l.number (into_iter_items l.table-iterator)) ≡ all_placed (numbered_from 0 l.fn.tables.items);
  number : fold number_behind l.number (into_iter_items l.table-iterator) ≡ fold number_behind 0 l.fn.tables.items;
}
