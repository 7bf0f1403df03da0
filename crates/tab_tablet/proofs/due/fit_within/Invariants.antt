-- Those of the first tables, how many they are and how large together.
use Rattle.std.proofs.Common.{◌≡◌, ◌≤◌, ◌*◌, ◌^◌, take}
use Rattle.tab_tablet.specs.Due.{count_within, size_within}
use Rattle.tab_tablet.proofs.due.fit_within.Given as goal

abbrev pub invariant-loop-table : goal.invariant-loop-table
invariant-loop-table l = record {
  counted : l.count ≡ count_within l.limit (take l.table-index l.tables);
  summed : l.sum ≡ size_within l.limit (take l.table-index l.tables);
  few : l.count ≤ l.table-index;
  small : l.sum ≤ l.table-index * 2 ^ 64;
}
