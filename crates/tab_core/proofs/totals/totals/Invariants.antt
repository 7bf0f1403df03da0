-- What the tables before have is summed, and the others are left.
use Rattle.std.proofs.Common.{◌≡◌, ◌≤◌, map}
use Rattle.tab_store.specs.Tables.{named_table}
use Rattle.tab_core.specs.Totals.{total}
use Rattle.tab_core.proofs.Summed.{ahead}
use Rattle.tab_core.proofs.totals.totals.Given as goal

abbrev pub invariant-loop-table : goal.invariant-loop-table
invariant-loop-table l = record {
  tablets : ahead (λ c. c.tablets) l.sums.tablets (map named_table l.table-iterator) ≡ total (λ c. c.tablets) l.tables;
  sources : ahead (λ c. c.sources) l.sums.sources (map named_table l.table-iterator) ≡ total (λ c. c.sources) l.tables;
  records : ahead (λ c. c.records) l.sums.records (map named_table l.table-iterator) ≡ total (λ c. c.records) l.tables;
  few_tablets : l.sums.tablets ≤ 18446744073709551615;
  few_sources : l.sums.sources ≤ 18446744073709551615;
  few_records : l.sums.records ≤ 18446744073709551615;
}
