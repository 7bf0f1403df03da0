use Rattle.std.proofs.Common.{◌≡◌, ◌≤◌, ◌*◌, take, length}
use Rattle.std.specs.Prelude.{filter}
use Rattle.tab_key.specs.Ranges.{is_in_range}
use Rattle.tab_tablet.proofs.Clipped.{held_in}
use Rattle.tab_tablet.proofs.row_counting.count_in_tables.Given as goal

abbrev pub invariant-loop-table : goal.invariant-loop-table
invariant-loop-table l = (l.count ≡ length (filter (λ u. is_in_range l.bounds u.key.row) (held_in (take l.table-index l.tables)))) × (l.count ≤ l.table-index * 18446744073709551615)
