-- Each clip so far, cut.
use Rattle.std.proofs.Common.{◌≡◌, map, take}
use Rattle.std.specs.Prelude.{filter}
use Rattle.tab_key.specs.Ranges.{is_in_range}
use Rattle.tab_key.specs.Records.{Record}
use Rattle.tab_version.specs.Sources.{Sorted}
use Rattle.tab_version.proofs.cutting.tables_in.Given as goal

abbrev pub invariant-loop-table : goal.invariant-loop-table
invariant-loop-table l = l.cut.items ≡ map (λ (t : Sorted). record t { records = filter (λ (u : Record). is_in_range l.bounds u.key.row) t.records }) (take l.table-index l.tables)
