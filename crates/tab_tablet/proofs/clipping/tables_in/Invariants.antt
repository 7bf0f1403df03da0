use Rattle.std.proofs.Common.{◌≡◌, take}
use Rattle.std.specs.Prelude.{filter}
use Rattle.tab_key.specs.Ranges.{is_in_range}
use Rattle.tab_tablet.specs.MergedRuns.{held_in}
use Rattle.tab_tablet.proofs.clipping.tables_in.Given as goal

abbrev pub invariant-loop-table : goal.invariant-loop-table
invariant-loop-table l = held_in l.clips.items ≡ filter (λ u. is_in_range l.bounds u.key.row) (held_in (take l.table-index l.tables))
