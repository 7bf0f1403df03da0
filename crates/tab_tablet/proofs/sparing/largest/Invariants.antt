use Rattle.std.proofs.Common.{◌≡◌, take}
use Rattle.tab_compact.specs.Plans.{largest}
use Rattle.tab_compact.specs.Merges.{sizes_of}
use Rattle.tab_tablet.proofs.sparing.largest.Given as goal

abbrev pub invariant-loop-table : goal.invariant-loop-table
invariant-loop-table l = l.limit ≡ largest (sizes_of (take l.table-index l.tables))
