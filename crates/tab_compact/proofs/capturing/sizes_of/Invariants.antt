-- The sizes of those so far.
use Rattle.std.proofs.Common.{◌≡◌, take}
use Rattle.tab_compact.specs.Merges.{sizes_of}
use Rattle.tab_compact.proofs.capturing.sizes_of.Given as goal

abbrev pub invariant-loop-table : goal.invariant-loop-table
invariant-loop-table l = l.sizes.items ≡ sizes_of (take l.table-index l.tables)
