use Rattle.std.proofs.Common.{◌≡◌, ◌<◌, length}
use Rattle.std.specs.Prelude.{slice_get}
use Rattle.tab_key.specs.Sorted.{IsDistinct}
use Rattle.tab_version.specs.Sources.{records_of}
use Rattle.tab_tablet.specs.Selecting.{rows_of}
use Rattle.tab_tablet.proofs.selecting.row_at.Given as goal

abbrev pub invariant-cuts : goal.invariant-cuts
invariant-cuts l =
    IsDistinct (records_of l.search.left)
    × (l.search.place < length (records_of l.search.left))
    × (slice_get (rows_of (records_of l.search.left)) l.search.place ≡ slice_get (rows_of (records_of l.fn.sources)) l.fn.place)

abbrev pub decreases-cuts : goal.decreases-cuts
decreases-cuts l = length (records_of l.search.left)
