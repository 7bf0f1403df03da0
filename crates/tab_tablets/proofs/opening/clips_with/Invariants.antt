use Rattle.std.proofs.Common.{◌≡◌}
use Rattle.std.specs.Prelude.{map, slice_range}
use Rattle.tab_iter.specs.Bags.{flat}
use Rattle.tab_tablets.proofs.Ranges.{in_its_order, part_sorted}
use Rattle.tab_tablets.proofs.opening.clips_with.Given as goal

abbrev pub invariant-loop-place : goal.invariant-loop-place
invariant-loop-place l = flat (map in_its_order l.clips.items) ≡ flat (map (part_sorted l.bounds) (slice_range l.tablet_list l.from l.place))
