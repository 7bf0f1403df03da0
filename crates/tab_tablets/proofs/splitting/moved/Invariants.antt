use Rattle.std.proofs.Common.{◌≡◌, take}
use Rattle.std.specs.List.{filter_map}
use Rattle.tab_tablets.specs.Places.{moved_from}
use Rattle.tab_tablets.proofs.splitting.moved.Given as goal

abbrev pub invariant-loop-other : goal.invariant-loop-other
invariant-loop-other l = l.moved.items ≡ filter_map (moved_from l.place) (take l.other-index l.places)
