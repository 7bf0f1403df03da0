-- None so far.
use Rattle.std.proofs.Common.{◌≡◌, true, false, map, take}
use Rattle.std.specs.List.{list_any}
use Rattle.tab_key.specs.Records.{Record}
use Rattle.tab_iter.specs.Bags.{flat}
use Rattle.tab_version.proofs.has_records.any_filled.Given as goal

abbrev pub invariant-loop-one : goal.invariant-loop-one
invariant-loop-one g l = list_any (λ (u : Record). true) (flat (map g.H.HasRecords.held (take l.one-index l.several))) ≡ false
