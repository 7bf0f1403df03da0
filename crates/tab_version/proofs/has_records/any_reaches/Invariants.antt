-- None so far.
use Rattle.std.proofs.Common.{◌≡◌, false, map, take}
use Rattle.tab_key.specs.KeyOf.{key_of}
use Rattle.tab_iter.specs.Bags.{flat}
use Rattle.tab_version.specs.InTurn.{reaches}
use Rattle.tab_version.proofs.has_records.any_reaches.Given as goal

abbrev pub invariant-loop-one : goal.invariant-loop-one
invariant-loop-one g l = reaches (key_of l.key) (flat (map g.H.HasRecords.held (take l.one-index l.several))) ≡ false
