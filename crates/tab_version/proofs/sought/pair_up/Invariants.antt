-- The pairs so far pass.
use Rattle.std.proofs.Common.{◌≡◌, drop}
use Rattle.tab_version.specs.Sources.{same_lists}
use Rattle.tab_version.proofs.sought.pair_up.Given as goal

abbrev pub invariant-loop-index : goal.invariant-loop-index
invariant-loop-index g l = same_lists g.T.Sought.passes l.several l.others ≡ same_lists g.T.Sought.passes (drop l.index l.several) (drop l.index l.others)
