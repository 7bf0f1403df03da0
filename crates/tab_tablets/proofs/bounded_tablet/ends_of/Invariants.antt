use Rattle.std.proofs.Common.{◌≡◌, take}
use Rattle.tab_tablets.specs.ByRow.{ends_of}
use Rattle.tab_tablets.proofs.bounded_tablet.ends_of.Given as goal

abbrev pub invariant-loop-tablet : goal.invariant-loop-tablet
invariant-loop-tablet l = l.ends.items ≡ ends_of (take l.tablet-index l.lower)
