use Rattle.std.proofs.Common.{take}
use Rattle.tab_tablets.specs.EndPrefixes.{ArePrefixes}
use Rattle.tab_tablets.proofs.bounded_tablet.prefixes_of.Given as goal

abbrev pub invariant-loop-tablet : goal.invariant-loop-tablet
invariant-loop-tablet l = ArePrefixes l.prefixes.items (take l.tablet-index l.lower)
