use Rattle.std.proofs.Common.{◌≡◌, take}
use Rattle.std.specs.Prelude.{min, sum, map}
use Rattle.tab_tablets.proofs.Counted.{sources_of}
use Rattle.tab_tablets.proofs.bounded_tablet.count_sources.Given as goal

abbrev pub invariant-loop-tablet : goal.invariant-loop-tablet
invariant-loop-tablet l = l.count ≡ min (sum (map sources_of (take l.tablet-index l.lower))) 18446744073709551615
