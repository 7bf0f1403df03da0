use Rattle.std.proofs.Common.{◌≡◌, take, length}
use Rattle.std.specs.Prelude.{min}
use Rattle.tab_tablets.specs.ByRow.{records_of_all}
use Rattle.tab_tablets.proofs.bounded_tablet.count_records.Given as goal

abbrev pub invariant-loop-tablet : goal.invariant-loop-tablet
invariant-loop-tablet l = l.count ≡ min (length (records_of_all (take l.tablet-index l.lower))) 18446744073709551615
