use Rattle.std.specs.Prelude.{Contains}
use Rattle.tab_tablet.proofs.probing.median.Given as goal

abbrev pub invariant-loop-middle : goal.invariant-loop-middle
invariant-loop-middle l = Contains l.middles l.row
