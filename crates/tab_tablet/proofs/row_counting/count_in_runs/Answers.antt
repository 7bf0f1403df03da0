use Rattle.std.proofs.Common.{arith}
use Rattle.tab_key.specs.Ranges.{is_in_range}
use Rattle.tab_tablet.proofs.Clipped.{flat_next}
use Rattle.tab_tablet.proofs.RowCounts.{counted_next}
use Rattle.tab_tablet.proofs.row_counting.count_in_runs.Goals as goal

pub loop-run-preserved : goal.loop-run-preserved
loop-run-preserved c = (
  omega (arith, c.loop-run.invariant.0, c.count_in.ensures, counted_next (λ u. is_in_range c.args.bounds.now u.key.row) _ c.run-item.result _ (flat_next c.args.runs.now c.loop-run.run-index c.run-item.result c.loop-run-test.true c.run-item.is)),
  omega (arith, c.loop-run.invariant.1),
)
