use Rattle.std.proofs.Common.{rules}
use Rattle.tab_tablet.proofs.Counted.{capped, runs_next}
use Rattle.tab_tablet.proofs.counting.count_in_runs.Goals as goal

pub loop-run-preserved : goal.loop-run-preserved
loop-run-preserved c = search (rules, capped, runs_next c.args.runs.now c.loop-run.run-index c.run-item.result c.loop-run-test.true c.run-item.is)
