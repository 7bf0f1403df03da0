use Rattle.tests_engine.proofs.Cuts.{left_distinct, cut_order}
use Rattle.tests_engine.proofs.versions.cuts.cut_at.Goals as goal

pub returns-clause-distinct : goal.returns-clause-distinct
returns-clause-distinct c = left_distinct c.args.row.now c.args.clips.now c.in_ok-left.left c.in_ok-left.ensures c.requires

pub returns-clause-order : goal.returns-clause-order
returns-clause-order c = cut_order c.args.row.now c.args.clips.now _ c.in_ok-left.left _ _ c.in_ok-push.ensures.items c.in_ok-low.ensures c.in_ok-left.ensures c.requires
