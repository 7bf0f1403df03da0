use Rattle.std.proofs.Common.{◌∙◌}
use Rattle.tests_engine.proofs.Cuts.{cut_rises}
use Rattle.tests_engine.proofs.versions.cuts.cut.Goals as goal

pub loop-row-preserved : goal.loop-row-preserved
loop-row-preserved c = record {
  distinct = c.in_ok-left.ensures.distinct;
  order = c.in_ok-left.ensures.order ∙ c.loop-row.invariant.order;
}

pub returns : goal.returns
returns c = cut_rises c.args.clips _ _ _ c.in_ok-push.ensures.items c.loop-row.invariant.order c.requires
