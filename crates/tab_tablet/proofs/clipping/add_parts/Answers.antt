use Rattle.tab_key.specs.Ranges.{is_in_range}
use Rattle.tab_iter.specs.Bags.{flat}
use Rattle.tab_tablet.proofs.Clipped.{parts_beside}
use Rattle.tab_tablet.proofs.clipping.add_parts.Goals as goal

pub loop-run-preserved : goal.loop-run-preserved
loop-run-preserved c =
    parts_beside (λ u. is_in_range c.args.bounds.now u.key.row) (flat c.args.clips.now.items) c.args.runs.now c.loop-run.clips.items c.add_run.new.clips.items c.loop-run.run-index c.run-item.result c.in_ok-in_rows.field-0
    c.loop-run-test.true c.run-item.is c.in_ok-in_rows.ensures c.loop-run.invariant c.in_ok-add_run.ensures
