use Rattle.std.proofs.Common.{◌∙◌, [], ◌∷◌, ◌++◌, sym}
use Rattle.tab_tablets.proofs.Counted.{ends_next}
use Rattle.tab_tablets.proofs.bounded_tablet.ends_of.Goals as goal

pub loop-tablet-preserved : goal.loop-tablet-preserved
loop-tablet-preserved c =
    c.in_ok-push.ensures.items ∙ (λ i. c.loop-tablet.invariant i ++ c.in_ok-clone.ensures.cases i ∷ [])
    ∙ sym (ends_next c.args.lower.now c.loop-tablet.tablet-index c.tablet-item.result c.end.result.now c.loop-tablet-test.true c.tablet-item.is c.end.ensures)
