use Rattle.std.proofs.Common.{◌∙◌, ◌+◌, sym, ap}
use Rattle.std.specs.Prelude.{min}
use Rattle.tab_tablets.proofs.Counted.{capped, sources_next}
use Rattle.tab_tablets.proofs.bounded_tablet.count_sources.Goals as goal

pub loop-tablet-preserved : goal.loop-tablet-preserved
loop-tablet-preserved c =
    c.saturating_add-count.ensures ∙ (λ i. min (c.loop-tablet.invariant i + c.count_sources.ensures i) 18446744073709551615) ∙ capped _ _
    ∙ ap (λ n. min n 18446744073709551615) (sym (sources_next c.args.lower.now c.loop-tablet.tablet-index c.tablet-item.result c.tablet.result.now c.loop-tablet-test.true c.tablet-item.is c.tablet.ensures))
