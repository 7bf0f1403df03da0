use Rattle.std.proofs.Common.{sym, subst}
use Rattle.tab_tablet.specs.MergedRuns.{IsFreezeOf}
use Rattle.tab_tablet.specs.Tablets.{Tablet}
use Rattle.tab_tablets.proofs.bounded_tablet.BoundedTablet.freeze.Goals as goal

pub freeze-requires : goal.freeze-requires
freeze-requires c =
    let h = subst (λ (t : Tablet). IsFreezeOf t c.args.freeze) (sym c.self.view_is) c.requires in
    subst (λ (t : Tablet). IsFreezeOf t c.args.freeze) (sym c.deref_mut.ensures.value) (record { run = h.run; merged_runs = h.merged_runs })
