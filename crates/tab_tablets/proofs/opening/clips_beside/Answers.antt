use Rattle.std.proofs.Common.{◌∙◌, ap, sym, subst}
use Rattle.tab_tablet.specs.MergedRuns.{IsFreezeOf}
use Rattle.tab_tablet.specs.Tablets.{Tablet}
use Rattle.tab_tablets.specs.Places.{tablet_at}
use Rattle.tab_tablets.proofs.Idle.{freeze_bare}
use Rattle.tab_tablets.proofs.opening.clips_beside.Goals as goal

pub clips_after-requires : goal.clips_after-requires
clips_after-requires c =
    freeze_bare (tablet_at c.args.tablet_list.now c.args.place) c.tablet-tablet.result.now c.args.freeze.now c.tablet-tablet.ensures
    (subst (λ k. IsFreezeOf (tablet_at c.args.tablet_list.now k) c.args.freeze.now) (sym c.if-place-written.true) c.requires.freeze)

pub clips-requires : goal.clips-requires
clips-requires c = ap (λ (t : Tablet). t.active) c.tablet-tablet.ensures ∙ c.requires.idle c.args.place c.if-place-written.false
