use Rattle.std.proofs.Common.{[], ◌∷◌, ◌++◌, ap, sym, subst}
use Rattle.std.specs.Prelude.{None}
use Rattle.tab_version.specs.Sources.{Sources}
use Rattle.tab_tablet.specs.Tablets.{Tablet}
use Rattle.tab_tablet.specs.MergedRuns.{IsFreezeOf}
use Rattle.tab_tablet.proofs.MergedRunLaws.{freeze_distinct}
use Rattle.tab_tablet.proofs.tablet.Tablet.clips_after.Goals as goal

pub clips_after-requires-clause-distinct : goal.clips_after-requires-clause-distinct
clips_after-requires-clause-distinct c =
    let bare : Tablet = record { number = c.self.inside.number; end = None; active = c.self.inside.active; sources = c.self.inside.sources; jobs = c.self.inside.jobs } in
    freeze_distinct bare c.args.freeze.now _ (subst (λ (t : Tablet). IsFreezeOf t c.args.freeze.now) (sym c.self.view_is) c.requires) c.self.invariant
    (ap (λ (s : Sources). record s { runs = s.runs ++ c.args.freeze.now.run ∷ [] }) c.lists_or-source_lists.ensures)
