-- What is held still stands at places of its own.
use Rattle.std.proofs.Common.{◌≡◌, ◌∙◌, ◌++◌, sym, subst}
use Rattle.std.specs.Prelude.{None, Some}
use Rattle.tab_key.specs.Sorted.{IsDistinct}
use Rattle.tab_version.specs.Sources.{Sources, records_of, left_by}
use Rattle.tab_tablet.specs.Tablets.{Tablet}
use Rattle.tab_tablet.proofs.Moved.{replaced_distinct}
use Rattle.tab_tablet.proofs.tablet.Tablet.replace.Goals as goal

pub invariant_of-self : goal.invariant_of-self
invariant_of-self c =
    let bare : Tablet = record { number = c.self.inside.number; end = None; active = c.self.inside.active; sources = c.self.inside.sources; jobs = c.self.inside.jobs } in
    let found : left_by c.args.finished.inputs bare.sources ≡ Some c.args.left = subst (λ (t : Tablet). left_by c.args.finished.inputs t.sources ≡ Some c.args.left) (sym c.self.view_is) c.requires in
    subst (λ (s : Sources). IsDistinct (c.self.inside.active ++ records_of s)) (sym (c.in_ok-sources.ensures ∙ c.in_ok-source_lists.ensures)) (replaced_distinct c.args.finished bare c.args.left found c.self.invariant)
