use Rattle.std.proofs.Common.{◌≡◌, [], ◌++◌, sym, subst, rules}
use Rattle.std.specs.Prelude.{None}
use Rattle.tab_key.specs.Sorted.{IsDistinct}
use Rattle.tab_version.specs.Sources.{records_of}
use Rattle.tab_tablet.specs.Tablets.{Tablet}
use Rattle.tab_tablet.specs.MergedRuns.{IsFreezeOf}
use Rattle.tab_tablet.proofs.MergedRunLaws.{freeze_distinct}
use Rattle.tab_tablet.proofs.tablet.Tablet.freeze.Goals as goal

pub invariant_of-self-2 : goal.invariant_of-self-2
invariant_of-self-2 c =
    let none : c.new.result ≡ [] = search rules in
    let bare : Tablet = record { number = c.self.inside.number; end = None; active = c.self.inside.active; sources = c.self.inside.sources; jobs = c.self.inside.jobs } in
    subst (λ a. IsDistinct (a ++ records_of c.put.new.self)) (sym none)
    (freeze_distinct bare c.args.freeze c.put.new.self (subst (λ (t : Tablet). IsFreezeOf t c.args.freeze) (sym c.self.view_is) c.requires) c.self.invariant c.in_ok-put.ensures.ok)
