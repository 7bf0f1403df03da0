use Rattle.std.proofs.Common.{◌≡◌, [], ◌++◌, sym, subst, rules}
use Rattle.std.specs.Prelude.{None}
use Rattle.tab_key.specs.Sorted.{IsDistinct}
use Rattle.tab_version.specs.Sources.{records_of}
use Rattle.tab_tablet.proofs.Compacted.{frozen_distinct_in}
use Rattle.tab_tablet.proofs.tablet.Tablet.frozen.Goals as goal

pub invariant_of-result : goal.invariant_of-result
invariant_of-result c =
    let none : c.new.result ≡ [] = search rules in
    subst (λ a. IsDistinct (a ++ records_of c.in_ok-sources.sources)) (sym none)
    (subst (λ s. IsDistinct (records_of s)) (sym c.in_ok-sources.ensures) (frozen_distinct_in (record { number = c.self.inside.number; end = None; active = c.self.inside.active; sources = c.self.inside.sources; jobs = c.self.inside.jobs }) c.self.invariant))
