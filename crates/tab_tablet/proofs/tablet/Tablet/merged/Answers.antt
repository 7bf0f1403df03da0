use Rattle.std.proofs.Common.{◌≡◌, ◌∙◌, [], ◌++◌, ap, sym, subst, to_z, of_z, w64}
use Rattle.tab_key.specs.Sorted.{IsDistinct}
use Rattle.tab_version.specs.Sources.{Sources, records_of}
use Rattle.tab_tablet.specs.Tablets.{Tablet}
use Rattle.tab_tablet.proofs.Compacted.{merged_distinct}
use Rattle.tab_tablet.proofs.tablet.Tablet.merged.Goals as goal

pub invariant_of-result : goal.invariant_of-result
invariant_of-result c =
    let empty : c.self.inside.active ≡ [] = ap (λ (t : Tablet). t.active) c.self.view_is ∙ c.requires in
    subst (λ (s : Sources). IsDistinct (c.self.inside.active ++ records_of s)) (sym c.in_ok-sources.ensures.sources)
    (merged_distinct c.self.inside.number c.args.kind (to_z w64 (of_z w64 c.args.floor)) c.args.versions c.self.inside.active c.self.inside.sources empty c.self.invariant)
