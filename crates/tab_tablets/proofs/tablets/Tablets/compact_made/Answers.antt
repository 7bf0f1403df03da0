use Rattle.std.proofs.Common.{◌≡◌, ◌∙◌, inl, ℤ, List, map, sym, subst, rules, to_z, of_z, w64}
use Rattle.tab_tablet.specs.Tablets.{Tablet, compacted}
use Rattle.tab_tablet.proofs.Compacted.{compacted_in}
use Rattle.tab_tablets.specs.Places.{AreKept}
use Rattle.tab_tablets.proofs.PutIn.{installed_all}
use Rattle.tab_tablets.proofs.Kept.{kept_all}
use Rattle.tab_tablets.proofs.Merged.{compacted_end, compacted_idle}
use Rattle.tab_tablets.proofs.tablets.Tablets.compact_made.Goals as goal

pub invariant_of-self : goal.invariant_of-self
invariant_of-self c =
    let floor : ℤ = to_z w64 (of_z w64 c.args.floor) in
    let f : Tablet → Tablet = compacted c.args.kind floor c.args.versions in
    let tablet_list : List Tablet = c.self.inside.tablet_list in
    let all : c.install.new.self ≡ map f tablet_list = c.install.ensures ∙ installed_all f (compacted_end c.args.kind floor c.args.versions) tablet_list c.in_ok-made.made.items c.in_ok-made.ensures.made (λ k lt. inl (c.in_ok-made.ensures.all k lt)) in
    subst (λ ts. AreKept ts c.clear.new.self.items) (sym all) (subst (AreKept (map f tablet_list)) (sym c.clear.ensures.items)
    (kept_all tablet_list c.self.inside.written.items c.self.invariant f (compacted_end c.args.kind floor c.args.versions) (compacted_in c.args.kind floor c.args.versions) (compacted_idle c.args.kind floor c.args.versions)))

pub returns-clause-ok : goal.returns-clause-ok
returns-clause-ok c =
    let floor : ℤ = to_z w64 (of_z w64 c.args.floor) in
    let trip : to_z w64 (of_z w64 c.args.floor) ≡ c.args.floor = search rules in
    c.install.ensures
    ∙ installed_all (compacted c.args.kind floor c.args.versions) (compacted_end c.args.kind floor c.args.versions) c.self.inside.tablet_list c.in_ok-made.made.items c.in_ok-made.ensures.made (λ k lt. inl (c.in_ok-made.ensures.all k lt))
    ∙ (λ i. map (compacted c.args.kind (trip i) c.args.versions) (c.self.view_is i))
