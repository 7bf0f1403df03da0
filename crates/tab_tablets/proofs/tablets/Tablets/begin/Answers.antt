use Rattle.std.proofs.Common.{◌≡◌, ◌∙◌, ℤ, List, refl, sym, ap, subst, rules, to_z, of_z, w64}
use Rattle.tab_tablet.specs.Tablets.{Tablet, capture, begins}
use Rattle.tab_tablets.specs.Parts.{found_for, begun_at, begins_at}
use Rattle.tab_tablets.specs.Places.{tablet_at, IsPlaceOf, at_place, AreKept}
use Rattle.tab_tablets.proofs.At.{one}
use Rattle.tab_tablets.proofs.InParts.{begins_in, begun_there, begins_there}
use Rattle.tab_tablets.proofs.Kept.{kept_frozen}
use Rattle.tab_tablets.proofs.tablets.Tablets.begin.Goals as goal

pub invariant_of-self-2 : goal.invariant_of-self-2
invariant_of-self-2 c =
    let tablet_list : List Tablet = c.self.inside.tablet_list in
    let f : Tablet → Tablet = begins c.args.number c.args.kind (to_z w64 (of_z w64 c.args.floor)) c.args.versions in
    subst (λ ts. AreKept ts c.leave_out.new.places.items) (sym c.in_ok-begun.ensures.ok)
    (subst (AreKept (at_place c.place_of-place.result (one f) tablet_list)) (sym c.leave_out.ensures)
    (kept_frozen tablet_list c.self.inside.written.items c.self.invariant f (λ t. refl) (begins_in c.args.row c.args.number c.args.kind (to_z w64 (of_z w64 c.args.floor)) c.args.versions) c.place_of-place.result c.place_of-place.ensures.inside (λ t. refl)))

pub returns-clause-job : goal.returns-clause-job
returns-clause-job c =
    let tablet_list : List Tablet = c.self.inside.tablet_list in
    let trip : to_z w64 (of_z w64 c.args.floor) ≡ c.args.floor = search rules in
    let place : IsPlaceOf c.args.row tablet_list c.place_of-place.result = subst (λ r. IsPlaceOf r tablet_list c.place_of-place.result) c.as_bytes.ensures c.place_of-place.ensures in
    c.found_for.ensures
    ∙ ap (found_for c.args.row) (c.in_ok-begun.ensures.job ∙ ap (λ (f : ℤ). capture c.args.number c.args.kind f c.args.versions (tablet_at tablet_list c.place_of-place.result)) trip)
    ∙ sym (begun_there c.args.row c.args.number c.args.kind c.args.floor c.args.versions tablet_list c.place_of-place.result place)
    ∙ ap (begun_at c.args.row c.args.number c.args.kind c.args.floor c.args.versions) c.self.view_is

pub returns-clause-tablets : goal.returns-clause-tablets
returns-clause-tablets c =
    let tablet_list : List Tablet = c.self.inside.tablet_list in
    let trip : to_z w64 (of_z w64 c.args.floor) ≡ c.args.floor = search rules in
    let place : IsPlaceOf c.args.row tablet_list c.place_of-place.result = subst (λ r. IsPlaceOf r tablet_list c.place_of-place.result) c.as_bytes.ensures c.place_of-place.ensures in
    c.in_ok-begun.ensures.ok
    ∙ ap (λ (f : ℤ). at_place c.place_of-place.result (one (begins c.args.number c.args.kind f c.args.versions)) tablet_list) trip
    ∙ sym (begins_there c.args.row c.args.number c.args.kind c.args.floor c.args.versions tablet_list c.place_of-place.result place)
    ∙ ap (begins_at c.args.row c.args.number c.args.kind c.args.floor c.args.versions) c.self.view_is
