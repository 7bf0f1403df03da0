use Rattle.std.proofs.Common.{◌≡◌, ◌∙◌, List, false, sym, ap, subst}
use Rattle.std.specs.List.{filter_map}
use Rattle.tab_tablet.specs.Splitting.{split_at}
use Rattle.tab_tablet.specs.Tablets.{Tablet}
use Rattle.tab_tablets.specs.Places.{tablet_at, IsPlaceOf, at_place, is_end_row, moved_from, AreKept}
use Rattle.tab_tablets.proofs.Kept.{kept_split}
use Rattle.tab_tablets.proofs.tablets.Tablets.divide.Goals as goal

pub invariant_of-self-2 : goal.invariant_of-self-2
invariant_of-self-2 c =
    let tablet_list : List Tablet = c.self.inside.tablet_list in
    let place : IsPlaceOf c.args.row tablet_list c.args.place = subst (λ ts. IsPlaceOf c.args.row ts c.args.place) (sym c.self.view_is) c.requires.place in
    let fresh : is_end_row c.args.row (tablet_at tablet_list c.args.place).end ≡ false = subst (λ ts. is_end_row c.args.row (tablet_at ts c.args.place).end ≡ false) (sym c.self.view_is) c.requires.fresh in
    subst (λ ts. AreKept ts c.in_ok-written.written.items) (sym c.in_ok-split.ensures.ok)
    (subst (AreKept (at_place c.args.place (split_at c.args.row c.args.number) tablet_list)) (sym (c.in_ok-written.ensures ∙ ap (filter_map (moved_from c.args.place)) c.deref.ensures.value))
    (kept_split tablet_list c.self.inside.written.items c.self.invariant c.args.row c.args.number c.args.place place fresh))
