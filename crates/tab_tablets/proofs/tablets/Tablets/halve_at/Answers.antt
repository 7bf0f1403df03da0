use Rattle.std.proofs.Common.{◌≡◌, ◌∙◌, ◌<◌, List, false, length, sym, subst}
use Rattle.tab_tablet.specs.Tablets.{Tablet}
use Rattle.tab_tablets.specs.Places.{tablet_at, IsPlaceOf, is_end_row}
use Rattle.tab_tablets.proofs.Middle.{middle_place, middle_fresh}
use Rattle.tab_tablets.proofs.tablets.Tablets.halve_at.Goals as goal

pub split_in-requires-clause-place : goal.split_in-requires-clause-place
split_in-requires-clause-place c =
    let inside : c.args.place < length c.self.inside.tablet_list = subst (λ (ts : List Tablet). c.args.place < length ts) (sym (c.self.view_is ∙ c.make_run.ensures)) c.requires in
    subst (λ ts. IsPlaceOf c.in-Some.middle ts c.args.place) c.self.view_is
    (middle_place c.self.inside.tablet_list c.args.place c.tablet.result.now c.in-Some.middle c.self.invariant.rows inside c.tablet.ensures c.in_ok-middle_of.ensures.distinct (sym c.in-Some.is ∙ c.in_ok-middle_of.ensures.middle))

pub split_in-requires-clause-fresh : goal.split_in-requires-clause-fresh
split_in-requires-clause-fresh c =
    let inside : c.args.place < length c.self.inside.tablet_list = subst (λ (ts : List Tablet). c.args.place < length ts) (sym (c.self.view_is ∙ c.make_run.ensures)) c.requires in
    subst (λ ts. is_end_row c.in-Some.middle (tablet_at ts c.args.place).end ≡ false) c.self.view_is
    (middle_fresh c.self.inside.tablet_list c.args.place c.tablet.result.now c.in-Some.middle c.self.invariant.rows inside c.tablet.ensures c.in_ok-middle_of.ensures.distinct (sym c.in-Some.is ∙ c.in_ok-middle_of.ensures.middle))
