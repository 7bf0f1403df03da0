use Rattle.std.proofs.Common.{◌≡◌, ◌∙◌, ℕ, List, Bool, sym, ap, subst}
use Rattle.std.specs.Prelude.{IfOk, OnOk}
use Rattle.tab_tablet.specs.Tablets.{Tablet}
use Rattle.tab_tablets.specs.ByRow.{AreWhole, is_end}
use Rattle.tab_tablets.specs.Places.{tablet_at, IsPlaceOf, is_end_row}
use Rattle.tab_tablets.specs.declared.splitting.Split.{Split}
use Rattle.tab_tablets.proofs.EndRows.{end_at_place}
use Rattle.tab_tablets.proofs.Told.{present, absent}
use Rattle.tab_tablets.proofs.tablets.Tablets.split.Goals as goal

-- whether the row is an end is what its tablet tells
asked : (row : List ℕ) (tablet_list now : List Tablet) (p : ℕ) (first second : List ℕ) (v : Bool) → tablet_list ≡ now → AreWhole tablet_list → first ≡ row → second ≡ row → IsPlaceOf first tablet_list p → v ≡ is_end_row second (tablet_at tablet_list p).end → is_end row now ≡ v
asked row tablet_list now p first second v same whole a b place e =
    ap (is_end row) (sym same) ∙ end_at_place row tablet_list p whole (subst (λ r. IsPlaceOf r tablet_list p) a place) ∙ ap (λ r. is_end_row r (tablet_at tablet_list p).end) (sym b) ∙ sym e

pub returns-then-is_end_at-clause-told : goal.returns-then-is_end_at-clause-told
returns-then-is_end_at-clause-told c =
    sym (ap (λ (x : Split × List Tablet). x.0) (present c.args.row c.args.number c.args.self.now (asked c.args.row c.self.inside.tablet_list c.args.self.now c.place_of-place.result c.as_bytes.result.now c.as_bytes-2.result.now c.is_end_at.result c.self.view_is c.self.invariant.whole c.as_bytes.ensures c.as_bytes-2.ensures c.place_of-place.ensures c.is_end_at.ensures ∙ c.if-is_end_at.true)))

pub returns-then-is_end_at-clause-tablets : goal.returns-then-is_end_at-clause-tablets
returns-then-is_end_at-clause-tablets c =
    sym (ap (λ (x : Split × List Tablet). x.1) (present c.args.row c.args.number c.args.self.now (asked c.args.row c.self.inside.tablet_list c.args.self.now c.place_of-place.result c.as_bytes.result.now c.as_bytes-2.result.now c.is_end_at.result c.self.view_is c.self.invariant.whole c.as_bytes.ensures c.as_bytes-2.ensures c.place_of-place.ensures c.is_end_at.ensures ∙ c.if-is_end_at.true)))

pub returns-clause-told : goal.returns-clause-told
returns-clause-told c =
    subst (λ (x : Split). IfOk c.split_in.result (λ told. told ≡ x))
    (sym (ap (λ (x : Split × List Tablet). x.0) (absent c.args.row c.args.number c.args.self.now (asked c.args.row c.self.inside.tablet_list c.args.self.now c.place_of-place.result c.as_bytes.result.now c.as_bytes-2.result.now c.is_end_at.result c.self.view_is c.self.invariant.whole c.as_bytes.ensures c.as_bytes-2.ensures c.place_of-place.ensures c.is_end_at.ensures ∙ c.if-is_end_at.false))))
    c.split_in.ensures.told

pub returns-clause-tablets : goal.returns-clause-tablets
returns-clause-tablets c =
    subst (λ (ts : List Tablet). OnOk c.split_in.result (c.split_in.new.self ≡ ts))
    (sym (ap (λ (x : Split × List Tablet). x.1) (absent c.args.row c.args.number c.args.self.now (asked c.args.row c.self.inside.tablet_list c.args.self.now c.place_of-place.result c.as_bytes.result.now c.as_bytes-2.result.now c.is_end_at.result c.self.view_is c.self.invariant.whole c.as_bytes.ensures c.as_bytes-2.ensures c.place_of-place.ensures c.is_end_at.ensures ∙ c.if-is_end_at.false))))
    c.split_in.ensures.tablets
