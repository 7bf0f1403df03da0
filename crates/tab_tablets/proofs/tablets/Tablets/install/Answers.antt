use Rattle.std.proofs.Common.{◌≡◌, ◌∙◌, List, sym, ap, subst}
use Rattle.std.specs.Prelude.{◌==◌, IfOk, OnOk}
use Rattle.tab_tablet.specs.Tablets.{Tablet, installed}
use Rattle.tab_tablet.specs.declared.installed.Installed.{Installed}
use Rattle.tab_tablet.proofs.InParts.{installed_active, installed_end, installed_in}
use Rattle.tab_tablets.specs.Parts.{installs_in}
use Rattle.tab_tablets.specs.Places.{tablet_at, IsPlaceOf, at_place, AreKept}
use Rattle.tab_tablets.proofs.At.{one}
use Rattle.tab_tablets.proofs.InParts.{installs_there, installs_nowhere}
use Rattle.tab_tablets.proofs.Kept.{kept_one, either}
use Rattle.tab_tablets.proofs.tablets.Tablets.install.Goals as goal

pub invariant_of-self : goal.invariant_of-self
invariant_of-self c =
    let tablet_list : List Tablet = c.self.inside.tablet_list in
    let f : Tablet → Tablet = λ t. (installed c.args.finished.merge t).1 in
    either (λ ts. AreKept ts c.self.inside.written.items) c.install_merge.result (at_place c.place_of-place.result (one f) tablet_list) tablet_list c.install_merge.new.self
    (subst (λ m. OnOk c.install_merge.result (c.install_merge.new.self ≡ at_place c.place_of-place.result (one (λ t. (installed m t).1)) tablet_list)) c.into_finished-merge.ensures c.install_merge.ensures.ok)
    c.install_merge.ensures.err
    (kept_one tablet_list c.self.inside.written.items c.self.invariant f (installed_end c.args.finished.merge) (installed_in c.args.finished.merge) c.place_of-place.result (installed_active c.args.finished.merge))
    c.self.invariant

-- the tablet there has another number
pub returns-then-not-has_number-clause-told : goal.returns-then-not-has_number-clause-told
returns-then-not-has_number-clause-told c =
    let tablet_list : List Tablet = c.self.inside.tablet_list in
    let place : IsPlaceOf c.args.finished.row tablet_list c.place_of-place.result = subst (λ r. IsPlaceOf r tablet_list c.place_of-place.result) c.row.ensures c.place_of-place.ensures in
    sym (ap (λ (x : Installed × List Tablet). x.0) (ap (installs_in c.args.finished) (sym c.self.view_is)
    ∙ installs_nowhere c.args.finished tablet_list c.place_of-place.result place (ap (λ n. ((tablet_at tablet_list c.place_of-place.result).number == n)) (sym c.tablet.ensures) ∙ sym c.has_number.ensures ∙ c.if-not-has_number.true)))

pub returns-then-not-has_number-clause-tablets : goal.returns-then-not-has_number-clause-tablets
returns-then-not-has_number-clause-tablets c =
    let tablet_list : List Tablet = c.self.inside.tablet_list in
    let place : IsPlaceOf c.args.finished.row tablet_list c.place_of-place.result = subst (λ r. IsPlaceOf r tablet_list c.place_of-place.result) c.row.ensures c.place_of-place.ensures in
    sym (ap (λ (x : Installed × List Tablet). x.1) (ap (installs_in c.args.finished) (sym c.self.view_is)
    ∙ installs_nowhere c.args.finished tablet_list c.place_of-place.result place (ap (λ n. ((tablet_at tablet_list c.place_of-place.result).number == n)) (sym c.tablet.ensures) ∙ sym c.has_number.ensures ∙ c.if-not-has_number.true))
    ∙ c.self.view_is)

-- it is the merge's
pub returns-clause-told : goal.returns-clause-told
returns-clause-told c =
    let tablet_list : List Tablet = c.self.inside.tablet_list in
    let place : IsPlaceOf c.args.finished.row tablet_list c.place_of-place.result = subst (λ r. IsPlaceOf r tablet_list c.place_of-place.result) c.row.ensures c.place_of-place.ensures in
    subst (λ (x : Installed). IfOk c.install_merge.result (λ told. told ≡ x))
    (ap (λ m. (installed m (tablet_at tablet_list c.place_of-place.result)).0) c.into_finished-merge.ensures
    ∙ sym (ap (λ (x : Installed × List Tablet). x.0) (installs_there c.args.finished tablet_list c.place_of-place.result place (ap (λ n. ((tablet_at tablet_list c.place_of-place.result).number == n)) (sym c.tablet.ensures) ∙ sym c.has_number.ensures ∙ c.if-not-has_number.false)))
    ∙ ap (λ ts. (installs_in c.args.finished ts).0) c.self.view_is)
    c.install_merge.ensures.told

pub returns-clause-tablets : goal.returns-clause-tablets
returns-clause-tablets c =
    let tablet_list : List Tablet = c.self.inside.tablet_list in
    let place : IsPlaceOf c.args.finished.row tablet_list c.place_of-place.result = subst (λ r. IsPlaceOf r tablet_list c.place_of-place.result) c.row.ensures c.place_of-place.ensures in
    subst (λ (ts : List Tablet). OnOk c.install_merge.result (c.install_merge.new.self ≡ ts))
    (ap (λ m. at_place c.place_of-place.result (one (λ t. (installed m t).1)) tablet_list) c.into_finished-merge.ensures
    ∙ sym (ap (λ (x : Installed × List Tablet). x.1) (installs_there c.args.finished tablet_list c.place_of-place.result place (ap (λ n. ((tablet_at tablet_list c.place_of-place.result).number == n)) (sym c.tablet.ensures) ∙ sym c.has_number.ensures ∙ c.if-not-has_number.false)))
    ∙ ap (λ ts. (installs_in c.args.finished ts).1) c.self.view_is)
    c.install_merge.ensures.ok
