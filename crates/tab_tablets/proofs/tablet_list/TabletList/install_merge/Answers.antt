use Rattle.std.proofs.Common.{◌≡◌, ◌∙◌, ◌<◌, ◌≤◌, List, [], ◌∷◌, ◌++◌, None, length, set, sym, ap, subst, rules}
use Rattle.std.specs.Prelude.{IfOk}
use Rattle.std.proofs.lemmas.Result.{on_ok_weaker}
use Rattle.tab_tablet.specs.Tablets.{Tablet, installed}
use Rattle.tab_tablet.specs.declared.installed.Installed.{Installed}
use Rattle.tab_tablet.proofs.InParts.{installed_end}
use Rattle.tab_tablets.specs.Places.{ended, tablet_at, at_place}
use Rattle.tab_tablets.proofs.At.{one, at_lower, at_last, lower_is, last_is}
use Rattle.tab_tablets.proofs.EndPrefixes.{prefixes_put}
use Rattle.tab_tablets.proofs.InParts.{told_ended, installed_ended, either_end}
use Rattle.tab_tablets.proofs.tablet_list.TabletList.install_merge.Goals as goal

pub returns-then-place-len-clause-told : goal.returns-then-place-len-clause-told
returns-then-place-len-clause-told c =
    let last : Tablet = ended None c.self.inside.last in
    let lower : List Tablet = c.self.inside.lower.items in
    let lt : c.args.place < length lower = search rules in
    let is : tablet_at c.args.self.now c.args.place ≡ c.index_mut.result.now = ap (λ ts. tablet_at ts c.args.place) (sym c.self.view_is) ∙ lower_is lower last c.args.place c.index_mut.result.now lt c.index_mut.ensures.value in
    subst (λ (x : Installed). IfOk c.install.result (λ told. told ≡ x)) (ap (λ (t : Tablet). (installed c.args.finished t).0) (sym is)) c.install.ensures.told

pub returns-then-place-len-clause-ok : goal.returns-then-place-len-clause-ok
returns-then-place-len-clause-ok c =
    let last : Tablet = ended None c.self.inside.last in
    let lower : List Tablet = c.self.inside.lower.items in
    let lt : c.args.place < length lower = search rules in
    on_ok_weaker c.install.result
    (λ e. ap (λ (t : Tablet). set lower c.args.place t ++ last ∷ []) e
    ∙ at_lower (λ t. (installed c.args.finished t).1) lower last c.args.place c.index_mut.result.now lt c.index_mut.ensures.value
    ∙ ap (at_place c.args.place (one (λ t. (installed c.args.finished t).1))) c.self.view_is)
    c.install.ensures.ok

pub returns-clause-told : goal.returns-clause-told
returns-clause-told c =
    let last : Tablet = ended None c.self.inside.last in
    let lower : List Tablet = c.self.inside.lower.items in
    let ge : length lower ≤ c.args.place = search rules in
    let lt : c.args.place < length (lower ++ last ∷ []) = subst (λ (ts : List Tablet). c.args.place < length ts) (sym c.self.view_is) c.requires in
    let is : tablet_at c.args.self.now c.args.place ≡ last = ap (λ ts. tablet_at ts c.args.place) (sym c.self.view_is) ∙ last_is lower last c.args.place ge lt in
    subst (λ (x : Installed). IfOk c.install-2.result (λ told. told ≡ x)) (sym (told_ended c.args.finished None c.self.inside.last) ∙ ap (λ (t : Tablet). (installed c.args.finished t).0) (sym is)) c.install-2.ensures.told

pub returns-clause-ok : goal.returns-clause-ok
returns-clause-ok c =
    let last : Tablet = ended None c.self.inside.last in
    let lower : List Tablet = c.self.inside.lower.items in
    let ge : length lower ≤ c.args.place = search rules in
    let lt : c.args.place < length (lower ++ last ∷ []) = subst (λ (ts : List Tablet). c.args.place < length ts) (sym c.self.view_is) c.requires in
    on_ok_weaker c.install-2.result
    (λ e. ap (λ (t : Tablet). lower ++ ended None t ∷ []) e
    ∙ ap (λ (t : Tablet). lower ++ t ∷ []) (sym (installed_ended c.args.finished None c.self.inside.last))
    ∙ at_last (λ t. (installed c.args.finished t).1) lower last c.args.place ge lt
    ∙ ap (at_place c.args.place (one (λ t. (installed c.args.finished t).1))) c.self.view_is)
    c.install-2.ensures.ok

pub invariant_of-self : goal.invariant_of-self
invariant_of-self c = prefixes_put c.self.inside.prefixes.items c.self.inside.lower.items c.args.place c.index_mut.result.now c.install.new.self c.index_mut.ensures.value
    (either_end c.install.result c.index_mut.result.now c.install.new.self _ c.install.ensures.ok c.install.ensures.err (installed_end c.args.finished c.index_mut.result.now)) c.self.invariant
