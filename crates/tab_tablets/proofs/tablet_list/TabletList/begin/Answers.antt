use Rattle.std.proofs.Common.{◌≡◌, ◌∙◌, ◌<◌, ◌≤◌, ℤ, List, [], ◌∷◌, ◌++◌, None, length, set, refl, sym, ap, subst, rules, to_z, of_z, w64}
use Rattle.std.specs.Prelude.{Option, IfOk}
use Rattle.std.proofs.lemmas.Result.{on_ok_weaker}
use Rattle.tab_tablet.specs.Merges.{Merge}
use Rattle.tab_tablet.specs.Tablets.{Tablet, capture, begins}
use Rattle.tab_tablets.specs.Places.{ended, tablet_at, at_place}
use Rattle.tab_tablets.proofs.At.{one, at_lower, at_last, lower_is, last_is}
use Rattle.tab_tablets.proofs.EndPrefixes.{prefixes_put}
use Rattle.tab_tablets.proofs.InParts.{either_end}
use Rattle.tab_tablets.proofs.tablet_list.TabletList.begin.Goals as goal

pub returns-then-place-len-clause-job : goal.returns-then-place-len-clause-job
returns-then-place-len-clause-job c =
    let last : Tablet = ended None c.self.inside.last in
    let lower : List Tablet = c.self.inside.lower.items in
    let lt : c.args.place < length lower = search rules in
    let trip : to_z w64 (of_z w64 c.args.floor) ≡ c.args.floor = search rules in
    let is : tablet_at c.args.self.now c.args.place ≡ c.index_mut.result.now = ap (λ ts. tablet_at ts c.args.place) (sym c.self.view_is) ∙ lower_is lower last c.args.place c.index_mut.result.now lt c.index_mut.ensures.value in
    subst (λ (m : Option Merge). IfOk c.begin.result (λ job. job ≡ m))
    (ap (λ (f : ℤ). capture c.args.number c.args.kind f c.args.versions c.index_mut.result.now) trip ∙ ap (capture c.args.number c.args.kind c.args.floor c.args.versions) (sym is))
    c.begin.ensures.job

pub returns-then-place-len-clause-ok : goal.returns-then-place-len-clause-ok
returns-then-place-len-clause-ok c =
    let last : Tablet = ended None c.self.inside.last in
    let lower : List Tablet = c.self.inside.lower.items in
    let lt : c.args.place < length lower = search rules in
    let trip : to_z w64 (of_z w64 c.args.floor) ≡ c.args.floor = search rules in
    on_ok_weaker c.begin.result
    (λ e. ap (λ (t : Tablet). set lower c.args.place t ++ last ∷ []) (e ∙ ap (λ (f : ℤ). begins c.args.number c.args.kind f c.args.versions c.index_mut.result.now) trip)
    ∙ at_lower (begins c.args.number c.args.kind c.args.floor c.args.versions) lower last c.args.place c.index_mut.result.now lt c.index_mut.ensures.value
    ∙ ap (at_place c.args.place (one (begins c.args.number c.args.kind c.args.floor c.args.versions))) c.self.view_is)
    c.begin.ensures.ok

pub returns-clause-job : goal.returns-clause-job
returns-clause-job c =
    let last : Tablet = ended None c.self.inside.last in
    let lower : List Tablet = c.self.inside.lower.items in
    let ge : length lower ≤ c.args.place = search rules in
    let lt : c.args.place < length (lower ++ last ∷ []) = subst (λ (ts : List Tablet). c.args.place < length ts) (sym c.self.view_is) c.requires in
    let trip : to_z w64 (of_z w64 c.args.floor) ≡ c.args.floor = search rules in
    let is : tablet_at c.args.self.now c.args.place ≡ last = ap (λ ts. tablet_at ts c.args.place) (sym c.self.view_is) ∙ last_is lower last c.args.place ge lt in
    subst (λ (m : Option Merge). IfOk c.begin-2.result (λ job. job ≡ m))
    (ap (λ (f : ℤ). capture c.args.number c.args.kind f c.args.versions last) trip ∙ ap (capture c.args.number c.args.kind c.args.floor c.args.versions) (sym is))
    c.begin-2.ensures.job

pub returns-clause-ok : goal.returns-clause-ok
returns-clause-ok c =
    let last : Tablet = ended None c.self.inside.last in
    let lower : List Tablet = c.self.inside.lower.items in
    let ge : length lower ≤ c.args.place = search rules in
    let lt : c.args.place < length (lower ++ last ∷ []) = subst (λ (ts : List Tablet). c.args.place < length ts) (sym c.self.view_is) c.requires in
    let trip : to_z w64 (of_z w64 c.args.floor) ≡ c.args.floor = search rules in
    on_ok_weaker c.begin-2.result
    (λ e. ap (λ (t : Tablet). lower ++ ended None t ∷ []) (e ∙ ap (λ (f : ℤ). begins c.args.number c.args.kind f c.args.versions c.self.inside.last) trip)
    ∙ at_last (begins c.args.number c.args.kind c.args.floor c.args.versions) lower last c.args.place ge lt
    ∙ ap (at_place c.args.place (one (begins c.args.number c.args.kind c.args.floor c.args.versions))) c.self.view_is)
    c.begin-2.ensures.ok

pub invariant_of-self : goal.invariant_of-self
invariant_of-self c = prefixes_put c.self.inside.prefixes.items c.self.inside.lower.items c.args.place c.index_mut.result.now c.begin.new.self c.index_mut.ensures.value
    (either_end c.begin.result c.index_mut.result.now c.begin.new.self _ c.begin.ensures.ok c.begin.ensures.err refl) c.self.invariant
