use Rattle.std.proofs.Common.{◌≡◌, ◌∙◌, ◌<◌, ◌≤◌, List, [], ◌∷◌, ◌++◌, None, length, set, sym, ap, subst, rules}
use Rattle.std.specs.Prelude.{Result, Ok, Err, OnOk, OnErr}
use Rattle.std.proofs.lemmas.Result.{on_ok_weaker}
use Rattle.tab_tablet.specs.MergedRuns.{IsFreezeOf}
use Rattle.tab_tablet.specs.Tablets.{Tablet, frozen}
use Rattle.tab_tablets.specs.Places.{ended, tablet_at, at_place}
use Rattle.tab_tablets.proofs.At.{one, at_lower, at_last, lower_is, last_is}
use Rattle.tab_tablets.proofs.EndPrefixes.{prefixes_put}
use Rattle.tab_tablets.proofs.tablet_list.TabletList.freeze.Goals as goal

-- the end row stays, whether it was frozen or not
either_end : {A E : Type 0} (r : Result A E) (old new : Tablet) → OnOk r (new ≡ frozen old) → OnErr r (new ≡ old) → new.end ≡ old.end
either_end (Ok x) old new ok err = ap (λ (t : Tablet). t.end) ok
either_end (Err e) old new ok err = ap (λ (t : Tablet). t.end) err

pub freeze-requires : goal.freeze-requires
freeze-requires c =
    let last : Tablet = ended None c.self.inside.last in
    let lower : List Tablet = c.self.inside.lower.items in
    let lt : c.args.place < length lower = search rules in
    let is : tablet_at c.args.self.now c.args.place ≡ c.index_mut.result.now = ap (λ ts. tablet_at ts c.args.place) (sym c.self.view_is) ∙ lower_is lower last c.args.place c.index_mut.result.now lt c.index_mut.ensures.value in
    subst (λ (t : Tablet). IsFreezeOf t c.args.freeze) is c.requires.freeze

pub returns-then-place-len-clause-ok : goal.returns-then-place-len-clause-ok
returns-then-place-len-clause-ok c =
    let last : Tablet = ended None c.self.inside.last in
    let lower : List Tablet = c.self.inside.lower.items in
    let lt : c.args.place < length lower = search rules in
    on_ok_weaker c.freeze.result
    (λ e. ap (λ (t : Tablet). set lower c.args.place t ++ last ∷ []) e
    ∙ at_lower frozen lower last c.args.place c.index_mut.result.now lt c.index_mut.ensures.value
    ∙ ap (at_place c.args.place (one frozen)) c.self.view_is)
    c.freeze.ensures.ok

pub freeze-requires-2 : goal.freeze-requires-2
freeze-requires-2 c =
    let last : Tablet = ended None c.self.inside.last in
    let lower : List Tablet = c.self.inside.lower.items in
    let ge : length lower ≤ c.args.place = search rules in
    let lt : c.args.place < length (lower ++ last ∷ []) = subst (λ (ts : List Tablet). c.args.place < length ts) (sym c.self.view_is) c.requires.inside in
    let is : tablet_at c.args.self.now c.args.place ≡ last = ap (λ ts. tablet_at ts c.args.place) (sym c.self.view_is) ∙ last_is lower last c.args.place ge lt in
    let h = subst (λ (t : Tablet). IsFreezeOf t c.args.freeze) is c.requires.freeze in
    record { run = h.run; merged_runs = h.merged_runs }

pub returns-clause-ok : goal.returns-clause-ok
returns-clause-ok c =
    let last : Tablet = ended None c.self.inside.last in
    let lower : List Tablet = c.self.inside.lower.items in
    let ge : length lower ≤ c.args.place = search rules in
    let lt : c.args.place < length (lower ++ last ∷ []) = subst (λ (ts : List Tablet). c.args.place < length ts) (sym c.self.view_is) c.requires.inside in
    on_ok_weaker c.freeze-2.result
    (λ e. ap (λ (t : Tablet). lower ++ ended None t ∷ []) e
    ∙ at_last frozen lower last c.args.place ge lt
    ∙ ap (at_place c.args.place (one frozen)) c.self.view_is)
    c.freeze-2.ensures.ok

pub invariant_of-self : goal.invariant_of-self
invariant_of-self c = prefixes_put c.self.inside.prefixes.items c.self.inside.lower.items c.args.place c.index_mut.result.now c.freeze.new.self c.index_mut.ensures.value
    (either_end c.freeze.result c.index_mut.result.now c.freeze.new.self c.freeze.ensures.ok c.freeze.ensures.err) c.self.invariant
