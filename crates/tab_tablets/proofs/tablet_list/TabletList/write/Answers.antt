use Rattle.std.proofs.Common.{◌≡◌, ◌∙◌, ◌<◌, ◌≤◌, List, [], ◌∷◌, ◌++◌, None, length, set, sym, ap, subst, rules, to_z, of_z, w64}
use Rattle.std.specs.Prelude.{Contains, Result, Ok, Err, OnOk, OnErr}
use Rattle.std.proofs.lemmas.Result.{on_ok_weaker}
use Rattle.tab_key.specs.Records.{Record}
use Rattle.tab_cells.specs.Written.{mutation_records}
use Rattle.tab_tablet.specs.Tablets.{Tablet, records_in, written}
use Rattle.tab_tablets.specs.Places.{ended, tablet_at, at_place}
use Rattle.tab_tablets.proofs.At.{one, at_lower, at_last, lower_is, last_is}
use Rattle.tab_tablets.proofs.EndPrefixes.{prefixes_put}
use Rattle.tab_tablets.proofs.tablet_list.TabletList.write.Goals as goal

-- the end row stays, whether it was written or not
either_end : {A E : Type 0} (r : Result A E) (old new : Tablet) (us : List Record) → OnOk r (new ≡ written us old) → OnErr r (new ≡ old) → new.end ≡ old.end
either_end (Ok x) old new us ok err = ap (λ (t : Tablet). t.end) ok
either_end (Err e) old new us ok err = ap (λ (t : Tablet). t.end) err

pub write-requires : goal.write-requires
write-requires c =
    let last : Tablet = ended None c.self.inside.last in
    let lower : List Tablet = c.self.inside.lower.items in
    let lt : c.args.place < length lower = search rules in
    let is : tablet_at c.args.self.now c.args.place ≡ c.index_mut.result.now = ap (λ ts. tablet_at ts c.args.place) (sym c.self.view_is) ∙ lower_is lower last c.args.place c.index_mut.result.now lt c.index_mut.ensures.value in
    record { unused = λ u k. c.requires.unused u (subst (λ (t : Tablet). Contains (records_in t) u) (sym is) k) }

pub returns-then-place-len-clause-ok : goal.returns-then-place-len-clause-ok
returns-then-place-len-clause-ok c =
    let last : Tablet = ended None c.self.inside.last in
    let lower : List Tablet = c.self.inside.lower.items in
    let lt : c.args.place < length lower = search rules in
    let trip : to_z w64 (of_z w64 c.args.clock) ≡ c.args.clock = search rules in
    let us : List Record = mutation_records c.args.seq c.args.clock c.args.mutation.now in
    on_ok_weaker c.write.result
    (λ e. ap (λ (t : Tablet). set lower c.args.place t ++ last ∷ []) (e ∙ (λ i. written (mutation_records c.args.seq (trip i) c.args.mutation.now) c.index_mut.result.now))
    ∙ at_lower (written us) lower last c.args.place c.index_mut.result.now lt c.index_mut.ensures.value
    ∙ ap (at_place c.args.place (one (written us))) c.self.view_is)
    c.write.ensures.ok

pub write-requires-2 : goal.write-requires-2
write-requires-2 c =
    let last : Tablet = ended None c.self.inside.last in
    let lower : List Tablet = c.self.inside.lower.items in
    let ge : length lower ≤ c.args.place = search rules in
    let lt : c.args.place < length (lower ++ last ∷ []) = subst (λ (ts : List Tablet). c.args.place < length ts) (sym c.self.view_is) c.requires.inside in
    let is : tablet_at c.args.self.now c.args.place ≡ last = ap (λ ts. tablet_at ts c.args.place) (sym c.self.view_is) ∙ last_is lower last c.args.place ge lt in
    record { unused = λ u k. c.requires.unused u (subst (λ (t : Tablet). Contains (records_in t) u) (sym is) k) }

pub returns-clause-ok : goal.returns-clause-ok
returns-clause-ok c =
    let last : Tablet = ended None c.self.inside.last in
    let lower : List Tablet = c.self.inside.lower.items in
    let ge : length lower ≤ c.args.place = search rules in
    let lt : c.args.place < length (lower ++ last ∷ []) = subst (λ (ts : List Tablet). c.args.place < length ts) (sym c.self.view_is) c.requires.inside in
    let trip : to_z w64 (of_z w64 c.args.clock) ≡ c.args.clock = search rules in
    let us : List Record = mutation_records c.args.seq c.args.clock c.args.mutation.now in
    on_ok_weaker c.write-2.result
    (λ e. ap (λ (t : Tablet). lower ++ ended None t ∷ []) (e ∙ (λ i. written (mutation_records c.args.seq (trip i) c.args.mutation.now) c.self.inside.last))
    ∙ at_last (written us) lower last c.args.place ge lt
    ∙ ap (at_place c.args.place (one (written us))) c.self.view_is)
    c.write-2.ensures.ok

pub invariant_of-self : goal.invariant_of-self
invariant_of-self c = prefixes_put c.self.inside.prefixes.items c.self.inside.lower.items c.args.place c.index_mut.result.now c.write.new.self c.index_mut.ensures.value
    (either_end c.write.result c.index_mut.result.now c.write.new.self _ c.write.ensures.ok c.write.ensures.err) c.self.invariant
