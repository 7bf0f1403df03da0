use Rattle.std.proofs.Common.{◌∙◌, ◌<◌, ◌≤◌, ℕ, List, [], ◌∷◌, ◌++◌, None, Some, length, sym, ap, subst, arith}
use Rattle.std.specs.List.{insert}
use Rattle.std.proofs.lemmas.List.{length-append}
use Rattle.std.proofs.lemmas.List.Edits.{insert-append_left}
use Rattle.tab_key.specs.RowPrefix.{IsRowPrefix}
use Rattle.tab_tablet.specs.Tablets.{Tablet}
use Rattle.tab_tablets.specs.EndPrefixes.{IsEndPrefix, ArePrefixes}
use Rattle.tab_tablets.specs.Places.{ended}
use Rattle.tab_tablets.proofs.EndPrefixes.{same_count, prefixes_insert}
use Rattle.tab_tablets.proofs.tablet_list.TabletList.insert.Goals as goal

pub returns-clause-ok : goal.returns-clause-ok
returns-clause-ok c =
    let last : Tablet = ended None c.self.inside.last in
    let lower : List Tablet = c.self.inside.lower.items in
    let lt : c.args.place < length (lower ++ last ∷ []) = subst (λ (ts : List Tablet). c.args.place < length ts) (sym c.self.view_is) c.requires in
    let le : c.args.place ≤ length lower = omega (arith, lt, length-append lower (last ∷ [])) in
    ap (λ (l : List Tablet). l ++ last ∷ []) c.in_ok-insert.ensures.items
    ∙ sym (insert-append_left lower (last ∷ []) c.args.place c.args.lower le)
    ∙ ap (λ (ts : List Tablet). insert ts c.args.place c.args.lower) c.self.view_is

pub insert_reserved-requires-clause-place : goal.insert_reserved-requires-clause-place
insert_reserved-requires-clause-place c =
    let last : Tablet = ended None c.self.inside.last in
    let lower : List Tablet = c.self.inside.lower.items in
    let lt : c.args.place < length (lower ++ last ∷ []) = subst (λ (ts : List Tablet). c.args.place < length ts) (sym c.self.view_is) c.requires in
    omega (arith, lt, length-append lower (last ∷ []), same_count c.self.inside.prefixes.items lower c.self.invariant, ap length c.reserve.ensures.items)

pub invariant_of-self-2 : goal.invariant_of-self-2
invariant_of-self-2 c =
    let last : Tablet = ended None c.self.inside.last in
    let lower : List Tablet = c.self.inside.lower.items in
    let prefixes : List ℕ = c.self.inside.prefixes.items in
    let lt : c.args.place < length (lower ++ last ∷ []) = subst (λ (ts : List Tablet). c.args.place < length ts) (sym c.self.view_is) c.requires in
    let le : c.args.place ≤ length lower = omega (arith, lt, length-append lower (last ∷ [])) in
    let own : IsRowPrefix c.row_prefix-prefix.result c.end.result.now = subst (IsRowPrefix c.row_prefix-prefix.result) c.as_bytes.ensures c.row_prefix-prefix.ensures in
    subst (λ (ns : List ℕ). ArePrefixes ns c.insert.new.self.items) (sym (c.insert_reserved.ensures ∙ ap (λ (ns : List ℕ). insert ns c.args.place c.row_prefix-prefix.result) c.reserve.ensures.items))
    (subst (λ (ts : List Tablet). ArePrefixes (insert prefixes c.args.place c.row_prefix-prefix.result) ts) (sym c.in_ok-insert.ensures.items)
    (prefixes_insert prefixes lower c.args.place c.row_prefix-prefix.result c.args.lower le c.self.invariant (subst (IsEndPrefix c.row_prefix-prefix.result) (sym c.end.ensures) own)))
