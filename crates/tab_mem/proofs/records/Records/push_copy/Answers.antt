use Rattle.std.proofs.Common.{◌≡◌, ◌∙◌, ap, sym, subst, ◌++◌, ◌∷◌, [], length, rules}
use Rattle.std.specs.Prelude.{true, int_le}
use Rattle.std.proofs.lemmas.List.{length-map}
use Rattle.tab_key.specs.Encoding.{record_at, records_at}
use Rattle.tab_key.proofs.Placed.{pushed_records}
use Rattle.tab_iter.specs.Lists.{latest}
use Rattle.tab_mem.specs.RowIndex.{IsRowIndex}
use Rattle.tab_mem.proofs.Placing.{indexed_more}
use Rattle.tab_mem.proofs.records.Records.push_copy.Goals as goal

pub invariant_of-self-in-Ok : goal.invariant_of-self-in-Ok
invariant_of-self-in-Ok c =
    let fits : int_le c.args.source.now.key.timestamp latest ≡ true = search rules in
    let rs = records_at c.self.inside.body.items c.self.inside.places.items in
    let count : length rs ≡ c.len.result = length-map c.self.inside.places.items (record_at c.self.inside.body.items) ∙ (let same : length c.self.inside.places.items ≡ c.len.result = search rules in same) in
    let before : IsRowIndex c.make_room.new.self.numbers.items rs = subst (λ ns. IsRowIndex ns rs) (sym c.make_room.ensures.same) c.self.invariant.row_index in
    indexed_more _ _ _ _ _ _ c.in-Ok.place c.args.source.now c.in-Ok.ensures.place (c.push_reserved.ensures.items ∙ ap (λ xs. xs ++ c.in-Ok.place ∷ []) c.in_ok-reserve.ensures.items) c.append_copy.ensures.front c.self.invariant c.in-Ok.ensures.within c.in-Ok.ensures.copy fits
    (c.put.ensures rs count before)

pub returns-in-Ok-clause-ok : goal.returns-in-Ok-clause-ok
returns-in-Ok-clause-ok c =
    let places : c.push_reserved.new.self.items ≡ c.self.inside.places.items ++ c.in-Ok.place ∷ [] = c.push_reserved.ensures.items ∙ ap (λ xs. xs ++ c.in-Ok.place ∷ []) c.in_ok-reserve.ensures.items in
    pushed_records _ _ _ _ c.in-Ok.place _ places c.append_copy.ensures.front c.self.invariant.packed.at c.in-Ok.ensures.copy ∙ ap (λ rs. rs ++ c.args.source.now ∷ []) c.self.view_is
