-- The blocks and their indexes have one record more.
use Rattle.std.proofs.Common.{◌≡◌, ◌∙◌, ◌+◌, List, ℕ, ◌++◌, ◌∷◌, [], ap, subst, sym, arith, rules}
use Rattle.tab_key.specs.Encoding.{record_at}
use Rattle.tab_key.specs.Records.{Record}
use Rattle.tab_mem.specs.RowIndex.{IsRowIndex}
use Rattle.tab_table.specs.Blocks.{no_key, block_records, last_key}
use Rattle.tab_table.specs.Restarts.{AreRestarts}
use Rattle.tab_table.proofs.Indexes.{few_records}
use Rattle.tab_table.proofs.Laid.{still_listed, length_listed}
use Rattle.tab_table.proofs.Noted.{still_restarts}
use Rattle.tab_table.proofs.blocks.Blocks.push.Goals as goal

pub put-requires-clause-more : goal.put-requires-clause-more
put-requires-clause-more c =
    let old = c.args.self.now in
    let new = c.put_next.new.body.items in
    let r = c.at-record.result in
    let same : c.deref.result.now ≡ new = search rules in
    subst (λ (xs : List ℕ). block_records xs (old.count + 1) ≡ block_records xs old.count ++ r ∷ []) (sym same)
    (c.in_ok-put_next.ensures.records ∙ ap (λ rs. rs ++ record_at c.args.next.now 0 ∷ []) (sym (still_listed old.body.items new c.put_next.ensures.front 0 no_key 0 old.count c.requires.indexed.blocks.laid)) ∙ ap (λ (u : Record). block_records new old.count ++ u ∷ []) (sym c.at-record.ensures))

pub put-requires-clause-restarts : goal.put-requires-clause-restarts
put-requires-clause-restarts c =
    let old = c.args.self.now in
    let new = c.put_next.new.body.items in
    let same : c.deref.result.now ≡ new = search rules in
    subst (λ (xs : List ℕ). AreRestarts old.restarts.each.items xs old.restarts.shares.items old.count) (sym same)
    (still_restarts old.body.items new c.put_next.ensures.front old.count c.requires.indexed.blocks.laid old.restarts.each.items old.restarts.shares.items c.requires.indexed.restarts)

pub overflow_add-self : goal.overflow_add-self
overflow_add-self c =
    let old = c.args.self.now in
    omega (arith, few_records old.body.items old.count (last_key old.count c.args.last.now) c.requires.indexed.blocks, c.len-place.ensures)

pub returns-clause-indexed : goal.returns-clause-indexed
returns-clause-indexed c =
    let old = c.args.self.now in
    let new = c.put_next.new.body.items in
    let r = c.at-record.result in
    let same : c.deref.result.now ≡ new = search rules in
    let rs = block_records old.body.items old.count in
    let before : IsRowIndex c.make_room.new.self.numbers.items rs = subst (λ (ns : List ℕ). IsRowIndex ns rs) (sym c.make_room.ensures.same) c.requires.indexed.row_index in
    record {
      blocks = c.in_ok-put_next.ensures.blocks;
      restarts = subst (λ (xs : List ℕ). AreRestarts c.put.new.self.each.items xs c.put.new.self.shares.items (old.count + 1)) same c.in_ok-put.ensures;
      row_index = subst (IsRowIndex c.put-2.new.self.numbers.items) (sym (c.in_ok-put_next.ensures.records ∙ ap (λ (u : Record). rs ++ u ∷ []) (sym c.at-record.ensures))) (c.put-2.ensures rs (length_listed old.body.items 0 no_key 0 old.count) before);
    }
