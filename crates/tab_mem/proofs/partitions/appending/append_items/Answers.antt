use Rattle.std.proofs.Common.{rules, ◌≡◌, ◌<◌, ◌^◌, ◌*◌, ◌≤◌, length, ◌+◌, ◌∷◌, [], ◌++◌, ◌∙◌, ap, sym, subst, take, arith, append_assoc}
use Rattle.tab_key.specs.Encoding.{records_at, places_from}
use Rattle.tab_key.proofs.Placed.{pushed_at, pushed_records}
use Rattle.tab_key.proofs.Sequence.{grown_places, grown_end, many_fit}
use Rattle.std.proofs.lemmas.List.{take_more}
use Rattle.tab_mem.proofs.KeptFront.{same_front}
use Rattle.tab_mem.proofs.partitions.appending.append_items.Goals as goal

pub overflow_add-count : goal.overflow_add-count
overflow_add-count c =
    let old = c.loop-item.body.items in
    let all : 0 + 41 * c.loop-item.count ≤ length old = subst (λ n. 0 + 41 * c.loop-item.count ≤ n) c.loop-item.invariant.filled.ends (many_fit old 0 c.loop-item.count) in
    let low : c.in_ok-append_to.field-0 < 2 ^ 64 = search rules in
    omega (arith, all, low, c.in_ok-append_to.ensures.place)

pub loop-item-preserved : goal.loop-item-preserved
loop-item-preserved c =
    let inv = c.loop-item.invariant in
    let old = c.loop-item.body.items in
    let new = c.append_to.new.body.items in
    let count = c.loop-item.count in
    let index = c.loop-item.item-index in
    let before = records_at c.args.body.now.items (places_from c.args.body.now.items 0 c.args.count) in
    let items = c.args.items.now in
    let place = c.in_ok-append_to.field-0 in
    let made = c.in_ok-append_to.ensures in
    let front = c.append_to.ensures.front in
    let r = c.item-item.result in
    let grown : places_from new 0 (count + 1) ≡ places_from old 0 count ++ place ∷ [] = grown_places old new front count place inv.filled.at inv.filled.ends made.place in
    record {
      bytes = same_front c.args.body.now.items old new inv.bytes front;
      filled = record {
        at = pushed_at old new (places_from old 0 count) (places_from new 0 (count + 1)) place grown front inv.filled.at made.within;
        ends = grown_end old new front count place inv.filled.at inv.filled.ends made.place made.end;
      };
      records =
          pushed_records old new (places_from old 0 count) (places_from new 0 (count + 1)) place r grown front inv.filled.at made.copy
          ∙ ap (λ l. l ++ r ∷ []) inv.records
          ∙ append_assoc before (take index items) (r ∷ [])
          ∙ ap (λ l. before ++ l) (sym (take_more items index r c.loop-item-test.true ∙ ap (λ x. take index items ++ x ∷ []) (sym c.item-item.is)));
    }
