use Rattle.std.proofs.Common.{rules, ◌≡◌, ◌∙◌, ◌-◌, ◌∷◌, [], ◌++◌, suc, sym, ap, subst, arith}
use Rattle.tab_key.specs.Encoding.{record_at, records_at, places_from, AreAt, span_at}
use Rattle.tab_mem.specs.Parting.{row_below, before}
use Rattle.tab_mem.proofs.Filled.{first_at, rest_at, first_of_them}
use Rattle.tab_mem.proofs.Picking.{picked_one, picked_all}
use Rattle.tab_mem.proofs.partitions.parting.items_before.Goals as goal

pub end_of-end-requires : goal.end_of-end-requires
end_of-end-requires c =
    let more : c.loop-left.left ≡ suc (c.loop-left.left - 1) = omega (arith, c.loop-left-test.true) in
    first_at c.args.body.now c.loop-left.place c.loop-left.left (c.loop-left.left - 1) more c.loop-left.invariant.at

pub item_at-requires-clause-within : goal.item_at-requires-clause-within
item_at-requires-clause-within c =
    let more : c.loop-left.left ≡ suc (c.loop-left.left - 1) = omega (arith, c.loop-left-test.true) in
    first_at c.args.body.now c.loop-left.place c.loop-left.left (c.loop-left.left - 1) more c.loop-left.invariant.at

pub loop-left-preserved : goal.loop-left-preserved
loop-left-preserved c =
    let body = c.args.body.now in
    let place = c.loop-left.place in
    let left = c.loop-left.left in
    let items = c.loop-left.items.items in
    let more : left ≡ suc (left - 1) = omega (arith, c.loop-left-test.true) in
    let next : c.end_of-end.result ≡ (span_at body place).end = c.end_of-end.ensures in
    let pushed : c.push_before.new.items.items ≡ items ++ before c.args.bound.now (record_at body place ∷ []) = search rules in
    record {
      lent = picked_one (λ u. row_below u c.args.bound.now) items c.push_before.new.items.items (records_at body (places_from body place left)) (records_at body (places_from body c.end_of-end.result (left - 1))) _ (record_at body place) pushed
          (first_of_them body place left (left - 1) more ∙ ap (λ q. record_at body place ∷ records_at body (places_from body q (left - 1))) (sym next)) c.loop-left.invariant.lent;
      at = subst (λ q. AreAt body (places_from body q (left - 1))) (sym next) (rest_at body place left (left - 1) more c.loop-left.invariant.at);
    }

pub returns : goal.returns
returns c =
    let body = c.args.body.now in
    let none : c.loop-left.left ≡ 0 = omega (arith, c.loop-left-test.false) in
    picked_all (λ u. row_below u c.args.bound.now) c.loop-left.items.items (records_at body (places_from body c.loop-left.place c.loop-left.left)) _ (ap (λ n. records_at body (places_from body c.loop-left.place n)) none) c.loop-left.invariant.lent
