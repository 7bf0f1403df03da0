use Rattle.std.proofs.Common.{rules, ◌≡◌, ◌∙◌, ◌-◌, ◌∷◌, [], ◌++◌, suc, sym, ap, subst, arith, append_assoc, append-nil}
use Rattle.tab_key.specs.Encoding.{record_at, records_at, places_from, AreAt, span_at}
use Rattle.tab_mem.proofs.Filled.{first_at, rest_at, first_of_them}
use Rattle.tab_mem.proofs.partitions.lending.lend_in.Goals as goal

pub end_of-end-requires : goal.end_of-end-requires
end_of-end-requires c =
    let more : c.loop-left.left ≡ suc (c.loop-left.left - 1) = omega (arith, c.loop-left-test.true) in
    first_at c.args.body.now c.loop-left.place c.loop-left.left (c.loop-left.left - 1) more c.loop-left.invariant.at

pub item_at-requires-clause-within : goal.item_at-requires-clause-within
item_at-requires-clause-within c =
    let more : c.loop-left.left ≡ suc (c.loop-left.left - 1) = omega (arith, c.loop-left-test.true) in
    first_at c.args.body.now c.loop-left.place c.loop-left.left (c.loop-left.left - 1) more c.loop-left.invariant.at

pub loop-left-preserved : goal.loop-left-preserved
loop-left-preserved c =
    let body = c.args.body.now in
    let place = c.loop-left.place in
    let left = c.loop-left.left in
    let items = c.loop-left.items.items in
    let more : left ≡ suc (left - 1) = omega (arith, c.loop-left-test.true) in
    let next : c.end_of-end.result ≡ (span_at body place).end = c.end_of-end.ensures in
    let pushed : c.push.new.self.items ≡ items ++ record_at body place ∷ [] = search rules in
    record {
      lent =
          ap (λ q. c.push.new.self.items ++ records_at body (places_from body q (left - 1))) next
          ∙ ap (λ xs. xs ++ records_at body (places_from body (span_at body place).end (left - 1))) pushed
          ∙ append_assoc items (record_at body place ∷ []) (records_at body (places_from body (span_at body place).end (left - 1)))
          ∙ ap (λ t. items ++ t) (sym (first_of_them body place left (left - 1) more)) ∙ c.loop-left.invariant.lent;
      at = subst (λ q. AreAt body (places_from body q (left - 1))) (sym next) (rest_at body place left (left - 1) more c.loop-left.invariant.at);
    }

pub returns : goal.returns
returns c =
    let body = c.args.body.now in
    let items = c.loop-left.items.items in
    let none : c.loop-left.left ≡ 0 = omega (arith, c.loop-left-test.false) in
    sym (ap (λ n. items ++ records_at body (places_from body c.loop-left.place n)) none ∙ append-nil items) ∙ c.loop-left.invariant.lent
