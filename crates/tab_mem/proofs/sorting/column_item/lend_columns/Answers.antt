use Rattle.std.proofs.Common.{rules, ◌≡◌, ◌∙◌, ◌+◌, ◌*◌, ◌≤◌, ◌∷◌, [], ◌++◌, suc, sym, ap, subst, arith, append_assoc, append-nil}
use Rattle.tab_key.specs.Encoding.{record_at, records_at, places_from, end_from, AreAt, span_at}
use Rattle.tab_key.proofs.Sequence.{many_fit}
use Rattle.tab_mem.specs.Groups.{left_from}
use Rattle.tab_mem.proofs.Filled.{first_at, rest_at, first_of_them}
use Rattle.tab_mem.proofs.Spanned.{none_left, some_left, next_ends}
use Rattle.tab_mem.proofs.sorting.column_item.lend_columns.Goals as goal

pub end_of-end-requires : goal.end_of-end-requires
end_of-end-requires c =
    let body = c.args.body.now in
    let place = c.loop-place.place in
    first_at body place (left_from body place) (left_from body (span_at body place).end) (some_left body place c.loop-place.invariant.ends c.loop-place-test.true) c.loop-place.invariant.at

pub column_at-requires-clause-within : goal.column_at-requires-clause-within
column_at-requires-clause-within c =
    let body = c.args.body.now in
    let place = c.loop-place.place in
    first_at body place (left_from body place) (left_from body (span_at body place).end) (some_left body place c.loop-place.invariant.ends c.loop-place-test.true) c.loop-place.invariant.at

pub loop-place-preserved : goal.loop-place-preserved
loop-place-preserved c =
    let body = c.args.body.now in
    let place = c.loop-place.place in
    let items = c.loop-place.items.items in
    let inv = c.loop-place.invariant in
    let low = c.loop-place-test.true in
    let left = left_from body (span_at body place).end in
    let more : left_from body place ≡ suc left = some_left body place inv.ends low in
    let next : c.end_of-end.result ≡ (span_at body place).end = c.end_of-end.ensures in
    let pushed : c.push.new.self.items ≡ items ++ record_at body place ∷ [] = search rules in
    record {
      lent =
          ap (λ q. c.push.new.self.items ++ records_at body (places_from body q (left_from body q))) next
          ∙ ap (λ xs. xs ++ records_at body (places_from body (span_at body place).end left)) pushed
          ∙ append_assoc items (record_at body place ∷ []) (records_at body (places_from body (span_at body place).end left))
          ∙ ap (λ t. items ++ t) (sym (first_of_them body place (left_from body place) left more)) ∙ inv.lent;
      at = subst (λ q. AreAt body (places_from body q (left_from body q))) (sym next) (rest_at body place (left_from body place) left more inv.at);
      ends = ap (λ q. end_from body q (left_from body q)) next ∙ next_ends body place inv.ends low;
    }

pub loop-place-smaller : goal.loop-place-smaller
loop-place-smaller c =
    let fit : c.loop-place.place + 41 * 1 ≤ (span_at c.args.body.now c.loop-place.place).end = many_fit c.args.body.now c.loop-place.place 1 in
    omega (arith, fit, c.end_of-end.ensures, c.loop-place-test.true)

pub returns : goal.returns
returns c =
    let body = c.args.body.now in
    let items = c.loop-place.items.items in
    let none : left_from body c.loop-place.place ≡ 0 = none_left body c.loop-place.place c.loop-place.invariant.ends c.loop-place-test.false in
    sym (ap (λ n. items ++ records_at body (places_from body c.loop-place.place n)) none ∙ append-nil items) ∙ c.loop-place.invariant.lent
