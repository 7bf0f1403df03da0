use Rattle.std.proofs.Common.{◌≡◌, ◌∙◌, ◌-◌, ◌*◌, ◌+◌, ◌≤◌, ◌∷◌, suc, sym, ap, subst, arith, length}
use Rattle.std.specs.Prelude.{not}
use Rattle.tab_key.specs.Encoding.{record_at, records_at, places_from, end_from, AreAt, span_at}
use Rattle.tab_key.proofs.Sequence.{many_fit}
use Rattle.tab_mem.specs.Parting.{row_below}
use Rattle.tab_mem.proofs.Filled.{first_at, rest_at, first_of_them}
use Rattle.tab_mem.proofs.Moved.{left_at, left_records, left_end}
use Rattle.tab_mem.proofs.Picking.{picked_one, picked_all}
use Rattle.tab_mem.proofs.partitions.parting.keep_from.Goals as goal

pub end_of-end-requires : goal.end_of-end-requires
end_of-end-requires c =
    let more : c.loop-left.left ≡ suc (c.loop-left.left - 1) = omega (arith, c.loop-left-test.true) in
    first_at c.loop-left.body c.loop-left.place c.loop-left.left (c.loop-left.left - 1) more c.loop-left.invariant.at

pub keep_one-kept-requires-clause-within : goal.keep_one-kept-requires-clause-within
keep_one-kept-requires-clause-within c =
    let more : c.loop-left.left ≡ suc (c.loop-left.left - 1) = omega (arith, c.loop-left-test.true) in
    first_at c.loop-left.body c.loop-left.place c.loop-left.left (c.loop-left.left - 1) more c.loop-left.invariant.at

pub loop-left-preserved : goal.loop-left-preserved
loop-left-preserved c =
    let old = c.loop-left.body in
    let new = c.keep_one-kept.new.body in
    let place = c.loop-left.place in
    let left = c.loop-left.left in
    let end = c.end_of-end.result in
    let inv = c.loop-left.invariant in
    let made = c.keep_one-kept.ensures in
    let more : left ≡ suc (left - 1) = omega (arith, c.loop-left-test.true) in
    let next : end ≡ (span_at old place).end = c.end_of-end.ensures in
    let at : AreAt old (places_from old end (left - 1)) = subst (λ q. AreAt old (places_from old q (left - 1))) (sym next) (rest_at old place left (left - 1) more inv.at) in
    let ends : end_from old end (left - 1) ≡ length old = ap (λ q. end_from old q (left - 1)) next ∙ sym (ap (end_from old place) more) ∙ inv.ends in
    record {
      order = made.order;
      at = left_at old new end made.behind made.length end (left - 1) (omega arith) at;
      ends = left_end old new end made.behind made.length end (left - 1) (omega arith) ∙ ends ∙ sym made.length;
      filled = made.filled;
      records = picked_one (λ u. not (row_below u c.args.bound.now)) _ _ (records_at old (places_from old place left)) (records_at new (places_from new end (left - 1))) _ (record_at old place) made.records
          (first_of_them old place left (left - 1) more ∙ ap (λ q. record_at old place ∷ records_at old (places_from old q (left - 1))) (sym next) ∙ ap (λ l. record_at old place ∷ l) (sym (left_records old new end made.behind made.length end (left - 1) (omega arith)))) inv.records;
    }

pub returns-clause-within : goal.returns-clause-within
returns-clause-within c =
    let inv = c.loop-left.invariant in
    let fit : c.loop-left.place + 41 * c.loop-left.left ≤ length c.loop-left.body = subst (λ n. c.loop-left.place + 41 * c.loop-left.left ≤ n) inv.ends (many_fit c.loop-left.body c.loop-left.place c.loop-left.left) in
    omega (arith, inv.order, fit)

pub returns-clause-records : goal.returns-clause-records
returns-clause-records c =
    let body = c.loop-left.body in
    let none : c.loop-left.left ≡ 0 = omega (arith, c.loop-left-test.false) in
    picked_all (λ u. not (row_below u c.args.bound.now)) _ (records_at body (places_from body c.loop-left.place c.loop-left.left)) _ (ap (λ n. records_at body (places_from body c.loop-left.place n)) none) c.loop-left.invariant.records
