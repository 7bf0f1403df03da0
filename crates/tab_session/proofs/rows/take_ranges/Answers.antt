use Rattle.std.proofs.Common.{rules, ◌≡◌, [], ◌<◌, ◌∙◌, arith, map, length, get_or, set, sym, ap, subst}
use Rattle.tab_key.specs.Records.{cell_of}
use Rattle.tab_key.specs.declared.range.Bounds.{Bounds}
use Rattle.tab_cells.specs.SessionState.{cells_within}
use Rattle.tab_session.proofs.Placing.{IsPlaced, IsAnswered, are_placed, put_more, all_answered}
use Rattle.tab_session.proofs.rows.take_ranges.Goals as goal

pub put-requires : goal.put-requires
put-requires g c =
    let ranges = c.args.ranges.now in
    let order = c.in_ok-order.order.items in
    let n = c.loop-placed.placed-index in
    let item = c.placed-item.result in
    let inside : n < length order = search rules in
    let found : item ≡ get_or order n item = c.placed-item.is ∙ ap (λ items. get_or items n item) c.as_slice-placed-items.ensures.value in
    let here : IsPlaced ranges item = subst (IsPlaced ranges) (sym found) (are_placed ranges order c.in_ok-order.ensures.all n item inside) in
    let place : c.place.result ≡ item.0 = search rules in
    omega (arith, place, here.0, c.loop-placed.invariant.long)

pub loop-placed-preserved : goal.loop-placed-preserved
loop-placed-preserved g c =
    let ranges = c.args.ranges.now in
    let order = c.in_ok-order.order.items in
    let n = c.loop-placed.placed-index in
    let item = c.placed-item.result in
    let f = λ (rows : Bounds). cells_within rows (map cell_of (g.S.Source.whole c.args.source.now)) in
    let inside : n < length order = search rules in
    let items : c.as_slice-placed-items.result.now ≡ order = c.as_slice-placed-items.ensures.value in
    let found : item ≡ get_or order n item = c.placed-item.is ∙ ap (λ xs. get_or xs n item) items in
    let place : c.place.result ≡ item.0 = search rules in
    let cells : c.in_ok-cells.cells ≡ f item.1 = search rules in
    let written : c.put.new.answers.items ≡ set c.loop-placed.answers.items item.0 (f item.1) = search rules in
    record {
      answered = λ k d below. subst (λ xs. IsAnswered f [] c.put.new.answers.items (get_or xs k d)) (sym items) (subst (λ ys. IsAnswered f [] ys (get_or order k d)) (sym written) (put_more f [] ranges c.loop-placed.answers.items order n item c.loop-placed.invariant.long (are_placed ranges order c.in_ok-order.ensures.all) inside found (λ j e lt. subst (λ xs. IsAnswered f [] c.loop-placed.answers.items (get_or xs j e)) items (c.loop-placed.invariant.answered j e lt)) k d below));
      long = search rules;
      whole = search rules;
    }

pub returns : goal.returns
returns g c =
    let f = λ (rows : Bounds). cells_within rows (map cell_of (g.S.Source.whole c.args.source.now)) in
    let order = c.in_ok-order.order.items in
    let items : c.as_slice-placed-items.result.now ≡ order = c.as_slice-placed-items.ensures.value in
    let end : c.loop-placed.placed-index ≡ length order = search rules in
    all_answered f [] c.args.ranges.now c.loop-placed.answers.items order c.loop-placed.invariant.long c.in_ok-order.ensures.all (λ k d below. subst (λ xs. IsAnswered f [] c.loop-placed.answers.items (get_or xs k d)) items (c.loop-placed.invariant.answered k d (subst (λ m. k < m) (sym end) below)))
