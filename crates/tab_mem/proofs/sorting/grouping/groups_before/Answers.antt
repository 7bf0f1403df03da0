use Rattle.std.proofs.Common.{◌≡◌, ◌∙◌, ◌-◌, ◌++◌, sym, ap, subst, arith, slice_range}
use Rattle.tab_key.specs.Encoding.{record_at, records_at, places_from}
use Rattle.tab_mem.specs.Groups.{IsOfOneRow, IsRowSpan}
use Rattle.tab_mem.specs.Parting.{records_in, before}
use Rattle.tab_mem.proofs.Bounded.{bounded_one, bounded_all}
use Rattle.tab_mem.proofs.Columned.{one_row}
use Rattle.tab_mem.proofs.sorting.grouping.groups_before.Goals as goal

pub push_before-requires-clause-row : goal.push_before-requires-clause-row
push_before-requires-clause-row c =
    let body = c.args.body.now in
    let place = c.loop-left.place in
    subst IsOfOneRow (sym c.group_at.ensures) (one_row (record_at body place).key.row (records_in (slice_range body place c.span_of_row-span.result.end) c.span_of_row-span.result.count) c.span_of_row-span.ensures.same)

pub loop-left-preserved : goal.loop-left-preserved
loop-left-preserved c =
    let body = c.args.body.now in
    let place = c.loop-left.place in
    let left = c.loop-left.left in
    let end = c.span_of_row-span.result.end in
    let count = c.span_of_row-span.result.count in
    let span : IsRowSpan body place left end count = c.span_of_row-span.ensures in
    let g = c.group_at.result in
    let is : g ≡ records_in (slice_range body place end) count = c.group_at.ensures in
    record {
      lent = bounded_one c.args.bound.now c.loop-left.groups.items c.push_before.new.groups.items g (records_at body (places_from body end (left - count))) (records_at body (places_from body place left)) (before c.args.bound.now (records_in body c.args.count)) c.in_ok-push_before.ensures.records
          (ap (λ l. l ++ records_at body (places_from body end (left - count))) is ∙ span.whole) c.loop-left.invariant.lent;
      rows = c.in_ok-push_before.ensures.rows;
      at = span.rest;
    }

pub returns-clause-records : goal.returns-clause-records
returns-clause-records c =
    let body = c.args.body.now in
    let none : c.loop-left.left ≡ 0 = omega (arith, c.loop-left-test.false) in
    bounded_all c.args.bound.now c.loop-left.groups.items (records_at body (places_from body c.loop-left.place c.loop-left.left)) (before c.args.bound.now (records_in body c.args.count)) (ap (λ n. records_at body (places_from body c.loop-left.place n)) none) c.loop-left.invariant.lent
