use Rattle.std.proofs.Common.{rules, ◌≡◌, ◌∙◌, ◌-◌, ◌∷◌, [], ◌++◌, sym, ap, subst, arith, slice_range}
use Rattle.tab_key.specs.Encoding.{record_at, records_at, places_from}
use Rattle.tab_mem.specs.Groups.{IsOfOneRow, IsRowSpan}
use Rattle.tab_mem.specs.Parting.{records_in}
use Rattle.tab_mem.proofs.Columned.{one_row}
use Rattle.tab_mem.proofs.Spanned.{grouped_one, grouped_all, rows_more}
use Rattle.tab_mem.proofs.sorting.grouping.groups_in.Goals as goal

pub loop-left-preserved : goal.loop-left-preserved
loop-left-preserved c =
    let body = c.args.body.now in
    let place = c.loop-left.place in
    let left = c.loop-left.left in
    let groups = c.loop-left.groups.items in
    let inv = c.loop-left.invariant in
    let end = c.span_of_row-span.result.end in
    let count = c.span_of_row-span.result.count in
    let span : IsRowSpan body place left end count = c.span_of_row-span.ensures in
    let g = c.group_at.result in
    let is : g ≡ records_in (slice_range body place end) count = c.group_at.ensures in
    let pushed : c.push.new.self.items ≡ groups ++ g ∷ [] = search rules in
    record {
      lent = grouped_one groups c.push.new.self.items g (records_at body (places_from body end (left - count))) (records_at body (places_from body place left)) (records_in body c.args.count) pushed
          (ap (λ l. l ++ records_at body (places_from body end (left - count))) is ∙ span.whole) inv.lent;
      rows = rows_more groups c.push.new.self.items g pushed (subst IsOfOneRow (sym is) (one_row (record_at body place).key.row (records_in (slice_range body place end) count) span.same)) inv.rows;
      at = span.rest;
    }

pub returns-clause-records : goal.returns-clause-records
returns-clause-records c =
    let body = c.args.body.now in
    let none : c.loop-left.left ≡ 0 = omega (arith, c.loop-left-test.false) in
    grouped_all c.loop-left.groups.items (records_at body (places_from body c.loop-left.place c.loop-left.left)) (records_in body c.args.count) (ap (λ n. records_at body (places_from body c.loop-left.place n)) none) c.loop-left.invariant.lent
