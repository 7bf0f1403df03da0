use Rattle.std.proofs.Common.{◌≡◌, ◌++◌, ◌-◌, length}
use Rattle.tab_key.specs.Encoding.{records_at, places_from, end_from, AreAt}
use Rattle.tab_mem.specs.Groups.{left_from, count_in}
use Rattle.tab_mem.specs.Parting.{records_in}
use Rattle.tab_mem.proofs.sorting.column_item.lend_columns.Given as goal

abbrev pub invariant-loop-place : goal.invariant-loop-place
invariant-loop-place l = record {
  lent : l.items.items ++ records_at l.body (places_from l.body l.place (left_from l.body l.place)) ≡ l.initial.items.items ++ records_in l.body (count_in l.body);
  at : AreAt l.body (places_from l.body l.place (left_from l.body l.place));
  ends : end_from l.body l.place (left_from l.body l.place) ≡ length l.body;
}

abbrev pub decreases-loop-place : goal.decreases-loop-place
decreases-loop-place l = length l.body - l.place
