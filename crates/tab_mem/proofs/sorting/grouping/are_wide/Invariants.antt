use Rattle.std.proofs.Common.{◌≤◌}
use Rattle.tab_key.specs.Encoding.{places_from, AreAt}
use Rattle.tab_mem.proofs.sorting.grouping.are_wide.Given as goal

abbrev pub invariant-loop-left : goal.invariant-loop-left
invariant-loop-left l = record {
  at : AreAt l.body (places_from l.body l.place l.left);
  few : l.rows ≤ 16;
  less : l.left ≤ l.count;
}

abbrev pub decreases-loop-left : goal.decreases-loop-left
decreases-loop-left l = l.left
