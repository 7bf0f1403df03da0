use Rattle.std.proofs.Common.{◌-◌}
use Rattle.tab_mem.specs.Groups.{IsRowSpan}
use Rattle.tab_mem.proofs.sorting.grouping.span_of_row.Given as goal

abbrev pub invariant-loop-count : goal.invariant-loop-count
invariant-loop-count l = IsRowSpan l.body l.place l.left l.end l.count

abbrev pub decreases-loop-count : goal.decreases-loop-count
decreases-loop-count l = l.left - l.count
