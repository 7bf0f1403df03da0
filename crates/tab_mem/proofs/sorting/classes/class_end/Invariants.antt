use Rattle.std.proofs.Common.{◌≡◌, ◌<◌, ◌≤◌, ◌-◌, ℕ, length}
use Rattle.tab_mem.specs.Groups.{row_at}
use Rattle.tab_mem.proofs.sorting.classes.class_end.Given as goal

abbrev pub invariant-loop-end : goal.invariant-loop-end
invariant-loop-end l = record {
  some : l.at < l.end;
  inside : l.end ≤ length l.groups;
  same : (k : ℕ) → k < l.end → l.at ≤ k → row_at l.groups k ≡ row_at l.groups l.at;
}

abbrev pub decreases-loop-end : goal.decreases-loop-end
decreases-loop-end l = length l.groups - l.end
