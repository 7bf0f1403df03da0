use Rattle.std.proofs.Common.{◌≡◌, ◌≤◌, ◌-◌, drop}
use Rattle.tab_key.specs.Order.{record_cmp}
use Rattle.tab_image.specs.Conditions.{rises}
use Rattle.tab_image.proofs.sanity.records_rise.Given as goal

abbrev pub invariant-loop-index : goal.invariant-loop-index
invariant-loop-index l = record {
  some : 1 ≤ l.index;
  behind : rises record_cmp (drop (l.index - 1) l.records) ≡ rises record_cmp l.records;
}
