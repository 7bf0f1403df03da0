use Rattle.std.proofs.Common.{◌≡◌, take}
use Rattle.std.specs.Prelude.{sum_by}
use Rattle.tab_accumulo.specs.Counting.{capped, left_of_record}
use Rattle.tab_accumulo.proofs.left.left_of_records.Given as goal

abbrev pub invariant-loop-index : goal.invariant-loop-index
invariant-loop-index l = l.left ≡ capped (sum_by left_of_record (take l.index l.records))
