use Rattle.std.proofs.Common.{◌≡◌, take, map}
use Rattle.std.specs.Prelude.{min, sum}
use Rattle.tab_tablet.proofs.counting.total_size.Given as goal

abbrev pub invariant-loop-table : goal.invariant-loop-table
invariant-loop-table l = l.size ≡ min (sum (map (λ t. t.size) (take l.table-index l.tables))) 18446744073709551615
