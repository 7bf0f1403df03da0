use Rattle.std.proofs.Common.{◌≡◌, ◌++◌, take}
use Rattle.tab_key.specs.Encoding.{records_at}
use Rattle.tab_mem.proofs.partitions.lending.lend_at.Given as goal

abbrev pub invariant-loop-place : goal.invariant-loop-place
invariant-loop-place l = l.items.items ≡ l.initial.items.items ++ records_at l.body (take l.place-index l.places)
