use Rattle.std.proofs.Common.{◌≡◌, ◌≤◌, ◌++◌, length, map, reverse, take}
use Rattle.tab_key.specs.Encoding.{records_at, places_from}
use Rattle.tab_cells.specs.Written.{timed, records_of}
use Rattle.tab_iter.specs.Lists.{HasI64Timestamps}
use Rattle.tab_mem.specs.Lists.{IsFilled}
use Rattle.tab_mem.proofs.partitions.appending.append_all.Given as goal

abbrev pub invariant-loop-index : goal.invariant-loop-index
invariant-loop-index l = record {
  left : l.index ≤ length l.mutation.updates;
  bytes : take (length l.initial.body.items) l.body.items ≡ l.initial.body.items;
  filled : IsFilled l.body.items l.count;
  timestamps : HasI64Timestamps (records_of l.seq l.mutation.row (reverse (map (timed l.clock) (take l.index l.mutation.updates)))) → HasI64Timestamps (records_of l.seq l.mutation.row (reverse (map (timed l.clock) l.mutation.updates)));
  records : records_at l.body.items (places_from l.body.items 0 l.count) ++ records_of l.seq l.mutation.row (reverse (map (timed l.clock) (take l.index l.mutation.updates))) ≡ records_at l.initial.body.items (places_from l.initial.body.items 0 l.fn.count) ++ records_of l.seq l.mutation.row (reverse (map (timed l.clock) l.mutation.updates));
}

abbrev pub decreases-loop-index : goal.decreases-loop-index
decreases-loop-index l = l.index
