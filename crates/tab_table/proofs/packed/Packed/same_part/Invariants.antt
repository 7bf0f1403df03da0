-- The bytes so far are the same.
use Rattle.std.proofs.Common.{◌≡◌, drop}
use Rattle.std.specs.Prelude.{bytes_eq}
use Rattle.std.specs.List.{slice_index_or}
use Rattle.tab_key.specs.Records.{Record}
use Rattle.tab_table.specs.Blocks.{block_records}
use Rattle.tab_table.specs.PartBytes.{part_of}
use Rattle.tab_table.proofs.packed.Packed.same_part.Given as goal

abbrev pub invariant-loop-index : goal.invariant-loop-index
invariant-loop-index l = (u v : Record) →
    bytes_eq (part_of l.part (slice_index_or (block_records l.self.bytes l.self.count) l.mine u).key) (part_of l.part (slice_index_or (block_records l.other.bytes l.other.count) l.others v).key)
    ≡ bytes_eq (drop l.index (part_of l.part (slice_index_or (block_records l.self.bytes l.self.count) l.mine u).key)) (drop l.index (part_of l.part (slice_index_or (block_records l.other.bytes l.other.count) l.others v).key))
