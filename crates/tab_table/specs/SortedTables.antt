-- For proofs. What a sorted table lists.
use Rattle.std.specs.Prelude.{List}
use Rattle.tab_key.specs.Records.{Record}
use Rattle.tab_table.specs.Blocks.{block_records}
use Rattle.tab_table.specs.declared.sorted_table.SortedTable.{SortedTable}

-- its records, in their order
abbrev pub records : SortedTable → List Record
records t = block_records t.packed.bytes t.packed.count
