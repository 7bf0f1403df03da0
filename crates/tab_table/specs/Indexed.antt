-- For proofs. Blocks with the indexes of their records.
use Rattle.std.specs.Prelude.{List}
use Rattle.tab_key.specs.Records.{Key, Record}
use Rattle.tab_mem.specs.RowIndex.{IsRowIndex}
use Rattle.tab_table.specs.Blocks.{block_records, AreBlocks}
use Rattle.tab_table.specs.Restarts.{AreRestarts}
use Rattle.tab_table.specs.declared.blocks.Blocks.{Blocks}

-- the records
abbrev pub records_of : Blocks → List Record
records_of b = block_records b.body.items b.count

-- the body holds them and nothing else, the last one has this key, and the indexes are theirs
pub record AreIndexed (b : Blocks) (last : Key) : Type 0 where
  pub blocks : AreBlocks b.body.items b.count last
  pub restarts : AreRestarts b.restarts.each.items b.body.items b.restarts.shares.items b.count
  pub row_index : IsRowIndex b.row_index.numbers.items (records_of b)
