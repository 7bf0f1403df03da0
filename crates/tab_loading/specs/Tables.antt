-- For proofs. The tables that an image says, as a core holds them, and the numbers of their tablets.
use Rattle.std.specs.Prelude.{ℕ, ◌+◌, List, [], ◌∷◌, length, min}
use Rattle.tab_iter.specs.Lists.{IsRising}
use Rattle.tab_store.specs.Restored.{EndRowsRise}
use Rattle.tab_store.specs.Stores.{TableContents}
use Rattle.tab_store.specs.Tables.{TableState, named_table, restored_table}
use Rattle.tab_image.specs.declared.table.ImageTable.{ImageTable}

-- its end rows rise, and its records
pub record IsOrdered (t : ImageTable) : Type 0 where
  pub ends : EndRowsRise t.head.ends
  pub records : IsRising t.records

-- ---- numbers
-- a table, and the number of its first tablet
pub record NumberedTable : Type 0 where
  pub number : ℕ
  pub table : ImageTable

-- the number behind those of a table's tablets, of which there is one more than end rows; the greatest one of eight bytes stays
abbrev pub number_behind : ℕ → ImageTable → ℕ
number_behind number t = min (number + (length t.head.ends + 1)) 18446744073709551615

-- tables whose tablets are numbered from this number on, table after table
abbrev pub numbered_from : ℕ → List ImageTable → List NumberedTable
numbered_from number [] = []
numbered_from number (t ∷ ts) = record { number = number; table = t } ∷ numbered_from (number_behind number t) ts

-- ---- tables
-- without its name: its settings, and for each end row a tablet, and the last one, with the records of its rows as one sorted table
abbrev pub table_state_of : NumberedTable → TableState
table_state_of t = restored_table t.table.head.time t.table.head.versions t.table.head.constraints t.table.head.horizon t.number t.table.head.ends t.table.records

-- under its name
abbrev pub held_table_of : NumberedTable → TableContents
held_table_of t = named_table (t.table.head.name, table_state_of t)
