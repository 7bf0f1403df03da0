-- For proofs. A part of a key, by its name.
use Rattle.std.specs.Prelude.{ℕ, ◌≡◌, ◌&&◌, ◌==◌, List, Bool, bytes_eq, get_or, slice_index_or}
use Rattle.std.specs.Ordering.{int_eq}
use Rattle.tab_key.specs.Order.{kind_rank}
use Rattle.tab_key.specs.Records.{Key, Record}
use Rattle.tab_table.specs.Blocks.{place_behind, block_records}
use Rattle.tab_table.specs.declared.part_bytes.KeyPart.{KeyPart}
use Rattle.tab_table.specs.declared.part_bytes.KeyPart.TheVariants.{Row, Family, Qualifier, Label}

abbrev pub part_of : KeyPart → Key → List ℕ
part_of Row k = k.row
part_of Family k = k.family
part_of Qualifier k = k.qualifier
part_of Label k = k.label

-- how far behind an entry's beginning the number of its shared bytes stands
abbrev pub offset_of : KeyPart → ℕ
offset_of Row = 0
offset_of Family = 4
offset_of Qualifier = 8
offset_of Label = 12

-- where the entry of the record with an index begins, and a byte of a part of it
pub record IsFound (body : List ℕ) (count byte place index : ℕ) (part : KeyPart) (at : ℕ) : Type 0 where
  pub here : place ≡ place_behind body 0 index
  pub read : (u : Record) → byte ≡ get_or (part_of part (slice_index_or (block_records body count) index u).key) at 0

-- where the entry of the record with an index begins, and the record's row
pub record IsRowFound (body : List ℕ) (count : ℕ) (row : List ℕ) (place index : ℕ) : Type 0 where
  pub here : place ≡ place_behind body 0 index
  pub read : (u : Record) → row ≡ (slice_index_or (block_records body count) index u).key.row

-- all but the four parts are the record's
pub record IsRestOf (rest r : Record) : Type 0 where
  pub timestamp : rest.key.timestamp ≡ r.key.timestamp
  pub kind : rest.kind ≡ r.kind
  pub value : rest.value ≡ r.value
  pub seq : rest.seq ≡ r.seq
  pub idx : rest.idx ≡ r.idx

-- records of the same column, or of different ones, that are the same in all else
abbrev pub same_but_column : Bool → Record → Record → Bool
same_but_column columns a b = columns && int_eq a.key.timestamp b.key.timestamp && kind_rank a.kind == kind_rank b.kind && bytes_eq a.value b.value && a.seq == b.seq && a.idx == b.idx
