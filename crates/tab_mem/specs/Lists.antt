-- For proofs. Lists of records, as an active part and a run hold them.
use Rattle.std.specs.Prelude.{ℕ, ◌≡◌, ◌≤◌, ◌*◌, List, length, take, drop, true, int_le}
use Rattle.tab_key.specs.Encoding.{IsAt, IsShort, AreAt, span_at, record_at, records_at, places_from, end_from}
use Rattle.tab_key.specs.Records.{Record}
use Rattle.tab_key.specs.RowPrefix.{IsRowPrefix}
use Rattle.tab_key.specs.Sorted.{IsIn}
use Rattle.tab_iter.specs.Lists.{IsRising, latest, HasI64Timestamps}
use Rattle.tab_mem.specs.RowIndex.{IsRowIndex}

-- the records from one index up to another, that one excluded
abbrev pub part : ℕ → ℕ → List Record → List Record
part from end rs = drop from (take end rs)

-- none of a record's five byte strings is longer than a mutation may have it
abbrev pub HasShortParts : List Record → Type 0
HasShortParts rs = (u : Record) → IsIn rs u → IsShort u

-- the body holds so many records, one after another, and nothing else
pub record IsFilled (body : List ℕ) (count : ℕ) : Type 0 where
  pub at : AreAt body (places_from body 0 count)
  pub ends : end_from body 0 count ≡ length body

-- the bytes are those of a record with a timestamp of 64 bits and no others, and the number is its row's prefix
pub record IsOwn (prefix : ℕ) (bytes : List ℕ) : Type 0 where
  pub at : IsAt bytes 0
  pub ends : (span_at bytes 0).end ≡ length bytes
  pub row : IsRowPrefix prefix (record_at bytes 0).key.row
  pub timestamp : int_le (record_at bytes 0).key.timestamp latest ≡ true

-- each record lies in the body, and has a timestamp of 64 bits
pub record ArePacked (body places : List ℕ) : Type 0 where
  pub at : AreAt body places
  pub timestamps : HasI64Timestamps (records_at body places)

-- and takes at least 41 bytes of it; and the numbers are their sparse index
pub record IsIndexed (body places numbers : List ℕ) : Type 0 where
  pub packed : ArePacked body places
  pub room : 41 * length places ≤ length body
  pub row_index : IsRowIndex numbers (records_at body places)

-- what holds of the records of a run
pub record IsRun (xs : List Record) : Type 0 where
  pub rising : IsRising xs
  pub timestamps : HasI64Timestamps xs
