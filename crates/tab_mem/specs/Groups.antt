-- For proofs. Records that lie together and have one row.
use Rattle.std.specs.Prelude.{ℕ, zero, suc, ◌≡◌, ◌≢◌, ◌-◌, ◌<◌, ◌≤◌, List, [], ◌∷◌, ◌++◌, Bool, length, true, cond, ltb, int_le}
use Rattle.std.specs.List.{AllByRecursion, slice_range, slice_index_or}
use Rattle.std.specs.Ordering.{is_lt}
use Rattle.std.specs.declared.cmp.Ordering.{Ordering}
use Rattle.tab_key.specs.Bytes.{bytes_cmp}
use Rattle.tab_key.specs.Encoding.{span_at, record_at, records_at, places_from, IsAt, AreAt}
use Rattle.tab_key.specs.Order.{record_cmp}
use Rattle.tab_key.specs.Records.{Key, Record}
use Rattle.tab_key.specs.RowPrefix.{IsRowPrefix}
use Rattle.tab_iter.specs.Lists.{latest}
use Rattle.tab_mem.specs.Lists.{IsFilled}
use Rattle.tab_mem.specs.Parting.{records_in}

-- ---- bytes that records fill
-- how many records lie in the bytes from a place on, one after another, but no more than some number
unfoldable pub count_from : List ℕ → ℕ → ℕ → ℕ
count_from bytes p zero = 0
count_from bytes p (suc most) = cond (ltb p (length bytes)) (suc (count_from bytes (span_at bytes p).end most)) 0

-- .. of which each takes more than a byte
abbrev pub left_from : List ℕ → ℕ → ℕ
left_from bytes p = count_from bytes p (length bytes)

abbrev pub count_in : List ℕ → ℕ
count_in bytes = left_from bytes 0

-- ---- groups
-- the row of the first record
abbrev pub row_of : List Record → List ℕ
row_of [] = []
row_of (u ∷ us) = u.key.row

-- each record has this row
abbrev pub HaveRow : List ℕ → List Record → Type 0
HaveRow row us = AllByRecursion (λ u. u.key.row ≡ row) us

-- each has the row of the first
abbrev pub IsOfOneRow : List Record → Type 0
IsOfOneRow us = HaveRow (row_of us) us

-- .. and the number is its prefix
pub record HasOneRow (prefix : ℕ) (us : List Record) : Type 0 where
  pub row : List ℕ
  pub own : IsRowPrefix prefix row
  pub same : HaveRow row us

-- the bytes hold so many records, one or more, and nothing else, the first one has a timestamp of 64 bits, and the number is its row's prefix
pub record IsGroup (prefix : ℕ) (bytes : List ℕ) (count : ℕ) : Type 0 where
  pub filled : IsFilled bytes count
  pub some : 0 < count
  pub row : IsRowPrefix prefix (record_at bytes 0).key.row
  pub timestamp : int_le (record_at bytes 0).key.timestamp latest ≡ true

-- of so many records from a place on, the first ones, up to another place, have the row of the first
pub record IsRowSpan (body : List ℕ) (place left end count : ℕ) : Type 0 where
  pub some : 0 < count
  pub few : count ≤ left
  pub order : place ≤ end
  pub inside : end ≤ length body
  pub filled : IsFilled (slice_range body place end) count
  pub same : HaveRow (record_at body place).key.row (records_in (slice_range body place end) count)
  pub rest : AreAt body (places_from body end (left - count))
  pub whole : records_in (slice_range body place end) count ++ records_at body (places_from body end (left - count)) ≡ records_at body (places_from body place left)

-- ---- groups by their rows
-- the row of a group stands before that of another one
abbrev pub row_before : List Record → List Record → Bool
row_before us vs = is_lt (bytes_cmp (row_of us) (row_of vs))

-- the row of the group at an index
abbrev pub row_at : List (List Record) → ℕ → List ℕ
row_at ws k = row_of (slice_index_or ws k [])

-- the groups from one index up to another have one row, and the next one another
pub record IsClass (ws : List (List Record)) (at end : ℕ) : Type 0 where
  pub some : at < end
  pub inside : end ≤ length ws
  pub same : (k : ℕ) → k < end → at ≤ k → row_at ws k ≡ row_at ws at
  pub next : end < length ws → row_at ws end ≢ row_at ws at

-- ---- records of one row
-- the key without its row
abbrev pub rowless : Key → Key
rowless k = record { row = []; family = k.family; qualifier = k.qualifier; label = k.label; timestamp = k.timestamp }

-- the record without its row
abbrev pub without_row : Record → Record
without_row u = record { key = rowless u.key; kind = u.kind; value = u.value; seq = u.seq; idx = u.idx }

-- the order of records but for their rows
unfoldable pub behind_row_cmp : Record → Record → Ordering
behind_row_cmp u v = record_cmp (without_row u) (without_row v)

-- the bytes are those of a record with a timestamp of 64 bits and no others, and the numbers are the prefix of its family and qualifier
-- in one piece and the length of its family
pub record IsColumn (prefix family : ℕ) (bytes : List ℕ) : Type 0 where
  pub at : IsAt bytes 0
  pub ends : (span_at bytes 0).end ≡ length bytes
  pub names : IsRowPrefix prefix ((record_at bytes 0).key.family ++ (record_at bytes 0).key.qualifier)
  pub size : family ≡ length (record_at bytes 0).key.family
  pub timestamp : int_le (record_at bytes 0).key.timestamp latest ≡ true
