-- For proofs. What is kept of the last entry that was decoded.
use Rattle.std.specs.Prelude.{ℕ, pos, ◌≡◌, ◌≤◌, ◌<◌, ◌+◌, ◌-◌, List, [], ◌∷◌, ◌++◌, length, slice_index_or}
use Rattle.std.specs.Coded.{Coded-set, coded_ℕ, le_prop}
use mathlib.Core.HLevel.{Π_prop}
use Rattle.std.specs.List.{slice_range}
use Rattle.tab_key.specs.Encoding.{length_at, span_at, record_at, records_at, IsAt}
use Rattle.tab_key.specs.Records.{Key, Record}
use Rattle.tab_mem.specs.Lists.{part}
use Rattle.tab_table.specs.Blocks.{entry_at, entry_end, block_records, place_behind, IsAt-prop, IsEntry, IsEntry-prop}
use Rattle.tab_table.specs.Codes.{key_set, record_set, records_set}

-- a key without its timestamp
abbrev pub untimed : Key → Key
untimed k = record k { timestamp = pos 0 }

-- the key of the record at a place, without its timestamp
abbrev pub key_at : List ℕ → ℕ → Key
key_at body p = untimed (record_at body p).key

-- how long the record of the entry at a place is
abbrev pub rebuilt_size : List ℕ → ℕ → ℕ
rebuilt_size blocks p = length_at blocks p + length_at blocks (p + 4) + length_at blocks (p + 8) + length_at blocks (p + 12) + (entry_end blocks p - (p + 16))

-- how many bytes its four parts are
abbrev pub parts_size : List ℕ → ℕ → ℕ
parts_size blocks p = (length_at blocks p + length_at blocks (p + 16)) + (length_at blocks (p + 4) + length_at blocks (p + 16 + 4)) + (length_at blocks (p + 8) + length_at blocks (p + 16 + 8)) + (length_at blocks (p + 12) + length_at blocks (p + 16 + 12))

-- so many bytes of a body from a place on, and others of the blocks behind them
abbrev pub spliced : List ℕ → ℕ → ℕ → List ℕ → ℕ → ℕ → List ℕ
spliced body from count blocks start end = slice_range body from (from + count) ++ slice_range blocks start end

-- the parts, one behind the other: of each what the record at `base` in a body has of it, and the rest
abbrev pub parts_in : List ℕ → ℕ → List ℕ → ℕ → List ℕ
parts_in body base blocks p =
    let own = span_at body base in
    let rest = span_at blocks (p + 16) in
    spliced body own.start (length_at blocks p) blocks rest.start rest.row_end
    ++ spliced body own.row_end (length_at blocks (p + 4)) blocks rest.row_end rest.family_end
    ++ spliced body own.family_end (length_at blocks (p + 8)) blocks rest.family_end rest.qualifier_end
    ++ spliced body own.qualifier_end (length_at blocks (p + 12)) blocks rest.qualifier_end rest.label_end

-- the entry at a place is read on this key as this record
pub record IsNext (base : Key) (body : List ℕ) (p : ℕ) (r : Record) : Type 0 where
  pub entry : IsEntry base body p
  pub reads : entry_at base body p ≡ r

-- Of so many records in blocks some are decoded, the first of them with this index; the entry behind them begins there, and is read on
-- this key.
pub record IsDecoded (out places : List ℕ) (base : Key) (at : ℕ) (body : List ℕ) (count first : ℕ) : Type 0 where
  pub inside : first + length places ≤ count
  pub records : records_at out places ≡ part first (first + length places) (block_records body count)
  pub place : at ≡ place_behind body 0 (first + length places)
  pub next : (u : Record) → first + length places < count → IsNext base body at (slice_index_or (block_records body count) (first + length places) u)

-- The records at some places of a body are those of the entries from one place of the blocks up to another: each is read on the key of
-- the one before it, the first on this key, and the last has that one.
abbrev pub AreRead : List ℕ → Key → List ℕ → List ℕ → ℕ → ℕ → Key → Type 0
AreRead out key [] blocks p end last = (p ≡ end) × (key ≡ last)
AreRead out key (x ∷ xs) blocks p end last = (record_at out x ≡ entry_at key blocks p) × AreRead out (key_at out x) xs blocks (entry_end blocks p) end last

-- the same where the first is read on its own key, which has what it shares
abbrev pub AreEntries : List ℕ → List ℕ → List ℕ → ℕ → ℕ → Key → Type 0
AreEntries out [] blocks p end last = Unit {0}
AreEntries out (x ∷ xs) blocks p end last = AreRead out (key_at out x) (x ∷ xs) blocks p end last

-- .. and the record that the next entry shares bytes with lies there; the records are those of the entries up to that one
pub record IsStanding (out places : List ℕ) (base at : ℕ) (body : List ℕ) (count first : ℕ) : Type 0 where
  pub decoded : IsDecoded out places (key_at out base) at body count first
  pub there : IsAt out base
  pub read : AreEntries out places body (place_behind body 0 first) at (key_at out base)

-- the same of records that are decoded of these bytes, whatever stood before and behind them
pub record IsKept (out places : List ℕ) (base : ℕ) (bytes : List ℕ) : Type 0 where
  pub there : IsAt out base
  pub read : AreEntries out places bytes 0 (length bytes) (key_at out base)

-- ---- these facts have one proof each
IsNext-prop : (base : Key) (body : List ℕ) (p : ℕ) (r : Record) → IsProp (IsNext base body p r)
IsNext-prop base body p r a b = λ i. record { entry = IsEntry-prop base body p a.entry b.entry i; reads = record_set _ _ a.reads b.reads i }

pub IsDecoded-prop : (out places : List ℕ) (base : Key) (at : ℕ) (body : List ℕ) (count first : ℕ) → IsProp (IsDecoded out places base at body count first)
IsDecoded-prop out places base at body count first a b = λ i. record {
  inside = le_prop a.inside b.inside i;
  records = records_set _ _ a.records b.records i;
  place = Coded-set coded_ℕ _ _ a.place b.place i;
  next = Π_prop (λ u. Π_prop λ lt. IsNext-prop base body at (slice_index_or (block_records body count) (first + length places) u)) a.next b.next i;
}

AreRead-prop : (out : List ℕ) (key : Key) (places blocks : List ℕ) (p end : ℕ) (last : Key) → IsProp (AreRead out key places blocks p end last)
AreRead-prop out key [] blocks p end last a b = λ i. (Coded-set coded_ℕ _ _ a.0 b.0 i, key_set _ _ a.1 b.1 i)
AreRead-prop out key (x ∷ xs) blocks p end last a b = λ i. (record_set _ _ a.0 b.0 i, AreRead-prop out (key_at out x) xs blocks (entry_end blocks p) end last a.1 b.1 i)

AreEntries-prop : (out places blocks : List ℕ) (p end : ℕ) (last : Key) → IsProp (AreEntries out places blocks p end last)
AreEntries-prop out [] blocks p end last a b = λ i. tt
AreEntries-prop out (x ∷ xs) blocks p end last a b = AreRead-prop out (key_at out x) (x ∷ xs) blocks p end last a b

pub IsStanding-prop : (out places : List ℕ) (base at : ℕ) (body : List ℕ) (count first : ℕ) → IsProp (IsStanding out places base at body count first)
IsStanding-prop out places base at body count first a b = λ i. record {
  decoded = IsDecoded-prop out places (key_at out base) at body count first a.decoded b.decoded i;
  there = IsAt-prop out base a.there b.there i;
  read = AreEntries-prop out places body (place_behind body 0 first) at (key_at out base) a.read b.read i;
}

pub IsKept-prop : (out places : List ℕ) (base : ℕ) (bytes : List ℕ) → IsProp (IsKept out places base bytes)
IsKept-prop out places base bytes a b = λ i. record {
  there = IsAt-prop out base a.there b.there i;
  read = AreEntries-prop out places bytes 0 (length bytes) (key_at out base) a.read b.read i;
}
