-- For proofs. An entry, as it is written.
use Rattle.std.specs.Prelude.{ℕ, List, ◌≡◌, ◌+◌, ◌-◌, ◌++◌, length, take}
use Rattle.std.specs.List.{slice_range}
use Rattle.tab_key.specs.Encoding.{length_at, four_bytes, span_at}
use Rattle.tab_key.specs.Records.{Key, Record}
use Rattle.tab_table.specs.Blocks.{entry_at, entry_end, size_behind, IsEntry}

-- what the parts of the record at the beginning of some bytes have behind so many of theirs
abbrev pub rests_of : ℕ → ℕ → ℕ → ℕ → List ℕ → List ℕ
rests_of a b c d bytes =
    let s = span_at bytes 0 in
    slice_range bytes (s.start + a) s.row_end ++ slice_range bytes (s.row_end + b) s.family_end ++ slice_range bytes (s.family_end + c) s.qualifier_end ++ slice_range bytes (s.qualifier_end + d) s.label_end

-- these counts, the head of what the parts have beyond them, and these rests
abbrev pub entry_bytes : ℕ → ℕ → ℕ → ℕ → List ℕ → List ℕ
entry_bytes a b c d bytes =
    (four_bytes a ++ four_bytes b ++ four_bytes c ++ four_bytes d)
    ++ ((four_bytes (length_at bytes 0 - a) ++ four_bytes (length_at bytes 4 - b) ++ four_bytes (length_at bytes 8 - c) ++ four_bytes (length_at bytes 12 - d)) ++ slice_range bytes 16 41)
    ++ rests_of a b c d bytes

-- behind old bytes the entry of a record was put, which shares bytes with a key
pub record IsPut (base : Key) (old new : List ℕ) (place : ℕ) (r : Record) : Type 0 where
  pub entry : IsEntry base new place
  pub reads : entry_at base new place ≡ r
  pub end : entry_end new place ≡ length new
  pub size : length new ≡ length old + size_behind base r
  pub front : take (length old) new ≡ old
