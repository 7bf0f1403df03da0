-- For proofs. What is decoded of a table.
use Rattle.std.specs.Prelude.{ℕ, ◌≡◌, ◌≤◌, ◌<◌, ◌+◌, List, true, length, take}
use Rattle.std.specs.Coded.{Coded-set, coded_bool, le_prop}
use mathlib.Core.HLevel.{Π_prop}
use Rattle.std.specs.List.{prefix_len}
use Rattle.tab_key.specs.Records.{Record}
use Rattle.tab_mem.specs.Starts.{is_before}
use Rattle.tab_mem.specs.declared.start.Start.{Start}
use Rattle.tab_table.specs.Decoding.{IsStanding, IsStanding-prop}
use Rattle.tab_table.specs.declared.decoded.Decoded.{Decoded}
use Rattle.tab_table.specs.declared.window.Window.{Window}

-- the bytes of a body that are records
abbrev pub written : Decoded → List ℕ
written d = take d.end d.body.items

-- these are records in these blocks, from this index on
abbrev pub IsReady : Decoded → List ℕ → ℕ → ℕ → Type 0
IsReady d blocks count first = IsStanding (written d) d.places.items d.base d.at blocks count first

-- where anything is known of them, its records are those of these blocks from its first index on
abbrev pub IsWindow : Window → List ℕ → ℕ → Type 0
IsWindow w blocks count = w.known ≡ true → IsReady w.records blocks count w.first

-- .. and the one with this index is among them
pub record Has (w : Window) (index : ℕ) : Type 0 where
  pub known : w.known ≡ true
  pub low : w.first ≤ index
  pub high : index < w.first + length w.records.places.items

-- the record with this index, which isn't at the end, stands before the start
pub record IsPassed (at end : ℕ) (start : Start) (rs : List Record) : Type 0 where
  pub low : at < end
  pub passed : at < prefix_len (is_before start) rs

-- ---- these facts have one proof each
pub IsWindow-prop : (w : Window) (blocks : List ℕ) (count : ℕ) → IsProp (IsWindow w blocks count)
IsWindow-prop w blocks count = Π_prop (λ known. IsStanding-prop (written w.records) w.records.places.items w.records.base w.records.at blocks count w.first)

Has-prop : (w : Window) (index : ℕ) → IsProp (Has w index)
Has-prop w index a b = λ i. record { known = Coded-set coded_bool _ _ a.known b.known i; low = le_prop a.low b.low i; high = le_prop a.high b.high i }

-- .. where it isn't past the end
pub Holds-prop : (w : Window) (at end : ℕ) → IsProp (at < end → Has w at)
Holds-prop w at end = Π_prop (λ lt. Has-prop w at)
