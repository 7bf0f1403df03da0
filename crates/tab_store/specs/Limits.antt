-- For proofs. The limits that a table's tablets keep to, which an image of the core asks for.
use Rattle.std.specs.Prelude.{ℕ, ◌≤◌, ◌<◌, ◌^◌, List, length, Contains, IsOk}
use Rattle.std.specs.List.{AllByRecursion}
use Rattle.tab_key.specs.Records.{Record}
use Rattle.tab_key.specs.Encoding.{IsShort}
use Rattle.tab_key.specs.declared.limited_part.TheConstants.{MAX_PART_LEN, MAX_UPDATES}
use Rattle.tab_label.specs.Reading.{label_of}
use Rattle.tab_tablets.specs.Tablets.{Tablet}
use Rattle.tab_tablets.specs.ByRow.{records_of_all, ends_of}

-- A record as an accepted mutation has it: no part of it is too long, its place in the mutation is below the limit of updates, and its
-- label is one.
pub record IsWellFormed (u : Record) : Type 0 where
  pub short : IsShort u
  pub place : u.idx < MAX_UPDATES
  pub label : IsOk (label_of u.key.label)

-- no end row is too long, and there are fewer than 2^32
pub record AreEndRows (rows : List (List ℕ)) : Type 0 where
  pub short : AllByRecursion (λ row. length row ≤ MAX_PART_LEN) rows
  pub few : length rows < 2 ^ 32

-- each record that the tablets hold is well formed, and their end rows are within their limits
pub record AreLimited (ts : List Tablet) : Type 0 where
  pub records : (u : Record) → Contains (records_of_all ts) u → IsWellFormed u
  pub ends : AreEndRows (ends_of ts)
