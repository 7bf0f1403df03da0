-- For proofs. Selection: the row at a place of the rows of records, in their order.
use Rattle.std.specs.Prelude.{◌≡◌, ◌<◌, ℕ, List, [], All, length, filter, map, slice_get}
use Rattle.std.specs.Ordering.{is_lt, is_le}
use Rattle.tab_key.specs.Bytes.{bytes_cmp}
use Rattle.tab_key.specs.Records.{Record}
use Rattle.tab_key.specs.Sorted.{sorted, IsDistinct}

-- the rows of these records, in the order of records
abbrev pub rows_of : List Record → List (List ℕ)
rows_of us = map (λ (u : Record). u.key.row) (sorted us)

-- how many of these records have rows below this one
abbrev pub count_below : List ℕ → List Record → ℕ
count_below row us = length (filter (λ (u : Record). is_lt (bytes_cmp u.key.row row)) us)

-- how many of these records have this row or one below it
abbrev pub count_upto : List ℕ → List Record → ℕ
count_upto row us = length (filter (λ (u : Record). is_le (bytes_cmp u.key.row row)) us)

-- one of these records has the row
abbrev pub HasRow : List Record → List ℕ → Type 0
HasRow us row = count_below row us < count_upto row us

-- each of the rows is that of one of these records, and there is one if there are records
pub record AreMiddles (us : List Record) (rows : List (List ℕ)) : Type 0 where
  pub held : All (HasRow us) rows
  pub none : length rows ≡ 0 → us ≡ []

-- the row at one place of these records is that at another place of those, which are fewer
pub record IsNarrower (those : List Record) (place : ℕ) (these : List Record) (now : ℕ) : Type 0 where
  pub same : slice_get (rows_of these) now ≡ slice_get (rows_of those) place
  pub inside : now < length these
  pub fewer : length these < length those
  pub distinct : IsDistinct these
