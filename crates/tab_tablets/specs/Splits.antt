-- To be believed by whoever relies on it. What becomes of the tablets of a table that is to be split.
use Rattle.std.specs.Prelude.{ℕ, List, Bool, Option, Some, None, cond, length, nat_le, nat_lt}
use Rattle.tab_version.specs.Sources.{size_of}
use Rattle.tab_tablet.specs.Tablets.{Tablet}
use Rattle.tab_tablet.specs.Splitting.{split_at, middle_row, rows_in}
use Rattle.tab_tablets.specs.ByRow.{at_row, tablet_of, ends_of, is_end}
use Rattle.tab_tablets.specs.declared.splitting.Split.{Split}
use Rattle.tab_tablets.specs.declared.splitting.Split.TheVariants.{Done, Present, Small, OneRow, Full}

-- whether a table has as many end rows as it can have
abbrev pub is_full : List Tablet → Bool
is_full ts = nat_le 4294967295 (length (ends_of ts))

-- the tablet of the row is split there, unless there are too many end rows already; the two get this number and the next
abbrev pub split_in : List ℕ → ℕ → List Tablet → Split × List Tablet
split_in row number ts = cond (is_full ts) (Full, ts) (Done, at_row row (split_at row number) ts)

-- a split at a row that is asked for
abbrev pub splits : List ℕ → ℕ → List Tablet → Split × List Tablet
splits row number ts = cond (is_end row ts) (Present, ts) (split_in row number ts)

-- a split at the row that was found in the middle of a tablet
abbrev pub split_found : Option (List ℕ) → ℕ → List Tablet → Split × List Tablet
split_found None number ts = (OneRow, ts)
split_found (Some row) number ts = split_in row number ts

-- a split by size of this one of the tablets, if its sorted tables come to the limit, in bytes
abbrev pub halved : ℕ → ℕ → Option Tablet → List Tablet → Split × List Tablet
halved limit number None ts = (OneRow, ts)
halved limit number (Some t) ts = cond (nat_lt (size_of t.sources) limit) (Small, ts) (split_found (middle_row (rows_in t)) number ts)

-- a split by size of the tablet that holds the row, which there always is
abbrev pub halves : List ℕ → ℕ → ℕ → List Tablet → Split × List Tablet
halves row limit number ts = halved limit number (tablet_of row ts) ts
