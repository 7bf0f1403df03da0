-- To be believed by whoever relies on it. Splits of a tablet, and the row at which one by size is made. (Accumulo user manual: tablets, splitting)
use Rattle.std.specs.Prelude.{ℕ, List, [], ◌∷◌, ◌/◌, Bool, cond, Option, Some, None, length, filter, map, bytes_eq, slice_get}
use Rattle.std.specs.Ordering.{is_lt, is_le, is_gt}
use Rattle.tab_key.specs.Bytes.{bytes_cmp}
use Rattle.tab_key.specs.Records.{Record}
use Rattle.tab_key.specs.Sorted.{sorted}
use Rattle.tab_version.specs.Sources.{clipped}
use Rattle.tab_tablet.specs.Tablets.{Tablet, no_jobs, next_number, records_in, frozen}

-- what a split leaves of a tablet in the rows that pass, as a tablet with a number of its own: it is frozen, and its sources are shared,
-- each cut to these rows; no merge is under way
abbrev pub cut_to : ℕ → (List ℕ → Bool) → Tablet → Tablet
cut_to number p t = record { number = number; end = t.end; active = []; sources = clipped p (frozen t).sources; jobs = no_jobs }

-- the two tablets that a split at the row makes, which belongs to the lower one
abbrev pub lower_at : List ℕ → ℕ → Tablet → Tablet
lower_at row number t = record (cut_to number (λ r. is_le (bytes_cmp r row)) t) { end = Some row }

abbrev pub upper_at : List ℕ → ℕ → Tablet → Tablet
upper_at row number t = cut_to number (λ r. is_gt (bytes_cmp r row)) t

-- the lower one has this number, the upper one the next
abbrev pub split_at : List ℕ → ℕ → Tablet → List Tablet
split_at row number t = lower_at row number t ∷ upper_at row (next_number number) t ∷ []

-- ---- splits by size
-- the last of some rows
abbrev pub last_row : List (List ℕ) → Option (List ℕ)
last_row [] = None
last_row (r ∷ []) = Some r
last_row (r ∷ s ∷ rs) = last_row (s ∷ rs)

-- this row, unless it is the greatest; then the next lower one of these
abbrev pub below_greatest : List (List ℕ) → Option (List ℕ) → Option (List ℕ) → Option (List ℕ)
below_greatest rows (Some middle) (Some greatest) = cond (bytes_eq middle greatest) (last_row (filter (λ r. is_lt (bytes_cmp r middle)) rows)) (Some middle)
below_greatest rows None greatest = None
below_greatest rows (Some middle) None = None

-- Of rows that rise, each as often as there are records of it: the one at place half of their number, rounded down, counted from 0; the
-- next lower one, where that is the greatest.
abbrev pub middle_row : List (List ℕ) → Option (List ℕ)
middle_row rows = below_greatest rows (slice_get rows (length rows / 2)) (last_row rows)

-- the rows of all records that the tablet holds, in the order of records
abbrev pub rows_in : Tablet → List (List ℕ)
rows_in t = map (λ (u : Record). u.key.row) (sorted (records_in t))
