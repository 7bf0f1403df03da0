-- For proofs. Records that a bound parts, by their rows.
use Rattle.std.specs.Prelude.{ℕ, List, Bool, filter, not}
use Rattle.std.specs.Ordering.{is_lt}
use Rattle.tab_key.specs.Bytes.{bytes_cmp}
use Rattle.tab_key.specs.Encoding.{records_at, places_from}
use Rattle.tab_key.specs.Records.{Record}

-- so many records from the beginning of a body on
abbrev pub records_in : List ℕ → ℕ → List Record
records_in body n = records_at body (places_from body 0 n)

-- the row of a record stands before that of another one
abbrev pub row_below : Record → Record → Bool
row_below u b = is_lt (bytes_cmp u.key.row b.key.row)

-- those whose rows stand before the bound's
abbrev pub before : Record → List Record → List Record
before b us = filter (λ u. row_below u b) us

-- the others
abbrev pub from_bound : Record → List Record → List Record
from_bound b us = filter (λ u. not (row_below u b)) us
