-- For proofs. The records of the tables that give the timestamps, and the order in which they are written.
use Rattle.std.specs.Prelude.{ℕ, Bool, List, [], map}
use Rattle.std.specs.Ordering.{nat_cmp, int_cmp, on, then_cmp, is_lt}
use Rattle.std.specs.declared.cmp.Ordering.{Ordering}
use Rattle.tab_key.specs.Records.{Record}
use Rattle.tab_history.specs.declared.event.TimeMode.{TimeMode}
use Rattle.tab_history.specs.declared.event.TimeMode.TheVariants.{Any, Server}
use Rattle.tab_image.specs.declared.table.ImageTable.{ImageTable}

-- a record of the table of this name
pub record Place : Type 0 where
  pub table : List ℕ
  pub held : Record

abbrev pub place : List ℕ → Record → Place
place table r = record { table = table; held = r }

-- the records of a table, if it gives the timestamps
abbrev pub places_of : TimeMode → List ℕ → List Record → List Place
places_of Any table rs = []
places_of Server table rs = map (place table) rs

abbrev pub table_places : ImageTable → List Place
table_places t = places_of t.head.time t.head.name t.records

-- by the number of the mutation, then by the place in it
unfoldable pub number_cmp : Record → Record → Ordering
number_cmp = then_cmp (on (λ r. r.seq) nat_cmp) (on (λ r. r.idx) nat_cmp)

-- by time, then by these
unfoldable pub written_cmp : Record → Record → Ordering
written_cmp = then_cmp (on (λ r. r.key.timestamp) int_cmp) number_cmp

-- whether one is written strictly before another
abbrev pub written_before : Place → Place → Bool
written_before p q = is_lt (written_cmp p.held q.held)
