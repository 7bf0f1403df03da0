-- To be believed. The records of an accepted mutation: each update with its timestamp settled, the mutation's number and its place there.
use Rattle.std.specs.Prelude.{ℕ, ℤ, List, [], ◌∷◌, unwrap_or, length, map, reverse}
use Rattle.tab_mutation.specs.Mutations.{Update, Mutation}
use Rattle.tab_key.specs.Records.{Record}
use Rattle.tab_key.specs.declared.key.Kind.{Kind}

-- an update of an accepted mutation, its timestamp settled
pub record TimedUpdate : Type 0 where
  pub kind : Kind
  pub family : List ℕ
  pub qualifier : List ℕ
  pub label : List ℕ
  pub timestamp : ℤ
  pub value : List ℕ

-- an update without a timestamp gets the clock
abbrev pub timed : ℤ → Update → TimedUpdate
timed clock u = record { kind = u.kind; family = u.family; qualifier = u.qualifier; label = u.label; timestamp = unwrap_or u.timestamp clock; value = u.value }

-- the record of an update, with the number of its mutation and its place there
abbrev pub record_of : ℕ → List ℕ → ℕ → TimedUpdate → Record
record_of seq row idx u = record {
  key = record { row = row; family = u.family; qualifier = u.qualifier; label = u.label; timestamp = u.timestamp };
  kind = u.kind;
  value = u.value;
  seq = seq;
  idx = idx;
}

-- the records of one mutation, the last update first, with their places counted from 0 at the first
unfoldable pub records_of : ℕ → List ℕ → List TimedUpdate → List Record
records_of seq row [] = []
records_of seq row (u ∷ us) = record_of seq row (length us) u ∷ records_of seq row us

-- the records of a mutation that is accepted under this number when the clock is this
abbrev pub mutation_records : ℕ → ℤ → Mutation → List Record
mutation_records seq clock m = records_of seq m.row (reverse (map (timed clock) m.updates))
