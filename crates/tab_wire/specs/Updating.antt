-- For proofs. A mutation to which the updates of a frame are added.
use Rattle.std.specs.Prelude.{ℕ, List, ◌++◌, Option, Some}
use Rattle.tab_mutation.specs.Mutations.{Mutation, Update, with_update}
use Rattle.tab_codec.specs.Reading.{◌>>=◌}

-- the mutation with more updates at its end
abbrev pub with_updates : Mutation → List Update → Mutation
with_updates m us = record { row = m.row; updates = m.updates ++ us }

-- the mutation with the update that was read, and the bytes behind it
abbrev pub updated : Mutation → Option (Update × List ℕ) → Option (Mutation × List ℕ)
updated m read = read >>= λ u. Some (with_update m u.0, u.1)

-- the mutation with all updates that were read, and the bytes behind them
abbrev pub grown : Mutation → Option (List Update × List ℕ) → Option (Mutation × List ℕ)
grown m read = read >>= λ us. Some (with_updates m us.0, us.1)
