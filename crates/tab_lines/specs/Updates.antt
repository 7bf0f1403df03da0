-- For proofs. What the words of updates say.
use Rattle.std.specs.Prelude.{ℕ, ℤ, List, [], ◌∷◌, ◌++◌, zero, suc, length, codes, Option, Some, None, if◌then◌else◌}
use Rattle.std.specs.Option.{option_map}
use Rattle.std.specs.Str.{bytes_eq}
use Rattle.tab_mutation.specs.Mutations.{Mutation, Update, with_update, put_update, delete_update}
use Rattle.tab_lines.specs.declared.updates.TimestampForm.{TimestampForm}
use Rattle.tab_lines.specs.declared.updates.TimestampForm.TheVariants.{Optional, Dashed}
use Rattle.tab_lines.specs.Gives.{◌>>=◌, field, optional}
use Rattle.tab_text.specs.Reading.{bytes_of}
use Rattle.tab_lines.specs.Fields.{given_timestamp, timestamp_or_dash}

-- a mutation of the row that a word spells, without updates
abbrev pub row_of : List ℕ → Option Mutation
row_of word = option_map (λ row. record { row = row; updates = [] }) (bytes_of word)

-- the mutation with more updates
abbrev pub with_updates : Mutation → List Update → Mutation
with_updates m us = record { row = m.row; updates = m.updates ++ us }

-- the mutation with the update that was read, and the words behind it
abbrev pub updated : Mutation → Option (Update × List (List ℕ)) → Option (Mutation × List (List ℕ))
updated m = option_map (λ u. (with_update m u.0, u.1))

-- a timestamp that may be missing at the end of a line, or one that is always a word
abbrev pub timestamp_of : TimestampForm → List (List ℕ) → Option (Option ℤ × List (List ℕ))
timestamp_of Optional words = optional None given_timestamp words
timestamp_of Dashed words = field timestamp_or_dash words

-- a put, and the words behind it
unfoldable pub put_of : TimestampForm → List (List ℕ) → Option (Update × List (List ℕ))
put_of form words = do
  family ← field bytes_of words
  qualifier ← field bytes_of family.1
  label ← field bytes_of qualifier.1
  value ← field bytes_of label.1
  timestamp ← timestamp_of form value.1
  Some (put_update family.0 qualifier.0 label.0 timestamp.0 value.0, timestamp.1)

-- a delete marker, and the words behind it
unfoldable pub delete_of : TimestampForm → List (List ℕ) → Option (Update × List (List ℕ))
delete_of form words = do
  family ← field bytes_of words
  qualifier ← field bytes_of family.1
  label ← field bytes_of qualifier.1
  timestamp ← timestamp_of form label.1
  Some (delete_update family.0 qualifier.0 label.0 timestamp.0, timestamp.1)

-- one update of several, and the words behind it
abbrev pub update_of : List (List ℕ) → Option (Update × List (List ℕ))
update_of [] = None
update_of (verb ∷ words) = if bytes_eq verb (codes "put") then put_of Dashed words else if bytes_eq verb (codes "del") then delete_of Dashed words else None

-- the updates behind an update: none at the end of the line, or more behind a semicolon
abbrev pub updates_behind : (List (List ℕ) → Option (List Update)) → List (List ℕ) → Option (List Update)
updates_behind more [] = Some []
updates_behind more (word ∷ words) = if bytes_eq word (codes ";") then more words else None

-- at least one update and at most this many
abbrev pub updates_within : ℕ → List (List ℕ) → Option (List Update)
updates_within zero words = None
updates_within (suc n) words = update_of words >>= λ u. option_map (λ us. u.0 ∷ us) (updates_behind (updates_within n) u.1)

-- at least one update; there are no more of them than words
unfoldable pub updates_from : List (List ℕ) → Option (List Update)
updates_from words = updates_within (length words) words

-- the updates of a line
abbrev pub updates_of : List (List ℕ) → Option (List Update)
updates_of [] = Some []
updates_of (word ∷ words) = updates_from (word ∷ words)
