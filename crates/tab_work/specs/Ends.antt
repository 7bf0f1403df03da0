-- For proofs. Which of a table's end rows is that of a row's tablet.
use Rattle.std.specs.Prelude.{ℕ, List, [], Option, find}
use Rattle.std.specs.Ordering.{is_le}
use Rattle.tab_key.specs.Bytes.{bytes_cmp}
use Rattle.tab_history.specs.Answers.{Told}
use Rattle.tab_history.specs.declared.reply.Reply.TheVariants.{Rows}

-- the rows that are told, if any are
abbrev pub rows_told : Told → List (List ℕ)
rows_told (Rows rows) = rows
rows_told _ = []

-- the first of the rising end rows that isn't below the row
abbrev pub end_of : List ℕ → List (List ℕ) → Option (List ℕ)
end_of row ends = find (λ end. is_le (bytes_cmp row end)) ends
