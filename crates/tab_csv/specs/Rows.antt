-- For proofs. What is written of records so far.
use Rattle.std.specs.Prelude.{ℕ, ◌≡◌, ◌≤◌, ◌-◌, ◌++◌, Bool, false, List, [], ◌∷◌, reverse, take, drop, Option}
use Rattle.std.specs.List.{flat_map}
use Rattle.std.specs.Io.KnownBytes.{Appends}
use Rattle.csv.specs.Writing.{default_writer, fields_written, has_written, writer_setup, text_written}
use Rattle.csv.specs.declared.writer.Writer.{Writer}
use Rattle.tab_key.specs.Records.{Record}
use Rattle.tab_csv.specs.CsvTexts.{csv_row, goes_on, older_first, record_fields}

-- a writer of rows with the defaults of `csv`, behind a row or before the first one
pub record IsBetweenRows {W : Type 0} (w : Writer W) : Type 0 where
  pub fields : fields_written w ≡ 0
  pub wrote : has_written w ≡ false
  pub setup : writer_setup w ≡ default_writer

-- rows of this text were written
pub record Writes {W : Type 0} (contents : W → Option (List ℕ)) (old new : Writer W) (text : List ℕ) : Type 0 where
  pub bytes : Appends (text_written contents old) (text_written contents new) text
  pub between : IsBetweenRows new

-- the records between these places, the last one first
abbrev pub run_of : List Record → ℕ → ℕ → List Record
run_of rs begin end = reverse (take (end - begin) (drop begin rs))

abbrev pub head_goes_on : List Record → List Record → Bool
head_goes_on run [] = false
head_goes_on run (r ∷ rs) = goes_on run r

-- the record at the second place goes on with those from the first one on
abbrev pub goes_on_at : List Record → ℕ → ℕ → Bool
goes_on_at rs begin index = head_goes_on (run_of rs begin index) (drop index rs)

-- the text of records of the table of this name
abbrev pub run_text : List ℕ → List Record → List ℕ
run_text table rs = flat_map (λ r. csv_row (record_fields table r)) rs

-- of a table's records, those before the first place were written, and those from there up to the second one may be of one key
abbrev pub TableSoFar : {W : Type 0} → (W → Option (List ℕ)) → Writer W → Writer W → List ℕ → List Record → ℕ → ℕ → Type 0
TableSoFar contents old new table rs begin index = (begin ≤ index) × (done : List Record) × Writes contents old new (run_text table done)
    × (done ++ older_first (run_of rs begin index) (drop index rs) ≡ older_first [] rs)
