-- To be believed by whoever relies on it. What is left where the entries of a journal are done again batch by batch, and its text.
use Rattle.std.specs.Prelude.{ℕ, ◌≡◌, List, Some, Ok}
use Rattle.std.specs.List.{flat_map}
use Rattle.tab_core.specs.Stores.{CoreContents}
use Rattle.tab_journal.specs.Journals.{Batch}
use Rattle.tab_journal.specs.Reading.{Journal, journal_of}
use Rattle.tab_recovery.specs.Recovering.{Recovers}

-- the bytes that its batches keep, one behind the other
abbrev pub text_of : Journal → List ℕ
text_of j = flat_map (λ (b : Batch). b.body) j.batches

-- these bytes are a journal, and the entries that its batches keep, so many, are all done again
abbrev pub IsReplayed : CoreContents → List ℕ → ℕ → CoreContents → Type 0
IsReplayed old bytes count new = (j : Journal) × (journal_of bytes ≡ Some j) × Recovers old (text_of j) (Ok count) new

-- this is the text that the journal of these bytes keeps
abbrev pub HasText : List ℕ → List ℕ → Type 0
HasText bytes text = (j : Journal) × (journal_of bytes ≡ Some j) × (text ≡ text_of j)
