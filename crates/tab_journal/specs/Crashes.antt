-- For proofs. What a crash leaves of a journal, and what is read of that.
use Rattle.std.specs.Prelude.{ℕ, suc, ◌≡◌, ◌≤◌, List, [], ◌∷◌, ◌++◌, length, take, Some}
use Rattle.tab_codec.specs.Parts.{IsBytes}
use Rattle.tab_journal.specs.Journals.{Header, Batch, IsJournal}
use Rattle.tab_journal.specs.Reading.{batch_at, journal_of}
use Rattle.tab_journal.specs.Laws.{last_sum}

-- the first n bytes of the file are there
abbrev pub HasFirst : ℕ → List ℕ → List ℕ → Type 0
HasFirst n file c = (n ≤ length c) × (take n c ≡ take n file)

-- it is one of these outcomes, but for what stands behind the first n bytes
abbrev pub IsAsBefore : ℕ → (List ℕ → Type 0) → List ℕ → Type 0
IsAsBefore n outcomes c = (d : List ℕ) × outcomes d × (take n c ≡ take n d)

-- No bytes that a crash left have by chance the form and the sum of a batch that wasn't put there: wherever a batch is read behind the header and the
-- first m batches that were put, it is the next one that was put.
abbrev pub NoneByChance : Header → List Batch → List ℕ → Type 0
NoneByChance header bs c =
    (m : ℕ) (kept left rest : List ℕ) (b : Batch) → c ≡ kept ++ left → IsJournal kept header (take m bs) → batch_at header.seal (last_sum header (take m bs)) left ≡ Some (b, rest)
    → take (suc m) bs ≡ take m bs ++ b ∷ []

-- what is read is the header, and of the batches that were put the first ones, k of them at least
abbrev pub IsReadFrom : ℕ → Header → List Batch → List ℕ → Type 0
IsReadFrom k header bs c = (m : ℕ) × (left : List ℕ) × (k ≤ m) × (journal_of c ≡ Some (record { header = header; batches = take m bs; left = left }))

-- ---- The law: where a crash leaves the beginning of a journal's bytes that was on the disk, what is read is a beginning of what was put, in its
-- order, with all that was on the disk; unless bytes that the crash left look like a batch by chance.
abbrev pub CrashesLeaveBeginnings : Type 0
CrashesLeaveBeginnings =
    (bytes c : List ℕ) (header : Header) (bs : List Batch) (n k : ℕ) → IsBytes c → IsJournal (take n bytes) header (take k bs) → HasFirst n bytes c → NoneByChance header bs c
    → IsReadFrom k header bs c
