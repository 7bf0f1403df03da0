-- For proofs. A journal that is being written.
use Rattle.std.specs.Prelude.{ℕ, ◌+◌, ◌≡◌, ◌≤◌, List, [], ◌∷◌, length, take}
use Rattle.tab_journal.specs.declared.seal.Form.{Form}
use Rattle.tab_journal.specs.declared.seal.Form.TheVariants.{Plain, Tagged}
use Rattle.tab_journal.specs.declared.seal.Seal.{Seal}
use Rattle.tab_journal.specs.Journals.{Header, Batch, IsJournal}
use Rattle.tab_journal.specs.Laws.{last_sum}
use Rattle.tab_journal.specs.Crashes.{HasFirst}

-- how many bytes a batch has beside its body
abbrev pub around : Form → ℕ
around Plain = 20
around Tagged = 28

-- each of these batches, of which the first has so many bytes before it, was written when no more than n bytes, and no more than it has before it, were on the disk
abbrev pub AreTimely : Form → ℕ → ℕ → List Batch → Type 0
AreTimely form n at [] = Unit {0}
AreTimely form n at (b ∷ bs) = (b.settled ≤ n) × (b.settled ≤ at) × AreTimely form n (at + (around form + length b.body)) bs

-- These bytes are this header and these batches, the last sum is this one, and the first n bytes are the header and the first k batches.
pub record IsWritten (bytes : List ℕ) (seal : Seal) (sum n : ℕ) (header : Header) (bs : List Batch) (k : ℕ) : Type 0 where
  pub journal : IsJournal bytes header bs
  pub sealed : seal ≡ header.seal
  pub summed : sum ≡ last_sum header bs
  pub few : k ≤ length bs
  pub first : IsJournal (take n bytes) header (take k bs)
  pub timely : AreTimely header.seal.form n 48 bs

-- they are some header and some batches
abbrev pub IsSomeJournal : List ℕ → Seal → ℕ → ℕ → Type 0
IsSomeJournal bytes seal sum n = (header : Header) × (bs : List Batch) × (k : ℕ) × IsWritten bytes seal sum n header bs k

-- each outcome of a crash has the first n bytes of the file, and is no longer than it
abbrev pub KeepFirst : ℕ → List ℕ → (List ℕ → Type 0) → Type 0
KeepFirst n file outcomes = (c : List ℕ) → outcomes c → HasFirst n file c × (length c ≤ length file)
