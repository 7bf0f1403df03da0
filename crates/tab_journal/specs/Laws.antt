-- To be believed by whoever relies on it. What holds of journals.
use Rattle.std.specs.Prelude.{ℕ, ◌≡◌, ◌↔◌, ◌≤◌, ◌<◌, ◌^◌, List, [], ◌++◌, length, take, FitsSigned, Some, None}
use Rattle.std.specs.Int.{w64, cast_unsigned}
use Rattle.std.specs.List.{fold}
use Rattle.tab_history.specs.declared.event.Event.{Event}
use Rattle.tab_codec.specs.Parts.{IsBytes}
use Rattle.tab_journal.specs.declared.seal.Form.{Form}
use Rattle.tab_journal.specs.declared.seal.Form.TheVariants.{Plain, Tagged}
use Rattle.tab_journal.specs.declared.seal.Seal.{Seal}
use Rattle.tab_journal.specs.Journals.{sum_of, Header, header_summed, IsHeader, AreEntries, Batch, batch_summed, IsBatch, IsJournal}
use Rattle.tab_journal.specs.Spelling.{header_bytes, batch_bytes}
use Rattle.tab_journal.specs.Reading.{entries_in, batch_at, Journal, journal_of}

-- ---- The law: what is read is what the relation says, and what the relation says is read.
abbrev pub JournalsAreRead : Type 0
JournalsAreRead = (bytes : List ℕ) (header : Header) (bs : List Batch) → IsBytes bytes → (journal_of bytes ≡ Some (record { header = header; batches = bs; left = [] })) ↔ IsJournal bytes header bs

-- the sum that the next batch has before it
abbrev pub last_sum : Header → List Batch → ℕ
last_sum header bs = fold (λ (sum : ℕ) (b : Batch). b.sum) header.sum bs

-- ---- The law: what is read in front of something left is a whole journal, and no batch begins behind it.
pub record IsKept (bytes : List ℕ) (j : Journal) : Type 0 where
  pub kept : List ℕ
  pub parts : bytes ≡ kept ++ j.left
  pub journal : IsJournal kept j.header j.batches
  pub ends : batch_at j.header.seal (last_sum j.header j.batches) j.left ≡ None

abbrev pub WholeBatchesAreKept : Type 0
WholeBatchesAreKept = (bytes : List ℕ) (j : Journal) → IsBytes bytes → journal_of bytes ≡ Some j → IsKept bytes j

-- ---- The law: a beginning of a journal that has its header says its first batches, whole ones alone.
abbrev pub CutsAreBeginnings : Type 0
CutsAreBeginnings = (bytes : List ℕ) (header : Header) (bs : List Batch) (n : ℕ) → IsBytes bytes → IsJournal bytes header bs → 48 ≤ n
    → (k : ℕ) × (left : List ℕ) × (journal_of (take n bytes) ≡ Some (record { header = header; batches = take k bs; left = left }))

-- ---- The law: the same of entries.
abbrev pub EntriesAreRead : Type 0
EntriesAreRead = (bytes : List ℕ) (es : List Event) → IsBytes bytes → (entries_in bytes ≡ Some es) ↔ AreEntries bytes es

-- ---- The law: what is written has its form.
-- the numbers fit
pub record FitsFront (f : Header) : Type 0 where
  pub generation : f.generation < 2 ^ 64
  pub next : f.next < 2 ^ 64
  pub clock : FitsSigned w64 f.clock
  pub bits : cast_unsigned w64 f.clock < 2 ^ 64
  pub salt : f.seal.salt < 2 ^ 64
  pub sum : f.sum < 2 ^ 64
  pub right : f.sum ≡ sum_of (header_summed f.format f.generation f.next f.clock f.seal)

-- a tag says a salt of eight bytes
abbrev pub FitsTag : Form → ℕ → Type 0
FitsTag Plain salt = Unit {0}
FitsTag Tagged salt = salt < 2 ^ 64

abbrev pub TextsHaveForm : Type 0
TextsHaveForm =
    ((f : Header) → FitsFront f → IsHeader (header_bytes f) f)
    × ((seal : Seal) (before settled : ℕ) (body : List ℕ) → FitsTag seal.form seal.salt → settled < 2 ^ 64 → length body < 2 ^ 32 → sum_of (batch_summed seal.salt before settled body) < 2 ^ 64
    → IsBatch seal before (batch_bytes seal before settled body) (record { settled = settled; body = body; sum = sum_of (batch_summed seal.salt before settled body) }))
