-- For proofs. What a reader of a journal stands for.
use Rattle.std.specs.Prelude.{⊤, ℕ, ◌≡◌, ◌≤◌, ◌<◌, ◌↔◌, Bool, true, false, List, [], ◌∷◌, ◌++◌, length, take, Some, None}
use Rattle.std.specs.declared.io.Error.{Error}
use Rattle.tab_codec.specs.Parts.{IsBytes}
use Rattle.tab_journal.specs.declared.device.DeviceError.TheVariants.{Failed}
use Rattle.tab_journal.specs.declared.header.Header.{Header as TheFront}
use Rattle.tab_journal.specs.declared.journal_end.JournalEnd.{JournalEnd}
use Rattle.tab_journal.specs.declared.read_error.ReadError.{ReadError}
use Rattle.tab_journal.specs.declared.read_error.ReadError.TheVariants.{NoMemory, TooLong, Device as OfDevice}
use Rattle.tab_journal.specs.declared.reader.JournalReader.{JournalReader}
use Rattle.tab_journal.specs.declared.reader.Opened.{Opened}
use Rattle.tab_journal.specs.declared.reader.Opened.TheVariants.{Journal as AJournal, Cut, Damaged}
use Rattle.tab_journal.specs.Cursors.{unread_of, body_of as body_in, HasTaken}
use Rattle.tab_journal.specs.Damage.{IsDamaged}
use Rattle.tab_journal.specs.Journals.{Batch, IsJournal}
use Rattle.tab_journal.specs.Reading.{header_at, batch_at, Journal, journal_of}
use Rattle.tab_journal.specs.Said.{header_in, end_in, ends_of}

abbrev pub header_of : JournalReader → TheFront
header_of r = r.cursor.header

abbrev pub body_of : JournalReader → List ℕ
body_of r = body_in r.cursor

-- how many bytes were taken as the header and batches
abbrev pub taken_of : JournalReader → ℕ
taken_of r = r.cursor.taken

-- of these bytes, which were read, the header and these batches were handed out
abbrev pub HasRead : List ℕ → JournalReader → List Batch → Type 0
HasRead seen r bs = HasTaken seen r.cursor bs

-- no batch begins behind those that were handed out
abbrev pub HasNone : JournalReader → Type 0
HasNone r = batch_at r.cursor.header.seal r.cursor.sum (unread_of r.cursor) ≡ None

-- what bytes begin with, all of them or the first
abbrev pub HasBegun : List ℕ → Opened → Type 0
HasBegun bytes (AJournal r) = HasRead bytes r []
HasBegun bytes (Cut n) = (header_at bytes ≡ None) × (n ≡ length bytes) × (n ≤ 48)
HasBegun bytes Damaged = (header_at bytes ≡ None) × (48 < length bytes)

-- a file of which these bytes were read, and whether these are all: where it has no header all were read
abbrev pub HasOpened : List ℕ → Bool → Opened → Type 0
HasOpened seen whole (AJournal r) = HasRead seen r []
HasOpened seen whole (Cut n) = (header_at seen ≡ None) × (n ≡ length seen) × (n ≤ 48) × (whole ≡ true)
HasOpened seen whole Damaged = (header_at seen ≡ None) × (48 < length seen)

-- the next batch was read; or there is none, all bytes were read, and these are the journal's batches
abbrev pub Advances : List ℕ → Bool → JournalReader → List Batch → Bool → Type 0
Advances seen whole r bs true = (b : Batch) × HasRead seen r (bs ++ b ∷ []) × (body_of r ≡ b.body)
Advances seen whole r bs false = HasRead seen r bs × (whole ≡ true) × (journal_of seen ≡ Some (record { header = header_in (header_of r); batches = bs; left = unread_of r.cursor }))

-- where the journal of these bytes ends
pub record Ends (seen : List ℕ) (e : JournalEnd) : Type 0 where
  pub journal : Journal
  pub fits : IsBytes seen
  pub read : journal_of seen ≡ Some journal
  pub end : end_in e ≡ ends_of seen journal
  pub whole : IsJournal (take e.length seen) journal.header journal.batches
  pub judged : (e.is_damaged ≡ true) ↔ IsDamaged e.header.seal e.length seen

-- why nothing more is read: the disk has failed more often than before, where that is told
abbrev pub WhyUnread : ℕ → ℕ → ReadError → Type 0
WhyUnread before now NoMemory = ⊤
WhyUnread before now TooLong = ⊤
WhyUnread before now (OfDevice reason) = (e : Error) → reason ≡ Failed e → before < now
