-- For proofs. How a scan reads the session that it opened: the steps, and what they print.
use Rattle.std.specs.Prelude.{ℕ, zero, suc, ◌≡◌, ◌≤◌, ◌*◌, ◌/◌, List, [], ◌∷◌, length, take, drop}
use Rattle.tab_key.specs.Records.{Cell}
use Rattle.tab_history.specs.declared.event.Step.TheVariants.{Next, Close}
use Rattle.tab_history.specs.declared.reply.Refusal.TheVariants.{NoMemory}
use Rattle.tab_history.specs.declared.reply.Reply.TheVariants.{Done, Refused, Batch}
use Rattle.tab_history.specs.Histories.{Entry}
use Rattle.tab_replies.specs.Texts.{scan_text, lacking_text}

-- how many cells a full batch has
abbrev pub batch_length : ℕ
batch_length = 1000

-- how reading ends: behind the last cell, or for want of memory behind so many full batches
pub data ReadingEnd : Type 0 where
  AllRead : ReadingEnd
  Lacking : ℕ → ReadingEnd

-- there are so many full batches
abbrev pub CanEnd : List Cell → ReadingEnd → Type 0
CanEnd all AllRead = Unit {0}
CanEnd all (Lacking k) = batch_length * k ≤ length all

-- what is printed: all cells and an end, or those of the full batches and that memory lacked
abbrev pub reading_text : List Cell → ReadingEnd → List ℕ
reading_text all AllRead = scan_text all
reading_text all (Lacking k) = lacking_text (take (batch_length * k) all)

-- a text that reading the cells may print
abbrev pub IsReadingText : List Cell → List ℕ → Type 0
IsReadingText all text = (end : ReadingEnd) × CanEnd all end × (text ≡ reading_text all end)

-- the k-th batch, counted from 0
abbrev pub batch_at : List Cell → ℕ → List Cell
batch_at all k = take batch_length (drop (batch_length * k) all)

-- the steps that take the first k batches of the session in the slot, the last one first
abbrev pub batches : List ℕ → ℕ → List Cell → ℕ → List Entry
batches user slot all zero = []
batches user slot all (suc k) = record { step = Next user slot batch_length; reply = Batch (batch_at all k) } ∷ batches user slot all k

-- the steps of a reading, the last one first: batches until one isn't full, or until memory lacks for one, and then a close
abbrev pub reading_steps : List ℕ → ℕ → List Cell → ReadingEnd → List Entry
reading_steps user slot all AllRead = record { step = Close user slot; reply = Done } ∷ batches user slot all (suc (length all / batch_length))
reading_steps user slot all (Lacking k) = record { step = Close user slot; reply = Done } ∷ record { step = Next user slot batch_length; reply = Refused NoMemory } ∷ batches user slot all k
