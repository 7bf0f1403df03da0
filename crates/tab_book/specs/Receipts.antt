-- To be believed by whoever relies on it. Receipts, and what an event does to a book.
use Rattle.std.specs.Prelude.{ℕ, ◌≡◌, ◌+◌, ◌-◌, ◌≤◌, List, [], ◌∷◌, ◌++◌, Option, Some, slice_get}
use Rattle.tab_history.specs.Answers.{told_of}
use Rattle.tab_history.specs.declared.event.Event.{Event}
use Rattle.tab_history.specs.declared.reply.Reply.{Reply}
use Rattle.tab_core.specs.OpenSession.{OpenSession}
use Rattle.tab_core.specs.Parts.{TabletMerge}
use Rattle.tab_core.specs.Recording.{StepsOn}
use Rattle.tab_book.specs.declared.held.Held.{Held}
use Rattle.tab_book.specs.HandedOut.{held_of}
use Rattle.tab_book.specs.Entries.{Posted, posted, SeatState, place, Record, next_of}

-- a receipt: the number of an entry, the entry, and the session or the job that was handed out and not taken yet
pub record Slip : Type 0 where
  pub number : ℕ
  pub entry : Posted
  pub held : Option Held

-- the receipt's entry stands at its number among these entries, the first of which has the number that is given
abbrev pub StandsIn : ℕ → List Posted → Slip → Type 0
StandsIn first entries slip = (first ≤ slip.number) × (slice_get entries (slip.number - first) ≡ Some slip.entry)

-- it stands so in the book
abbrev pub Has : Record → Slip → Type 0
Has book slip = StandsIn book.first book.entries slip

-- The receipt of a seat's event: it names the seat and the event, its number is above all that the seat has seen, nothing was taken from it,
-- and the seat counts one entry more.
pub record Receives (seat : SeatState) (event : Event) (slip : Slip) (seat' : SeatState) : Type 0 where
  pub entry : slip.entry ≡ posted seat.number event slip.entry.reply
  pub above : seat.seen ≤ slip.number
  pub counts : seat' ≡ place seat.number (slip.number + 1) (seat.count + 1)
  pub whole : (reply : Reply OpenSession TabletMerge) × (slip.entry.reply ≡ told_of reply) × (slip.held ≡ held_of reply)

-- An event of a seat, and the merge that came with it: the history grows by the receipt's entry, and the core goes on by its step, whose reply
-- the entry has, and whose session or job the receipt.
pub record Applies (book : Record) (seat : SeatState) (given : Option TabletMerge) (event : Event) (slip : Slip) (book' : Record) (seat' : SeatState) : Type 0 where
  pub receives : Receives seat event slip seat'
  pub number : slip.number ≡ next_of book
  pub grows : book' ≡ record book { entries = book.entries ++ slip.entry ∷ []; core = book'.core }
  pub steps : (reply : Reply OpenSession TabletMerge) × (slip.entry.reply ≡ told_of reply) × (slip.held ≡ held_of reply) × StepsOn book.core given event reply book'.core
