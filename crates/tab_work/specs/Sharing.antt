-- To be believed by whoever relies on it. Whole connections over a shared book: what becomes of the seat, its receipts and the moments, and of what is read and written.
use Rattle.std.specs.Prelude.{ℕ, ℤ, ◌≡◌, ◌⊎◌, List, [], ◌∷◌, ◌++◌, map, Option, Some, None, IfSome, Result, Ok, Err}
use Rattle.tab_io.specs.declared.reading.Input.{Ghosts as InputGhosts}
use Rattle.tab_io.specs.declared.writing.Output.{Ghosts as OutputGhosts}
use Rattle.tab_key.specs.Records.{Cell}
use Rattle.tab_history.specs.declared.event.Event.{Event}
use Rattle.tab_history.specs.declared.reply.Refusal.TheVariants.{NoMemory}
use Rattle.tab_history.specs.declared.reply.Reply.TheVariants.{Refused}
use Rattle.tab_core.specs.OpenSession.{OpenSession}
use Rattle.tab_core.specs.Recording.{entry_of}
use Rattle.tab_book.specs.HandedOut.{session_in}
use Rattle.tab_book.specs.Receipts.{Slip}
use Rattle.tab_wire.specs.Stream.{Piece, pieces_of, AtFront}
use Rattle.tab_wire.specs.Talking.{Talk, new_talk, Exchange, Talks, moments_of, replied}
use Rattle.tab_serve.specs.declared.fault.ServeFault.{ServeFault}
use Rattle.tab_serve.specs.declared.fault.ServeFault.TheVariants.{Read, Write}
use Rattle.tab_serve.specs.Progress.{IsLeftButPart, IsWritten, IsWrittenPart}
use Rattle.tab_serve.specs.Serving.{Gave}
use Rattle.tab_work.specs.Receiving.{spent, Follows}
use Rattle.tab_work.specs.Shares.{Seated}

-- ---- the receipts of exchanges
-- a session that is handed out has this whole list ahead
abbrev pub HasList : List Cell → Option OpenSession → Type 0
HasList all None = Unit {0}
HasList all (Some session) = session.state ≡ record { all = all; given = 0 }

-- the exchange is this event, which took its moment; what was told is the reply in the receipt, and the connection's session is the one handed out
pub record IsBooked (x : Exchange) (event : Event) (slip : Slip) : Type 0 where
  pub moment : x.moments ≡ event.moment ∷ []
  pub step : x.entries ≡ entry_of event slip.entry.reply ∷ []
  pub list : HasList x.all (session_in slip.held)

-- the exchange is an event that took its moment, and for which memory lacked
pub record IsLacking (x : Exchange) : Type 0 where
  pub event : Event
  pub moment : x.moments ≡ event.moment ∷ []
  pub step : x.entries ≡ entry_of event (Refused NoMemory) ∷ []

-- These are the events of the exchanges, in order, with their receipts. What takes no moment is none, and one for which memory lacked didn't happen.
abbrev pub AreBooked : List Exchange → List Event → List Slip → Type 0
AreBooked [] events slips = (events ≡ []) × (slips ≡ [])
AreBooked (x ∷ xs) events slips =
    ((x.moments ≡ []) × AreBooked xs events slips) ⊎ (IsLacking x × AreBooked xs events slips)
    ⊎ ((event : Event) × (slip : Slip) × (events' : List Event) × (slips' : List Slip)
    × (events ≡ event ∷ events') × (slips ≡ slip ∷ slips') × IsBooked x event slip × AreBooked xs events' slips')

-- ---- what some pieces of a stream came to
-- These pieces were answered, and their replies are this text.
pub record SharesPieces {M : Type 0} (gives : M → ℤ → M → Type 0) (old : Seated M) (pieces : List Piece) (text : List ℕ) (new : Seated M) : Type 0 where
  -- what each of them asked, which step that was, and what was told; a connection begins without a user and without sessions
  pub exchanges : List Exchange
  pub last : Talk
  pub talks : Talks new_talk pieces exchanges last
  pub replies : text ≡ replied exchanges
  -- the moments of the events, in order
  pub moments : Gave gives old.moments (moments_of exchanges) new.moments
  -- the events, with the receipts that the seat got for them, one after another; these were added, with nothing to be taken
  pub events : List Event
  pub slips : List Slip
  pub booked : AreBooked exchanges events slips
  pub follows : Follows old.seat events slips new.seat
  pub receipts : new.receipts ≡ old.receipts ++ map spent slips

-- ---- whole connections
-- All pieces of the stream were answered, and all replies written, with nothing held. Where reading failed, all pieces in front of what is left
-- were answered, but for a part of one that is dropped, and all their replies are written, with nothing held. Where writing failed, the first
-- pieces were, and a beginning of their replies is written.
abbrev pub SharesAll : {R W M : Type 0} → InputGhosts R → OutputGhosts W → (M → ℤ → M → Type 0) → Seated M → R → W → Seated M → R → W → Result (Unit {0}) ServeFault → Type 0
SharesAll i o gives old input output new input' output' (Ok u) =
    IfSome (i.remaining input) (λ bytes. (text : List ℕ) × SharesPieces gives old (pieces_of bytes) text new × IsWritten o output output' text) × (o.held output' ≡ [])
SharesAll i o gives old input output new input' output' (Err Read) =
    IfSome (i.remaining input) (λ bytes. (pieces : List Piece) × (behind : List ℕ) × (text : List ℕ)
    × IsLeftButPart (i.remaining input') behind × (pieces_of bytes ≡ pieces ++ pieces_of behind) × AtFront bytes pieces behind × SharesPieces gives old pieces text new × IsWritten o output output' text) × (o.held output' ≡ [])
SharesAll i o gives old input output new input' output' (Err Write) =
    IfSome (i.remaining input) (λ bytes. (pieces : List Piece) × (more : List Piece) × (text : List ℕ)
    × (pieces_of bytes ≡ pieces ++ more) × SharesPieces gives old pieces text new × IsWrittenPart o output output' text)
