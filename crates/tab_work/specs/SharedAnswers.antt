-- For proofs. A seat of a shared book that answers the requests of one connection: what it is seen to hold, what it told last, and what one request does.
use Rattle.std.specs.Prelude.{ℕ, ℤ, ◌≡◌, ◌⊎◌, ◌-◌, cond, List, [], ◌∷◌, ◌++◌, length, Option, Some, None, slice_get}
use Rattle.tab_history.specs.declared.event.Event.{Event}
use Rattle.tab_history.specs.declared.reply.Refusal.TheVariants.{NoMemory}
use Rattle.tab_history.specs.declared.reply.Reply.TheVariants.{Refused}
use Rattle.tab_history.specs.Answers.{Told}
use Rattle.tab_core.specs.SessionState.{SessionState}
use Rattle.tab_core.specs.OpenSession.{OpenSession}
use Rattle.tab_book.specs.HandedOut.{session_in}
use Rattle.tab_book.specs.Receipts.{Slip, Receives}
use Rattle.tab_wire.specs.declared.request.Request.{Request}
use Rattle.tab_work.specs.declared.shared_service.SharedService.{SharedService}
use Rattle.tab_work.specs.Receiving.{HandsOut, spent}
use Rattle.tab_work.specs.Shares.{Seated, Shares}

-- the seat, the receipts and the moments that are lent to it
abbrev pub seated : {L R M G : Type 0} → SharedService L R M G → Seated M
seated s = record { seat = s.seat.now; receipts = s.receipts.now.items; moments = s.moments.now }

-- the sessions that are lent to it
abbrev pub slots_of : {L R M G : Type 0} → SharedService L R M G → List (Option SessionState)
slots_of s = s.slots.now

-- the reply in the receipt, or the other one where there is none
abbrev pub reply_or : Told → Option Slip → Told
reply_or other None = other
reply_or other (Some slip) = slip.entry.reply

-- the reply in the last receipt, or the other one where there is none
abbrev pub last_reply : Told → List Slip → Told
last_reply other slips = reply_or other (slice_get slips (length slips - 1))

-- what it told last: the reply in the last receipt, or one of its own
abbrev pub told_by : {L R M G : Type 0} → SharedService L R M G → Told
told_by s = cond s.booked (last_reply s.reply.now s.receipts.now.items) s.reply.now

-- the same seat, the same receipts and the same moments are lent to it
pub record LentSame {L R M G : Type 0} (old new : SharedService L R M G) : Type 0 where
  pub seat : new.seat.ghost_name ≡ old.seat.ghost_name
  pub receipts : new.receipts.ghost_name ≡ old.receipts.ghost_name
  pub moments : new.moments.ghost_name ≡ old.moments.ghost_name

-- what it may tell this user of this request, and what it is afterwards
pub record SharedAnswers {L R M G : Type 0} (gives : M → ℤ → M → Type 0) (old : SharedService L R M G) (user : List ℕ) (request : Request) (reply : Told) (new : SharedService L R M G) : Type 0 where
  pub shares : Shares gives (seated old) (slots_of old) user request reply (seated new) (slots_of new)
  pub lent : LentSame old new

-- ---- the steps of an act
-- this is told, and all else stays
pub record Tells {L R M G : Type 0} (old : SharedService L R M G) (reply : Told) (new : SharedService L R M G) : Type 0 where
  pub told : told_by new ≡ reply
  pub same : seated new ≡ seated old
  pub slots : slots_of new ≡ slots_of old
  pub lent : LentSame old new

-- this is the next moment, and all else stays
pub record Takes {M : Type 0} (gives : M → ℤ → M → Type 0) (old : Seated M) (moment : ℤ) (new : Seated M) : Type 0 where
  pub gave : gives old.moments moment new.moments
  pub seat : new.seat ≡ old.seat
  pub receipts : new.receipts ≡ old.receipts

-- The event was the seat's next one: its reply is told, its session handed on, and the receipt was added, with nothing to be taken.
pub record Adds {M : Type 0} (old : Seated M) (event : Event) (reply : Told) (session : Option OpenSession) (new : Seated M) : Type 0 where
  pub slip : Slip
  pub receives : Receives old.seat event slip new.seat
  pub hands : HandsOut event.act (session_in slip.held)
  pub told : reply ≡ slip.entry.reply
  pub handed : session ≡ session_in slip.held
  pub receipts : new.receipts ≡ old.receipts ++ spent slip ∷ []
  pub moments : new.moments ≡ old.moments

-- memory lacked for it, and it didn't happen
pub record Misses {M : Type 0} (old : Seated M) (reply : Told) (session : Option OpenSession) (new : Seated M) : Type 0 where
  pub told : reply ≡ Refused NoMemory
  pub handed : session ≡ None
  pub same : new ≡ old

-- the book did the event, or memory lacked
abbrev pub Tries : {M : Type 0} → Seated M → Event → Told → Option OpenSession → Seated M → Type 0
Tries old event reply session new = Adds old event reply session new ⊎ Misses old reply session new
