-- To be believed by whoever relies on it. One request of a connection over a shared book: what it is told, and what it leaves.
use Rattle.std.specs.Prelude.{ℕ, ℤ, ◌≡◌, ◌⊎◌, true, false, ◌&&◌, List, [], ◌∷◌, ◌++◌, Option}
use Rattle.tab_key.specs.declared.limited_part.LimitedPart.TheVariants.{Sessions}
use Rattle.tab_history.specs.declared.event.Act.{Act}
use Rattle.tab_history.specs.declared.reply.Refusal.TheVariants.{NoMemory, TooLarge}
use Rattle.tab_history.specs.declared.reply.Reply.TheVariants.{Done, Refused}
use Rattle.tab_history.specs.Answers.{Told, is_open}
use Rattle.tab_core.specs.SessionState.{SessionState}
use Rattle.tab_core.specs.Slots.{are_full, NextFrom, ManyFrom, CloseFrom}
use Rattle.tab_core.specs.Owners.{kept_with}
use Rattle.tab_book.specs.Entries.{SeatState}
use Rattle.tab_book.specs.HandedOut.{session_in}
use Rattle.tab_book.specs.Receipts.{Slip, Receives}
use Rattle.tab_wire.specs.declared.request.Request.{Request}
use Rattle.tab_wire.specs.declared.request.Request.TheVariants as asks
use Rattle.tab_serve.specs.Serves.{asked_at}
use Rattle.tab_work.specs.Receiving.{HandsOut, spent}

-- a seat, the receipts that were added for it, and where moments come from
pub record Seated (M : Type 0) : Type 0 where
  pub seat : SeatState
  pub receipts : List Slip
  pub moments : M

-- An Open past the limit of sessions is refused, takes no moment, and doesn't happen.
pub record IsTooMany {M : Type 0} (old : Seated M) (slots : List (Option SessionState)) (act : Act) (reply : Told) (new : Seated M) (slots' : List (Option SessionState)) : Type 0 where
  pub opens : is_open act ≡ true
  pub full : are_full slots ≡ true
  pub told : reply ≡ Refused (TooLarge Sessions)
  pub same : new ≡ old
  pub kept : slots' ≡ slots

-- Any other act takes the next moment. Where memory lacks for it, it doesn't happen, and has no receipt.
pub record Lacks {M : Type 0} (gives : M → ℤ → M → Type 0) (old : Seated M) (slots : List (Option SessionState)) (act : Act) (reply : Told) (new : Seated M) (slots' : List (Option SessionState)) : Type 0 where
  pub room : (is_open act && are_full slots) ≡ false
  pub moment : ℤ
  pub gave : gives old.moments moment new.moments
  pub told : reply ≡ Refused NoMemory
  pub seat : new.seat ≡ old.seat
  pub receipts : new.receipts ≡ old.receipts
  pub kept : slots' ≡ slots

-- Else it is the seat's next event: what is told is the reply in its receipt, which is added, and a session that came with it is kept.
pub record Books {M : Type 0} (gives : M → ℤ → M → Type 0) (old : Seated M) (slots : List (Option SessionState)) (user : List ℕ) (act : Act) (reply : Told) (new : Seated M) (slots' : List (Option SessionState)) : Type 0 where
  pub room : (is_open act && are_full slots) ≡ false
  pub moment : ℤ
  pub gave : gives old.moments moment new.moments
  pub slip : Slip
  pub receives : Receives old.seat (asked_at user moment act) slip new.seat
  pub hands : HandsOut act (session_in slip.held)
  pub told : reply ≡ slip.entry.reply
  pub receipts : new.receipts ≡ old.receipts ++ spent slip ∷ []
  pub kept : slots' ≡ kept_with slots (session_in slip.held)

-- what an act of this user may be told, and what it leaves
abbrev pub DoesAct : {M : Type 0} → (M → ℤ → M → Type 0) → Seated M → List (Option SessionState) → List ℕ → Act → Told → Seated M → List (Option SessionState) → Type 0
DoesAct gives old slots user act reply new slots' =
    IsTooMany old slots act reply new slots' ⊎ Lacks gives old slots act reply new slots' ⊎ Books gives old slots user act reply new slots'

-- what a request of this user may be told, and what it leaves
abbrev pub Shares : {M : Type 0} → (M → ℤ → M → Type 0) → Seated M → List (Option SessionState) → List ℕ → Request → Told → Seated M → List (Option SessionState) → Type 0
Shares gives old slots user (asks.Hello name) reply new slots' = (reply ≡ Done) × (new ≡ old) × (slots' ≡ slots)
Shares gives old slots user (asks.Act act) reply new slots' = DoesAct gives old slots user act reply new slots'
Shares gives old slots user (asks.Next slot n) reply new slots' = NextFrom slots slot n reply slots' × (new ≡ old)
Shares gives old slots user (asks.Many slot ranges) reply new slots' = ManyFrom slots slot ranges reply × (new ≡ old) × (slots' ≡ slots)
Shares gives old slots user (asks.Close slot) reply new slots' = CloseFrom slots slot reply slots' × (new ≡ old)
