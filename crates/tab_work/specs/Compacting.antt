-- To be believed by whoever relies on it. What a compactor asks, and what becomes of its seat.
use Rattle.std.specs.Prelude.{ℕ, ◌≡◌, Bool, true, false, List, [], ◌∷◌, ◌++◌, map, All}
use Rattle.tab_history.specs.declared.event.Act.{Act}
use Rattle.tab_history.specs.declared.event.Act.TheVariants.{SplitBySize, Splits, Begin, Install}
use Rattle.tab_history.specs.declared.event.Event.{Event}
use Rattle.tab_book.specs.Entries.{SeatState}
use Rattle.tab_book.specs.Receipts.{Slip, Receives}
use Rattle.tab_work.specs.declared.compactor_seat.CompactorSeat.{CompactorSeat}
use Rattle.tab_work.specs.declared.compactor.Compactor.{Compactor}
use Rattle.tab_work.specs.Receiving.{spent, Follows}

-- who asks by himself, his seat, and the receipts that it got
pub record Asking : Type 0 where
  pub user : List ℕ
  pub seat : SeatState
  pub receipts : List Slip

abbrev pub asking : {L R M : Type 0} → CompactorSeat L R M → Asking
asking a = record { user = a.user; seat = a.seat; receipts = a.receipts.items }

abbrev pub compacting : {L R M G : Type 0} → Compactor L R M G → Asking
compacting c = asking c.compactor_seat

-- the acts that compact tablets, split them, or tell where they end: none of them changes what a scan is answered
abbrev pub compacts : Act → Bool
compacts (Begin t row kind) = true
compacts (Install t given) = true
compacts (SplitBySize t row limit) = true
compacts (Splits t) = true
compacts _ = false

-- what this user asks, and compacts
abbrev pub IsAsked : List ℕ → Event → Type 0
IsAsked user event = (event.user ≡ user) × (compacts event.act ≡ true)

-- such an event of the user was the seat's next one; its receipt isn't kept yet
pub record Asks (old : Asking) (slip : Slip) (new : Asking) : Type 0 where
  pub event : Event
  pub by : event.user ≡ old.user
  pub kind : compacts event.act ≡ true
  pub receives : Receives old.seat event slip new.seat
  pub user : new.user ≡ old.user
  pub receipts : new.receipts ≡ old.receipts

-- the receipt is kept, with nothing to be taken
abbrev pub Keeps : Asking → Slip → Asking → Type 0
Keeps old slip new = new ≡ record old { receipts = old.receipts ++ spent slip ∷ [] }

-- Such events of the user were the seat's next ones, one after another; their receipts are kept, with nothing to be taken.
pub record Compacts (old new : Asking) : Type 0 where
  pub user : new.user ≡ old.user
  pub events : List Event
  pub slips : List Slip
  pub asked : All (IsAsked old.user) events
  pub follows : Follows old.seat events slips new.seat
  pub receipts : new.receipts ≡ old.receipts ++ map spent slips
