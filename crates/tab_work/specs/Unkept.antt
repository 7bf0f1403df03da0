-- To be believed by whoever relies on it. A connection over a shared book whose receipts aren't kept.
use Rattle.std.specs.Prelude.{ℕ, ℤ, List, [], Result}
use Rattle.tab_io.specs.declared.reading.Input.{Ghosts as InputGhosts}
use Rattle.tab_io.specs.declared.writing.Output.{Ghosts as OutputGhosts}
use Rattle.tab_history.specs.Answers.{Told}
use Rattle.tab_book.specs.Entries.{SeatState}
use Rattle.tab_book.specs.Receipts.{Slip}
use Rattle.tab_serve.specs.declared.fault.ServeFault.{ServeFault}
use Rattle.tab_wire.specs.declared.request.Request.{Request}
use Rattle.tab_work.specs.declared.shared_service.SharedService.{SharedService}
use Rattle.tab_work.specs.Shares.{Shares}
use Rattle.tab_work.specs.SharedAnswers.{seated, slots_of, LentSame}
use Rattle.tab_work.specs.Sharing.{SharesAll}

-- what it may tell this user of this request, and what it is afterwards: the receipts are those of this request alone
pub record Forgets {L R M G : Type 0} (gives : M → ℤ → M → Type 0) (old : SharedService L R M G) (user : List ℕ) (request : Request) (reply : Told) (new : SharedService L R M G) : Type 0 where
  pub shares : Shares gives (record (seated old) { receipts = [] }) (slots_of old) user request reply (seated new) (slots_of new)
  pub lent : LentSame old new

-- the whole connection: there were receipts, with which it is as if they had been kept
abbrev pub ForgetsAll : {R W M : Type 0} → InputGhosts R → OutputGhosts W → (M → ℤ → M → Type 0) → SeatState → M → R → W → SeatState → M → R → W → Result (Unit {0}) ServeFault → Type 0
ForgetsAll i o gives seat moments input output seat' moments' input' output' r =
    (slips : List Slip) × SharesAll i o gives (record { seat = seat; receipts = []; moments = moments }) input output (record { seat = seat'; receipts = slips; moments = moments' }) input' output' r
