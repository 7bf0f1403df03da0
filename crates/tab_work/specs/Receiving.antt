-- To be believed by whoever relies on it. What a seat of a shared book receives.
use Rattle.std.specs.Prelude.{◌≡◌, true, List, [], ◌∷◌, Option, Some, None}
use Rattle.tab_history.specs.declared.event.Act.{Act}
use Rattle.tab_history.specs.declared.event.Event.{Event}
use Rattle.tab_history.specs.Answers.{is_open}
use Rattle.tab_core.specs.OpenSession.{OpenSession}
use Rattle.tab_book.specs.Entries.{SeatState}
use Rattle.tab_book.specs.Receipts.{Slip, Receives}

-- a session is handed out for an Open alone, and nothing of it was given yet
abbrev pub HandsOut : Act → Option OpenSession → Type 0
HandsOut act None = Unit {0}
HandsOut act (Some session) = (is_open act ≡ true) × (session.state.given ≡ 0)

-- the receipt, once what was handed out was taken
abbrev pub spent : Slip → Slip
spent slip = record slip { held = None }

-- the receipts that the seat got for these events, one after another
abbrev pub Follows : SeatState → List Event → List Slip → SeatState → Type 0
Follows seat [] [] seat' = seat' ≡ seat
Follows seat [] (slip ∷ slips) seat' = ⊥
Follows seat (event ∷ events) [] seat' = ⊥
Follows seat (event ∷ events) (slip ∷ slips) seat' = (mid : SeatState) × Receives seat event slip mid × Follows mid events slips seat'
