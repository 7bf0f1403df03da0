-- To be believed by whoever relies on it. What a core answers that was made of the kept entries, beside the one that was lost.
use Rattle.std.specs.Prelude.{ℤ, ◌≡◌, ◌↔◌, List, [], ◌∷◌, ◌++◌, true, int_le}
use Rattle.std.specs.Int.{int_max}
use Rattle.tab_history.specs.Answers.{Told}
use Rattle.tab_history.specs.Histories.{Entry, World, world_after, clock_after}
use Rattle.tab_history.specs.Legal.{LegalAlone}
use Rattle.tab_history.specs.Refinement.{Refines}
use Rattle.tab_history.specs.declared.event.Event.{Event as TheEvent}
use Rattle.tab_history.specs.declared.event.Step.TheVariants.{Event}
use Rattle.tab_lasting.specs.Lasting.{lasting}

-- an event that was answered so moves the clock up to its moment
abbrev pub MovesClock : TheEvent → Told → Type 0
MovesClock e reply = (clock : ℤ) → clock_after (Event e) reply clock ≡ int_max clock e.moment

-- these entries, behind this event
abbrev pub behind : TheEvent → Told → List Entry → List Entry
behind e reply es = es ++ record { step = Event e; reply = reply } ∷ []

-- ---- The law: of two cores, one that refines what a history leaves and one that refines what its kept entries leave, the same is answered, from
-- the first event on that moves the clock and is at or above the clock of the former.
abbrev pub RecoveredAnswersAsLost : Type 0
RecoveredAnswersAsLost = (w : World) (es : List Entry) (lost recovered : World)
    → Refines lost (world_after w es) → Refines recovered (world_after w (lasting w es))
    → (e : TheEvent) (reply : Told) → MovesClock e reply → int_le lost.clock e.moment ≡ true
    → (later : List Entry) → LegalAlone lost (behind e reply later) ↔ LegalAlone recovered (behind e reply later)
