-- To be believed by whoever relies on it. What a core answers that was recovered, beside the one that was lost.
use Rattle.std.specs.Prelude.{ℕ, ◌≡◌, ◌↔◌, List, [], true, int_le, Ok}
use Rattle.tab_history.specs.Answers.{Told}
use Rattle.tab_history.specs.Bases.{Base}
use Rattle.tab_history.specs.Histories.{Entry, world_of}
use Rattle.tab_history.specs.Legal.{LegalAlone}
use Rattle.tab_history.specs.declared.event.Event.{Event}
use Rattle.tab_core.specs.Stores.{CoreContents, base_of}
use Rattle.tab_core.specs.Recording.{RefinesHistory}
use Rattle.tab_lasting.specs.Recovered.{MovesClock, behind}
use Rattle.tab_journal.specs.Journals.{AreEntries}
use Rattle.tab_journal.specs.Stretches.{kept_events}
use Rattle.tab_recovery.specs.Recovering.{Recovers}

-- the core's own history, without an entry: the events that are legal there are those that the core answers so
abbrev pub answers : CoreContents → List Entry → Type 0
answers core es = LegalAlone (world_of (base_of core)) es

-- ---- The law: from a base went a history, and the core that refined it is lost. Of that history the body of a journal is what is to be kept, and a
-- core that refines the base did it again. From the first event on that moves the clock and is at or above the lost clock, both answer the same.
abbrev pub RecoveredCoreAnswersAsLost : Type 0
RecoveredCoreAnswersAsLost = (base : Base) (es : List Entry) (lost loaded recovered : CoreContents) (body : List ℕ) (count : ℕ)
    → RefinesHistory lost base es
    → RefinesHistory loaded base []
    → AreEntries body (kept_events (world_of base) es)
    → Recovers loaded body (Ok count) recovered
    → (e : Event) (reply : Told) → MovesClock e reply → int_le lost.clock e.moment ≡ true
    → (later : List Entry) → answers lost (behind e reply later) ↔ answers recovered (behind e reply later)
