-- To be believed by whoever relies on it. What a step of a core means for a history of events that is recorded beside it. The first three words say it of a base and the events
-- since, the newest first; whoever keeps a history needs none of what they stand for.
use Rattle.std.specs.Prelude.{◌≡◌, List, ◌∷◌, Option, Some, None}
use Rattle.tab_session.specs.OpenSession.{OpenSession, opened}
use Rattle.tab_history.specs.Bases.{Base}
use Rattle.tab_history.specs.Answers.{told_of, session_of, session_list}
use Rattle.tab_history.specs.Histories.{Entry, world_of, world_after, journal}
use Rattle.tab_history.specs.Legal.{LegalAlone}
use Rattle.tab_history.specs.Refinement.{Refines}
use Rattle.tab_history.specs.declared.event.Act.{Act}
use Rattle.tab_history.specs.declared.event.Event.{Event}
use Rattle.tab_history.specs.declared.reply.Reply.{Reply}
use Rattle.tab_store.specs.Parts.{TabletMerge}
use Rattle.tab_store.specs.Stores.{CoreContents, base_of}
pub use Rattle.tab_store.specs.Stepping.{StepsExactly, entry_of}
pub use Rattle.tab_core.specs.Stepping.{StepsWith}

-- the core refines what these events leave of the base
unfoldable pub RefinesHistory : CoreContents → Base → List Entry → Type 0
RefinesHistory core base h = Refines (world_of (base_of core)) (world_after (world_of base) h)

-- each of these events was given an answer that is defined there, unless memory lacked for it
unfoldable pub IsLegalFrom : Base → List Entry → Type 0
IsLegalFrom base h = LegalAlone (world_of base) h

-- a session that the act was handed after these events shows the list that is defined there, and gave no batch
unfoldable pub ShowsAnswer : Base → List Entry → Act → Option OpenSession → Type 0
ShowsAnswer base h act None = Unit {0}
ShowsAnswer base h act (Some session) = session ≡ opened (session_list base (journal (world_of base) h) act)

-- What an event, with the merge that came with it, did to a core, for each history that the core refined.
pub record StepsOn (old : CoreContents) (given : Option TabletMerge) (event : Event) (reply : Reply OpenSession TabletMerge) (new : CoreContents) : Type 0 where
  -- a legal history stays legal with this entry
  pub legal : (base : Base) (h : List Entry) → RefinesHistory old base h → IsLegalFrom base h → IsLegalFrom base (entry_of event (told_of reply) ∷ h)
  -- the core refines the history with this entry
  pub refines : (base : Base) (h : List Entry) → RefinesHistory old base h → RefinesHistory new base (entry_of event (told_of reply) ∷ h)
  -- a session that is handed out shows the answer that is defined there
  pub hands : (base : Base) (h : List Entry) → RefinesHistory old base h → ShowsAnswer base h event.act (session_of reply)
  -- and it was an exact step, or none
  pub exact : StepsWith old given event reply new
