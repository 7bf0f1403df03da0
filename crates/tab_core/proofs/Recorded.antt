-- From a step to what it means for a recorded history.
use Rattle.std.proofs.Common.{List, [], Option}
use Rattle.tab_session.specs.OpenSession.{OpenSession}
use Rattle.tab_history.specs.Bases.{Base}
use Rattle.tab_history.specs.Answers.{session_of, session_list}
use Rattle.tab_history.specs.Histories.{Entry, world_of, journal}
use Rattle.tab_history.specs.declared.event.Act.{Act}
use Rattle.tab_history.specs.declared.event.Event.{Event}
use Rattle.tab_history.specs.declared.reply.Reply.{Reply}
use Rattle.tab_history.specs.declared.reply.Reply.TheVariants.{Opened}
use Rattle.tab_store.specs.Parts.{TabletMerge}
use Rattle.tab_store.specs.Stores.{CoreContents, base_of}
use Rattle.tab_core.specs.Stepping.{HandsOut, Steps, StepsWith, IsCore}
use Rattle.tab_core.specs.Recording.{RefinesHistory, IsLegalFrom, ShowsAnswer, StepsOn}
use Rattle.tab_core.proofs.Steps.{itself}

-- no event is a legal history
pub legal_empty : (base : Base) → IsLegalFrom base []
unfolding IsLegalFrom
legal_empty base = tt

-- what a core holds is refined by it
pub begun : (h : CoreContents) → IsCore h → RefinesHistory h (base_of h) []
unfolding RefinesHistory
begun h core = itself h core

shown : (base : Base) (h : List Entry) (act : Act) (reply : Reply OpenSession TabletMerge) → HandsOut reply (session_list base (journal (world_of base) h) act) → ShowsAnswer base h act (session_of reply)
unfolding ShowsAnswer
shown base h act (Opened session) hands = hands
shown base h act reply hands = tt

-- both sides of a step, in those words
pub steps_on : (old new : CoreContents) (given : Option TabletMerge) (e : Event) (reply : Reply OpenSession TabletMerge) → Steps (base_of old) e reply (base_of new) → StepsWith old given e reply new → StepsOn old given e reply new
unfolding RefinesHistory IsLegalFrom
steps_on old new given e reply steps exact = record {
  legal = λ base h refines legal. steps.legal (world_of base) h refines legal;
  refines = λ base h refines. steps.refines (world_of base) h refines;
  hands = λ base h refines. shown base h e.act reply (steps.hands (world_of base) h refines);
  exact = exact;
}
