-- For proofs. What is left where one entry is done again.
use Rattle.std.specs.Prelude.{ℕ, ◌≡◌, ◌≢◌, List, [], ◌∷◌, Some, None, Result, Ok, Err}
use Rattle.tab_history.specs.Answers.{Told}
use Rattle.tab_history.specs.declared.event.Event.{Event}
use Rattle.tab_history.specs.declared.reply.Refusal.TheVariants as refusal
use Rattle.tab_history.specs.declared.reply.Reply.TheVariants.{Done, Refused}
use Rattle.tab_core.specs.Stores.{CoreContents}
use Rattle.tab_core.specs.Recording.{entry_of}
use Rattle.tab_journal.specs.Reading.{entry_at}
use Rattle.tab_recovery.specs.declared.fault.ReplayFault.{ReplayFault}
use Rattle.tab_recovery.specs.declared.fault.ReplayFault.TheVariants.{Unfit, Bad, NoMemory}
use Rattle.tab_recovery.specs.Recovering.{GoesOn}

-- what a replay makes of what an event was told
abbrev pub judged : Told → Result (Unit {0}) ReplayFault
judged Done = Ok tt
judged (Refused refusal.NoMemory) = Err NoMemory
judged reply = Err Unfit

-- the event was done; or memory lacked, and there was none; or it was told something else
abbrev pub Redoes : CoreContents → Event → CoreContents → Result (Unit {0}) ReplayFault → Type 0
Redoes old e new (Ok u) = GoesOn old (entry_of e Done ∷ []) new
Redoes old e new (Err NoMemory) = GoesOn old [] new
Redoes old e new (Err Unfit) = (reply : Told) × (reply ≢ Done) × GoesOn old (entry_of e reply ∷ []) new
Redoes old e new (Err Bad) = ⊥

-- an entry stands in front of these bytes, with these behind it, and was told so
pub record Takes (old : CoreContents) (bytes rest : List ℕ) (reply : Told) (new : CoreContents) : Type 0 where
  pub event : Event
  pub read : entry_at bytes ≡ Some (event, rest)
  pub goes : GoesOn old (entry_of event reply ∷ []) new

-- the entry in front of some bytes is done, and these are left; or none stands there; or it was told something else; or memory lacked
abbrev pub TakesNext : CoreContents → List ℕ → CoreContents → Result (List ℕ) ReplayFault → Type 0
TakesNext old bytes new (Ok rest) = Takes old bytes rest Done new
TakesNext old bytes new (Err Bad) = (entry_at bytes ≡ None) × GoesOn old [] new
TakesNext old bytes new (Err Unfit) = (rest : List ℕ) × (reply : Told) × (reply ≢ Done) × Takes old bytes rest reply new
TakesNext old bytes new (Err NoMemory) = GoesOn old [] new
