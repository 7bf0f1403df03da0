-- To be believed by whoever relies on it. What each step of a run does to the sessions of its users and to the jobs.
use Rattle.std.specs.Prelude.{ℕ, ◌≡◌, ◌⊎◌, true, false, List, [], ◌∷◌, ◌++◌, Option, Some, None, bytes_eq}
use Rattle.tab_key.specs.declared.limited_part.LimitedPart.TheVariants.{Sessions}
use Rattle.tab_history.specs.declared.event.Event.{Event}
use Rattle.tab_history.specs.declared.event.Step.{Step}
use Rattle.tab_history.specs.declared.reply.Refusal.TheVariants.{NoMemory, TooLarge}
use Rattle.tab_history.specs.declared.reply.Reply.{Reply}
use Rattle.tab_history.specs.declared.reply.Reply.TheVariants.{Refused}
use Rattle.tab_history.specs.Bases.{Base}
use Rattle.tab_history.specs.Answers.{Told, told_of, session_of}
use Rattle.tab_cells.specs.SessionState.{SessionState}
use Rattle.tab_session.specs.OpenSession.{OpenSession}
use Rattle.tab_history.specs.Histories.{Entry, World, world_of, world_after, moves_of, jobs_of}
use Rattle.tab_history.specs.Legal.{Legal}
use Rattle.tab_history.specs.Refinement.{Refines}
use Rattle.tab_store.specs.Stores.{CoreContents, base_of}
use Rattle.tab_store.specs.Parts.{TabletMerge}
use Rattle.tab_core.specs.Slots.{SlotsAre, are_full}
use Rattle.tab_core.specs.Sessions.{Keeping, kept_of}
use Rattle.tab_core.specs.declared.job_slots.JobSlot.{JobSlot}
use Rattle.tab_core.specs.JobSlots.{JobsAre, GoesExactly}
use Rattle.tab_core.specs.Stepping.{Steps, StepsWith}

-- the slots of this user
abbrev pub slots_of : Keeping → List ℕ → List (Option SessionState)
slots_of os user = (kept_of os user).numbered

-- all other users have the slots that they had
abbrev pub LeavesOthers : List ℕ → Keeping → Keeping → Type 0
LeavesOthers user old new = (other : List ℕ) → bytes_eq user other ≡ false → slots_of new other ≡ slots_of old other

-- each user's slots are those of the history
abbrev pub OwnersRefine : Keeping → World → List Entry → Type 0
OwnersRefine os w h = (user : List ℕ) → SlotsAre (moves_of w user h) (slots_of os user)

-- Whatever legal history core, sessions and jobs refined, they refine the one with this entry, which is legal.
abbrev pub Lengthens : Base → Keeping → List JobSlot → Step → Told → Base → Keeping → List JobSlot → Type 0
Lengthens old os jobs step reply new os' jobs' = (w : World) (h : List Entry) → Refines (world_of old) (world_after w h) → OwnersRefine os w h → JobsAre (jobs_of h) jobs → Legal w h
    → let longer : List Entry = record { step = step; reply = reply } ∷ h in Refines (world_of new) (world_after w longer) × OwnersRefine os' w longer × JobsAre (jobs_of longer) jobs' × Legal w longer

-- A step of a run: histories go on by it, and so does the core, exactly.
pub record RunsOn (old : CoreContents) (os : Keeping) (jobs : List JobSlot) (step : Step) (reply : Told) (new : CoreContents) (os' : Keeping) (jobs' : List JobSlot) : Type 0 where
  -- each legal history that core, sessions and jobs refined
  pub histories : Lengthens (base_of old) os jobs step reply (base_of new) os' jobs'
  -- an event is an exact step, with the merge of its slot's job if it names one; and what is none leaves the core as it was
  pub exact : GoesExactly old jobs (record { step = step; reply = reply } ∷ []) new jobs'

-- the slots with the session that was handed out, if there is one: its list, and how many cells were given
abbrev pub kept_with : List (Option SessionState) → Option OpenSession → List (Option SessionState)
kept_with slots None = slots
kept_with slots (Some session) = slots ++ Some session.state ∷ []

-- the core answered the event, exactly, and a session that it handed out is kept
abbrev pub AnswersIn : CoreContents → List (Option SessionState) → Event → Told → CoreContents → List (Option SessionState) → Type 0
AnswersIn old slots event reply new slots' = (r : Reply OpenSession TabletMerge) × Steps (base_of old) event r (base_of new) × StepsWith old None event r new × (reply ≡ told_of r) × (slots' ≡ kept_with slots (session_of r))

-- an Open of a user with these slots: all stays where they are full or memory lacks, and otherwise the core answers
abbrev pub OpensIn : CoreContents → List (Option SessionState) → Event → Told → CoreContents → List (Option SessionState) → Type 0
OpensIn old slots event reply new slots' =
    ((are_full slots ≡ true) × (reply ≡ Refused (TooLarge Sessions)) × (new ≡ old) × (slots' ≡ slots))
    ⊎ ((reply ≡ Refused NoMemory) × (new ≡ old) × (slots' ≡ slots))
    ⊎ ((are_full slots ≡ false) × AnswersIn old slots event reply new slots')
