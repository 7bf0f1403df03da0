-- To be believed by whoever relies on it. What one step of a core does, seen from the core alone and from every history that it refined.
use Rattle.std.specs.Prelude.{ℕ, ℤ, pos, ◌≡◌, ◌⊎◌, Bool, true, false, List, [], ◌∷◌, ◌++◌, nat_le, is_some, IfSome, Option, Some, None}
use Rattle.tab_cells.specs.declared.compaction.Compaction.{Compaction}
use Rattle.tab_key.specs.Records.{Cell}
use Rattle.tab_key.specs.declared.limited_part.LimitedPart.TheVariants.{Sessions, Numbers}
use Rattle.tab_mutation.specs.Shape.{first_some, when}
use Rattle.tab_mutation.specs.Mutations.{Mutation}
use Rattle.tab_policy.specs.Actions.{table_named}
use Rattle.tab_policy.specs.State.{table_exists, auths_of, IsCaller}
use Rattle.tab_policy.specs.declared.decision.Caller.{Caller}
use Rattle.tab_session.specs.OpenSession.{OpenSession, opened}
use Rattle.tab_history.specs.declared.event.Act.{Act}
use Rattle.tab_history.specs.declared.event.Act.TheVariants.{SetHorizon, Rights as OwnRights, Install}
use Rattle.tab_history.specs.declared.event.Given.TheVariants.{InSlot, ByHand}
use Rattle.tab_history.specs.declared.event.Event.{Event}
use Rattle.tab_history.specs.declared.event.Step.TheVariants.{Event as IsEvent}
use Rattle.tab_history.specs.declared.reply.Refusal.{Refusal}
use Rattle.tab_history.specs.declared.reply.Refusal.TheVariants.{NoMemory, TooLarge, NoSession, NoJob}
use Rattle.tab_history.specs.declared.reply.Reply.{Reply}
use Rattle.tab_history.specs.declared.reply.Reply.TheVariants.{Refused, Opened}
use Rattle.tab_history.specs.Bases.{Base}
use Rattle.tab_history.specs.Settings.{Settings}
use Rattle.tab_history.specs.Changes.{Change, changes_of}
use Rattle.tab_history.specs.Readings.{has_user, settings_of}
use Rattle.tab_history.specs.Checks.{standing, exists_in, user_named, mutation_checks, own_checks, action_of}
use Rattle.tab_history.specs.Answers.{Told, told_of, job_of, told, are_used_up, numbered, granted, session_list}
use Rattle.tab_history.specs.Histories.{Entry, World, world_of, world_after, journal}
use Rattle.tab_history.specs.Legal.{IsAnswer, LegalAlone, LacksMemory, takes_memory}
use Rattle.tab_history.specs.Refinement.{ReadsAlike, Refines}
use Rattle.tab_history.specs.Chains.{GoesRight, HasRoom, NamesNoSlot}
use Rattle.tab_store.specs.Parts.{TabletMerge}
use Rattle.tab_store.specs.Stores.{TableContents, CoreContents, base_of}
use Rattle.tab_store.specs.Stepping.{Compacting, On, work_of, entry_of as entry}
pub use Rattle.tab_store.specs.Stepping.{LaysExactly, StepsExactly, now_at, plain_answer}
use Rattle.tab_store.specs.Rightness.{IsStore}
use Rattle.tab_core.specs.declared.store.Store.{Store}
use Rattle.tab_core.specs.Holding.{held}
use Rattle.tab_core.specs.Bounded.{IsBounded}

-- what this user asks at this moment
abbrev pub asked_at : List ℕ → ℤ → Act → Event
asked_at user moment act = record { user = user; moment = moment; act = act }

-- that this merge be installed in the table t: it comes by hand, and its number is told
abbrev pub installs_at : List ℕ → ℤ → List ℕ → TabletMerge → Event
installs_at user moment t m = asked_at user moment (Install t (ByHand m.merge.number))

-- a session that is handed out shows these cells, and gave no batch
abbrev pub HandsOut : Reply OpenSession TabletMerge → List Cell → Type 0
HandsOut (Opened session) all = session ≡ opened all
HandsOut reply all = Unit {0}

-- What an event did to a core that was old before, as every history sees it that the core refined.
pub record Steps (old : Base) (event : Event) (reply : Reply OpenSession TabletMerge) (new : Base) : Type 0 where
  -- seen from the core alone
  pub right : GoesRight old (entry event (told_of reply)) new
  -- a legal history stays legal with this entry
  pub legal : (w : World) (h : List Entry) → Refines (world_of old) (world_after w h) → LegalAlone w h → LegalAlone w (entry event (told_of reply) ∷ h)
  -- the reply is an answer there, whichever sessions were opened, if there is room for one more
  pub answers : (w : World) (h : List Entry) → Refines (world_of old) (world_after w h) → (own : List Entry) → HasRoom w own (IsEvent event) → IsAnswer w h own (IsEvent event) (told_of reply) ⊎ LacksMemory (IsEvent event) (told_of reply)
  -- the core refines the history with this entry
  pub refines : (w : World) (h : List Entry) → Refines (world_of old) (world_after w h) → Refines (world_of new) (world_after w (entry event (told_of reply) ∷ h))
  -- a session that is handed out has the list that is defined there
  pub hands : (w : World) (h : List Entry) → Refines (world_of old) (world_after w h) → HandsOut reply (session_list w.base (journal w h) event.act)
  -- memory lacks only for an act that takes some
  pub memory : told_of reply ≡ Refused NoMemory → takes_memory event.act ≡ true
  -- where it lacked, the core refines what it refined
  pub unchanged : told_of reply ≡ Refused NoMemory → (w : World) (h : List Entry) → Refines (world_of old) (world_after w h) → Refines (world_of new) (world_after w h)

-- the act installs the merge of this slot
abbrev pub IsBySlot : Act → ℕ → Type 0
IsBySlot act slot = (t : List ℕ) × (act ≡ Install t (InSlot slot))

-- What an event, with the merge that came with it, did to a core: it was an exact step; or it named a slot, of which a core knows none, and was
-- no event.
abbrev pub StepsWith : CoreContents → Option TabletMerge → Event → Reply OpenSession TabletMerge → CoreContents → Type 0
StepsWith old given event reply new =
    (NamesNoSlot event.act × StepsExactly old given event (told_of reply) (job_of reply) new)
    ⊎ ((slot : ℕ) × IsBySlot event.act slot × (reply ≡ Refused (NoJob slot)) × (new ≡ old))

-- ---- inside the core
-- what an act changes, if it isn't refused
abbrev pub changes_told : ℤ → List ℕ → Act → Told → List Change
changes_told now user act (Refused r) = []
changes_told now user act _ = changes_of now user act

-- Whether the reply moves the clock: each does but want of memory and a refusal by a list of sessions, which say that there was no event.
abbrev pub moves_clock : Told → Bool
moves_clock (Refused NoMemory) = false
moves_clock (Refused (TooLarge Sessions)) = false
moves_clock (Refused (NoSession slot)) = false
moves_clock (Refused (NoJob slot)) = false
moves_clock _ = true

-- all but records is read as of the old core after the changes, of which the newest stands first
abbrev pub Becomes : Base → List Change → Base → Type 0
Becomes old j new = ReadsAlike (world_of new) (record (world_of old) { changes = j })

-- the policy knows which tables there are
abbrev pub KnowsTables : CoreContents → Type 0
KnowsTables h = (t : List ℕ) → table_exists h.policy t ≡ is_some (settings_of (base_of h) [] t)

-- what a core keeps: it is a store, its policy knows its tables, and it is within its limits
pub record IsCore (h : CoreContents) : Type 0 where
  pub store : IsStore h
  pub knows : KnowsTables h
  pub limits : IsBounded h

-- What an act of this user at this clock does, whose answer is this one by what histories see; with an Install came this merge. The core's
-- own clock is set afterwards.
pub record Acts (answer : Told) (old : CoreContents) (now : ℤ) (given : Option TabletMerge) (user : List ℕ) (act : Act) (reply : Reply OpenSession TabletMerge) (new : CoreContents) : Type 0 where
  -- it is told so, hands out its job, and leaves the tablets so
  pub exact : LaysExactly old now given act answer (told_of reply) (job_of reply) new
  -- all but records is then as its changes say
  pub becomes : Becomes (base_of old) (changes_told now user act (told_of reply)) (base_of new)
  -- a session that is handed out has the list that is defined
  pub hands : HandsOut reply (session_list (base_of old) [] act)
  -- the policy knows the tables that there are then
  pub knows : KnowsTables new

-- the horizon that an act asks for, 0 where it asks for none
abbrev pub horizon_asked : Act → ℤ
horizon_asked (SetHorizon t low) = low
horizon_asked act = pos 0

-- the answer to an act that the policy admits
abbrev pub own_answer : Base → ℤ → List ℕ → Act → Told
own_answer old now user act = told (first_some (own_checks (standing old [] user) (exists_in old [] (user_named act)) now act)) (numbered (are_used_up old [] act) (granted (standing old [] user) act))

-- the caller is known, and the table that the act names is there, if it must exist
abbrev pub IsAdmitted : Base → List ℕ → Act → Type 0
IsAdmitted b user act = (has_user b [] user ≡ true) × IfSome (table_named (action_of act)) (λ t. is_some (settings_of b [] t) ≡ true)

-- what an act that the policy admits does to a store
abbrev pub Does : Store → ℤ → List ℕ → Act → Reply OpenSession TabletMerge → Store → Type 0
Does old now user act reply new = Acts (own_answer (base_of (held old)) now user act) (held old) now None user act reply (held new)

-- what an act does that compacts this table's tablets so
abbrev pub Compacts : Store → ℤ → List ℕ → List ℕ → Compaction → Reply OpenSession TabletMerge → Store → Type 0
Compacts old now user t kind reply new = (act : Act) → work_of None act ≡ On t (Compacting kind) → Does old now user act reply new

-- the same of an Install into this table, with which this merge came
abbrev pub Installs : Store → ℤ → List ℕ → List ℕ → TabletMerge → Reply OpenSession TabletMerge → Store → Type 0
Installs old now user t m reply new = let act : Act = Install t (ByHand m.merge.number) in Acts (own_answer (base_of (held old)) now user act) (held old) now (Some m) user act reply (held new)

-- What an act of a user with these authorizations does to the tables and to the next number of a core, whatever else the core is.
abbrev pub ActsOnTables : List (List ℕ) → ℤ → Act → List TableContents → ℕ → Reply OpenSession TabletMerge → List TableContents → ℕ → Type 0
ActsOnTables auths now act tables next reply tables' next' = (h : CoreContents) (user : List ℕ) → IsCore h → h.tables ≡ tables → h.next ≡ next → auths_of h.policy user ≡ auths
    → Acts (own_answer (base_of h) now user act) h now None user act reply (record h { next = next'; tables = tables' })

-- A caller is told what he holds and may do, on each table of which this is found of him.
abbrev pub Tells : Caller → Reply OpenSession TabletMerge → Type 0
Tells caller reply = (h : CoreContents) (now : ℤ) (user t : List ℕ) → IsCore h → IsCaller caller h.policy user (Some t) → Acts (own_answer (base_of h) now user (OwnRights t)) h now None user (OwnRights t) reply h

-- the checks of a write that gets this number, the last of them that the numbers aren't used up
abbrev pub write_checks : Option Settings → List (List ℕ) → ℤ → Mutation → ℕ → List (Option Refusal)
write_checks settings auths now m seq = mutation_checks settings auths now m ++ when (nat_le 18446744073709551615 seq) (TooLarge Numbers) ∷ []
