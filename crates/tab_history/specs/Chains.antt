-- For proofs. Chains of cores, and how the step of one core goes on with any history that the core refines.
use Rattle.std.specs.Prelude.{◌≡◌, ◌⊎◌, ◌↔◌, ℕ, ◌==◌, ℤ, List, [], ◌∷◌, true, false, ◌&&◌}
use Rattle.tab_history.specs.Bases.{Base}
use Rattle.tab_history.specs.Sessions.{is_full}
use Rattle.tab_history.specs.Answers.{Told, is_open, session_list}
use Rattle.tab_history.specs.Jobs.{JobMove, is_merged, job_in}
use Rattle.tab_history.specs.Histories.{Entry, World, world_of, world_after, journal, moves_of, jobs_of}
use Rattle.tab_history.specs.Legal.{IsAnswer, LacksMemory, LegalAlone}
use Rattle.tab_history.specs.Refinement.{Refines, IsSound, IsAlike}
use Rattle.tab_history.specs.declared.event.Act.{Act}
use Rattle.tab_history.specs.declared.event.Act.TheVariants.{Install}
use Rattle.tab_history.specs.declared.event.Given.{Given}
use Rattle.tab_history.specs.declared.event.Given.TheVariants.{InSlot, ByHand}
use Rattle.tab_history.specs.declared.event.Step.{Step}
use Rattle.tab_history.specs.declared.event.Step.TheVariants.{Event}

-- ---- one step of a core, seen from the core alone
-- the entry is legal on what the core holds, and the next core refines that entry on it
pub record GoesRight (before : Base) (e : Entry) (after : Base) : Type 0 where
  pub legal : LegalAlone (world_of before) (e ∷ [])
  pub refines : Refines (world_of after) (world_after (world_of before) (e ∷ []))

-- ---- The law: a step of a sound core is right if its reply is an answer, and it leaves what the entry leaves.
-- the next core reads the same as what the entry leaves, and holds the same records in any order
abbrev pub RightStep : Type 0
RightStep = (before : Base) (e : Entry) (after : Base) → IsSound (world_of before) → LegalAlone (world_of before) (e ∷ []) → IsAlike (world_of after) (world_after (world_of before) (e ∷ [])) → GoesRight before e after

-- ---- The law: a right step goes on with each history that the core refines.
-- the act names no job's slot
abbrev pub NamesNoSlot : Act → Type 0
NamesNoSlot (Install t (InSlot slot)) = ⊥
NamesNoSlot (Install t (ByHand job)) = Unit {0}
NamesNoSlot act = Unit {0}

-- the step is an event, if it opens a session there is room for one among those of its user, and if it installs a merge it came with that
abbrev pub HasRoom : World → List Entry → Step → Type 0
HasRoom w own (Event e) = (is_open e.act ≡ true → is_full (moves_of w e.user own) ≡ false) × NamesNoSlot e.act
HasRoom w own step = ⊥

-- what the step means after the entries h of w, for which the core stood before
pub record GoesOnFrom (w : World) (h : List Entry) (before : Base) (e : Entry) (after : Base) : Type 0 where
  -- the reply is an answer, whichever sessions were opened and jobs begun, if there is room
  pub answers : (own : List Entry) → HasRoom w own e.step → IsAnswer w h own e.step e.reply ⊎ LacksMemory e.step e.reply
  -- the next core refines the history with this entry
  pub refines : Refines (world_of after) (world_after w (e ∷ h))
  -- a session opened on what the core held shows what one opened on that history does
  pub list_before : (act : Act) → session_list before [] act ≡ session_list w.base (journal w h) act
  -- and so does one opened on what the next core holds, with this entry
  pub list_after : (act : Act) → session_list after [] act ≡ session_list w.base (journal w (e ∷ h)) act

-- a right step goes on from each history that the core refined
abbrev pub GoesOn : Type 0
GoesOn = (w : World) (h : List Entry) (before : Base) (e : Entry) (after : Base) → Refines (world_of before) (world_after w h) → GoesRight before e after → GoesOnFrom w h before e after

-- ---- The law: an Install by a slot with a finished merge is answered as one that came with its merge, and leaves the same.
-- the user's event that installs a merge, with its reply
abbrev pub installing : List ℕ → ℤ → List ℕ → Given → Told → Entry
installing user moment t given reply = record { step = Event (record { user = user; moment = moment; act = Install t given }); reply = reply }

-- so it is after each history, for each slot that holds one by the entries own, whatever the number of the job that came
abbrev pub SlotsAreAside : Type 0
SlotsAreAside = (w : World) (h own : List Entry) (user : List ℕ) (moment : ℤ) (t : List ℕ) (slot job : ℕ) (reply : Told) → is_merged (job_in (jobs_of own) slot) ≡ true
    → let by_slot : Entry = installing user moment t (InSlot slot) reply in
    let by_hand : Entry = installing user moment t (ByHand job) reply in
    (IsAnswer w h own by_slot.step reply ↔ IsAnswer w h [] by_hand.step reply) × (world_after w (by_slot ∷ h) ≡ world_after w (by_hand ∷ h))

-- ---- The law: behind an Install by a slot that holds no finished merge, and all else is as it was, whatever it was told.
abbrev pub InstallsUseUp : Type 0
InstallsUseUp = (es : List Entry) (user : List ℕ) (moment : ℤ) (t : List ℕ) (slot : ℕ) (reply : Told) →
    let jobs : List JobMove = jobs_of es in
    let after : List JobMove = jobs_of (installing user moment t (InSlot slot) reply ∷ es) in
    (is_merged (job_in after slot) ≡ false) × ((k : ℕ) → (slot == k && is_merged (job_in jobs k)) ≡ false → job_in after k ≡ job_in jobs k)

-- ---- The law: a chain of right steps makes a legal history, which its last core refines.
-- a chain of cores, each got from the one before by an entry; goes says what one entry may do to a core
abbrev pub IsChain : {Core : Type 0} → (Core → Entry → Core → Type 0) → Core → List Entry → Core → Type 0
IsChain goes first [] last = first ≡ last
IsChain {Core} goes first (e ∷ es) last = (before : Core) × IsChain goes first es before × goes before e last

-- a chain of right steps from a core that refines a world
abbrev pub ChainsRefine : Type 0
ChainsRefine = (w : World) (first last : Base) (es : List Entry) → Refines (world_of first) w → IsChain GoesRight first es last → LegalAlone w es × Refines (world_of last) (world_after w es)
