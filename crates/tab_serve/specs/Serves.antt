-- To be believed by whoever relies on it. One request of a connection over a core: what it is told, and what it leaves.
use Rattle.std.specs.Prelude.{ℕ, ℤ, ◌≡◌, ◌⊎◌, true, false, List, Option, None}
use Rattle.tab_key.specs.declared.limited_part.LimitedPart.TheVariants.{Sessions}
use Rattle.tab_history.specs.declared.event.Act.{Act}
use Rattle.tab_history.specs.declared.event.Event.{Event}
use Rattle.tab_history.specs.declared.reply.Refusal.TheVariants.{TooLarge}
use Rattle.tab_history.specs.declared.reply.Reply.{Reply}
use Rattle.tab_history.specs.declared.reply.Reply.TheVariants.{Done, Refused}
use Rattle.tab_history.specs.Answers.{Told, told_of, is_open}
use Rattle.tab_core.specs.SessionState.{SessionState}
use Rattle.tab_core.specs.OpenSession.{OpenSession}
use Rattle.tab_core.specs.Stores.{CoreContents, base_of}
use Rattle.tab_core.specs.Parts.{TabletMerge}
use Rattle.tab_core.specs.Stepping.{Steps, StepsWith}
use Rattle.tab_core.specs.Slots.{are_full, NextFrom, ManyFrom, CloseFrom}
use Rattle.tab_core.specs.Owners.{OpensIn}
use Rattle.tab_wire.specs.declared.request.Request.{Request}
use Rattle.tab_wire.specs.declared.request.Request.TheVariants as asks

-- a core, the sessions of the connection by their numbers, and where moments come from
pub record Served (M : Type 0) : Type 0 where
  pub core : CoreContents
  pub slots : List (Option SessionState)
  pub moments : M

-- the core and the moments stay
pub record KeepsCore {M : Type 0} (old new : Served M) : Type 0 where
  pub core : new.core ≡ old.core
  pub moments : new.moments ≡ old.moments

-- what this user asks at this moment
abbrev pub asked_at : List ℕ → ℤ → Act → Event
asked_at user moment act = record { user = user; moment = moment; act = act }

-- an Open past the limit of sessions is refused, takes no moment, and doesn't happen
pub record IsTooMany {M : Type 0} (old : Served M) (act : Act) (reply : Told) (new : Served M) : Type 0 where
  pub opens : is_open act ≡ true
  pub full : are_full old.slots ≡ true
  pub told : reply ≡ Refused (TooLarge Sessions)
  pub same : new ≡ old

-- any other Open is an event at the next moment, and its session is kept
pub record OpensNext {M : Type 0} (gives : M → ℤ → M → Type 0) (old : Served M) (user : List ℕ) (act : Act) (reply : Told) (new : Served M) : Type 0 where
  pub opens : is_open act ≡ true
  pub room : are_full old.slots ≡ false
  pub moment : ℤ
  pub gave : gives old.moments moment new.moments
  pub does : OpensIn old.core old.slots (asked_at user moment act) reply new.core new.slots

-- Any other act is an event at the next moment, which the core answers by one exact step: no merge comes with it, and a job that it begins is
-- dropped. Only what names the slot of a job is no event, since a connection has none.
pub record Applies {M : Type 0} (gives : M → ℤ → M → Type 0) (old : Served M) (user : List ℕ) (act : Act) (reply : Told) (new : Served M) : Type 0 where
  pub shut : is_open act ≡ false
  pub moment : ℤ
  pub gave : gives old.moments moment new.moments
  pub answer : Reply OpenSession TabletMerge
  pub steps : Steps (base_of old.core) (asked_at user moment act) answer (base_of new.core)
  pub exact : StepsWith old.core None (asked_at user moment act) answer new.core
  pub told : reply ≡ told_of answer
  pub slots : new.slots ≡ old.slots

-- what a request of this user may be told, and what it leaves
abbrev pub Serves : {M : Type 0} → (M → ℤ → M → Type 0) → Served M → List ℕ → Request → Told → Served M → Type 0
Serves gives old user (asks.Hello name) reply new = (reply ≡ Done) × (new ≡ old)
Serves gives old user (asks.Act act) reply new = IsTooMany old act reply new ⊎ OpensNext gives old user act reply new ⊎ Applies gives old user act reply new
Serves gives old user (asks.Next slot n) reply new = NextFrom old.slots slot n reply new.slots × KeepsCore old new
Serves gives old user (asks.Many slot ranges) reply new = ManyFrom old.slots slot ranges reply × (new ≡ old)
Serves gives old user (asks.Close slot) reply new = CloseFrom old.slots slot reply new.slots × KeepsCore old new
