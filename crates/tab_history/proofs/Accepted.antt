-- What an accepted event changes has passed the event's checks.
use Rattle.std.proofs.Common.{◌≡◌, ◌⊎◌, inl, inr, ℕ, List, [], Bool, true, false, cond, ◌&&◌, refl, sym, subst}
use Rattle.std.specs.Prelude.{ℤ, Option, Some, None}
use mathlib.Core.Bool.{true≢false}
use Rattle.tab_key.specs.declared.limited_part.LimitedPart.TheVariants.{Sessions}
use Rattle.tab_history.specs.declared.event.Act.{Act}
use Rattle.tab_history.specs.declared.event.Act.TheVariants.{Open, Status, AddSplit, SplitBySize, Splits, Begin, Install}
use Rattle.tab_history.specs.declared.event.Event.{Event as TheEvent}
use Rattle.tab_history.specs.declared.event.Step.{Step}
use Rattle.tab_history.specs.declared.event.Step.TheVariants.{Event}
use Rattle.tab_history.specs.declared.reply.Refusal.{Refusal}
use Rattle.tab_history.specs.declared.reply.Refusal.TheVariants.{NoMemory, TooLarge}
use Rattle.tab_history.specs.declared.reply.Reply.TheVariants.{Refused}
use Rattle.tab_history.specs.Answers.{Told, granted, told, are_used_up, numbered, event_answer, is_open, empty_slot, slotted, answer, leaves_open, changes_by}
use Rattle.tab_history.specs.Bases.{Base}
use Rattle.tab_history.specs.Changes.{Change, changes_of}
use Rattle.tab_history.specs.Checks.{Caller, standing, user_named, exists_in, action_of, denial, own_checks, refusal_of}
use Rattle.tab_history.specs.Histories.{Entry, World, clock_of, clock_at, journal, user_of, moves_of, jobs_of}
use Rattle.tab_history.specs.Legal.{answer_at, IsAnswer, LacksMemory}
use Rattle.tab_history.specs.Sessions.{Move, is_full}
use Rattle.tab_history.specs.Jobs.{JobMove}
use Rattle.tab_policy.specs.Decisions.{decision}
use Rattle.tab_mutation.specs.Shape.{first_some}
use Rattle.tab_history.proofs.Options.{or_else_right}
use Rattle.tab_history.proofs.LeftOpen.{of_reply}

-- what an event's own checks say, once it is admitted
pub own_pass : (c : Caller) (there : Bool) (now : ℤ) (user : List ℕ) (act : Act) → refusal_of c there now user act ≡ None → first_some (own_checks c there now act) ≡ None
unfolding refusal_of
own_pass c there now user act e = or_else_right (denial user (decision c.policy (action_of act))) _ e

-- where the reply is left open nothing changes
open_changes : (now : ℤ) (user : List ℕ) (act : Act) → leaves_open act ≡ true → changes_of now user act ≡ []
open_changes now user (Status t) o = refl
open_changes now user (AddSplit t row) o = refl
open_changes now user (SplitBySize t row limit) o = refl
open_changes now user (Splits t) o = refl
open_changes now user (Begin t row kind) o = refl
open_changes now user (Install t given) o = refl
open_changes now user _ o = absurd (true≢false (sym o))

-- what holds of no change, and of what each event changes that isn't refused
module _ (b : Base) (j : List Change) (now : ℤ) (P : List Change → Type 0) (none : P []) where
  of_refused : (step : Step) (x : Refusal) → P (changes_by now step (Refused x))
  of_refused (Event e) x = none
  of_refused _ x = none

  of_granted : (e : TheEvent) (c : Caller) (act : Act) → P (changes_of now e.user e.act) → P (changes_by now (Event e) (granted c act))
  of_granted e c (Open scan) p = p
  of_granted e c _ p = p

  of_told : (e : TheEvent) (c : Caller) (o : Option Refusal) (used_up : Bool) → (o ≡ None → P (changes_of now e.user e.act)) → P (changes_by now (Event e) (told o (numbered used_up (granted c e.act))))
  of_told e c None true f = none
  of_told e c None false f = of_granted e c e.act (f refl)
  of_told e c (Some x) used_up f = none

  of_slot : (e : TheEvent) (o : Option ℕ) (reply : Told) → P (changes_by now (Event e) reply) → P (changes_by now (Event e) (slotted o reply))
  of_slot e None reply p = p
  of_slot e (Some slot) reply p = none

  -- holds of what a step and its answer change
  of_answer : ((e : TheEvent) → refusal_of (standing b j e.user) (exists_in b j (user_named e.act)) now e.user e.act ≡ None → P (changes_of now e.user e.act)) → (moves : List Move) (jobs : List JobMove) (step : Step) → P (changes_by now step (answer b j moves jobs now step))
  unfolding answer
  of_answer f moves jobs (Event e) = go (is_open e.act && is_full moves)
    where
      go : (v : Bool) → P (changes_by now (Event e) (cond v (Refused (TooLarge Sessions)) (slotted (empty_slot jobs e.act) (event_answer b j now e.user e.act))))
      go true = none
      go false = of_slot e (empty_slot jobs e.act) _ (of_told e (standing b j e.user) (refusal_of (standing b j e.user) (exists_in b j (user_named e.act)) now e.user e.act) (are_used_up b j e.act) (f e))
  of_answer f moves jobs _ = none

  -- nothing changes where the reply is left open
  of_open : (step : Step) (r : Told) (e : TheEvent) → step ≡ Event e → leaves_open e.act ≡ true → P (changes_by now step r)
  of_open step r e q o = subst (λ s. P (changes_by now s r)) (sym q) (go r)
    where
      go : (r : Told) → P (changes_by now (Event e) r)
      go (Refused x) = none
      go _ = subst P (sym (open_changes now e.user e.act o)) none

-- holds of what each entry of a legal history changes
pub of_legal : (w : World) (es own : List Entry) (step : Step) (r : Told) (P : List Change → Type 0) → P []
    → ((e : TheEvent) → refusal_of (standing w.base (journal w es) e.user) (exists_in w.base (journal w es) (user_named e.act)) (clock_at (clock_of w es) step) e.user e.act ≡ None → P (changes_of (clock_at (clock_of w es) step) e.user e.act))
    → IsAnswer w es own step r ⊎ LacksMemory step r → P (changes_by (clock_at (clock_of w es) step) step r)
of_legal w es own step r P none f (inl h) =
    let now = clock_at (clock_of w es) step in
    of_reply (λ x. P (changes_by now step x)) step (answer_at w es own step) r h (of_answer w.base (journal w es) now P none f (moves_of w (user_of step) own) (jobs_of own) step) (λ e q o m. of_open w.base (journal w es) now P none step r e q o)
of_legal w es own step r P none f (inr e) = subst (λ x. P (changes_by (clock_at (clock_of w es) step) step x)) (sym e.1) (of_refused w.base (journal w es) (clock_at (clock_of w es) step) P none step NoMemory)
