-- A right step goes on with each history that the core refines.
use Rattle.std.proofs.lemmas.Bool.{eq-eqb}
use Rattle.std.proofs.Common.{◌≡◌, ◌⊎◌, inl, inr, ◌==◌, List, [], ◌∷◌, Bool, true, false, cond, ◌&&◌, refl, sym, ◌∙◌, ap, subst}
use mathlib.Core.Bool.{true≢false}
use Rattle.std.specs.Prelude.{ℕ, ℤ, Some, None}
use Rattle.tab_key.specs.declared.limited_part.LimitedPart.TheVariants.{Sessions}
use Rattle.tab_history.specs.declared.event.Step.{Step}
use Rattle.tab_history.specs.declared.event.Step.TheVariants.{Event, Next}
use Rattle.tab_history.specs.declared.event.Act.{Act}
use Rattle.tab_history.specs.declared.event.Act.TheVariants.{Install}
use Rattle.tab_history.specs.declared.event.Given.TheVariants.{InSlot, ByHand}
use Rattle.tab_history.specs.declared.reply.Refusal.TheVariants.{TooLarge, NoMemory, NoSession, NoJob}
use Rattle.tab_history.specs.declared.reply.Reply.TheVariants.{Refused}
use Rattle.tab_history.specs.Answers.{Told, event_answer, is_open, empty_slot, slotted, answer, IsReply}
use Rattle.tab_history.specs.Checks.{refusal_of}
use Rattle.tab_history.specs.Jobs.{JobMove, JobSlot, Free, Waiting, Merged, used_up, job_in, is_merged}
use Rattle.tab_history.specs.Bases.{Base}
use Rattle.tab_history.specs.Chains.{HasRoom, NamesNoSlot, GoesOn, installing, SlotsAreAside, InstallsUseUp}
use Rattle.tab_history.specs.Changes.{Change}
use Rattle.tab_history.specs.Histories.{Entry, World, world_of, clock_of, clock_at, journal, world_after, user_of, moves_of, jobs_of}
use Rattle.tab_history.specs.Legal.{IsAnswer, LacksMemory}
use Rattle.tab_history.specs.Sessions.{opened, closed, is_full}
use Rattle.tab_history.specs.Refinement.{Refines}
use Rattle.tab_history.proofs.Chains.{refinement_is_transitive, one_more, after_more}
use Rattle.tab_history.proofs.GoOn.{list_same, events_down}

-- an act that names no slot is answered alike whatever jobs there are
no_slot : (act : Act) (jobs : List JobMove) → NamesNoSlot act → empty_slot jobs act ≡ None
no_slot (Install t (InSlot slot)) jobs n = absurd n
no_slot (Install t (ByHand job)) jobs n = refl
no_slot act jobs n = refl

-- where there is room for a session, and no slot is named, it doesn't matter which there are
room_answer : (b : Base) (j : List Change) (now : ℤ) (step : Step) (w : World) (own : List Entry) → HasRoom w own step → answer b j [] [] now step ≡ answer b j (moves_of w (user_of step) own) (jobs_of own) now step
unfolding answer opened closed
room_answer b j now (Event e) w own room = go (is_open e.act) room.0
  where
    slots : empty_slot [] e.act ≡ empty_slot (jobs_of own) e.act
    slots = no_slot e.act [] room.1 ∙ sym (no_slot e.act (jobs_of own) room.1)

    go : (v : Bool) → (v ≡ true → is_full (moves_of w e.user own) ≡ false) → cond (v && is_full []) (Refused (TooLarge Sessions)) (slotted (empty_slot [] e.act) (event_answer b j now e.user e.act)) ≡ cond (v && is_full (moves_of w e.user own)) (Refused (TooLarge Sessions)) (slotted (empty_slot (jobs_of own) e.act) (event_answer b j now e.user e.act))
    go true room = ap (λ v. cond v (Refused (TooLarge Sessions)) (slotted (empty_slot [] e.act) (event_answer b j now e.user e.act))) (sym (room refl)) ∙ ap (λ o. cond (is_full (moves_of w e.user own)) (Refused (TooLarge Sessions)) (slotted o (event_answer b j now e.user e.act))) slots
    go false room = ap (λ o. slotted o (event_answer b j now e.user e.act)) slots
room_answer b j now (Next user slot n) w own room = absurd room
room_answer b j now step w own room = absurd room

room_too : (w : World) (h own : List Entry) (step : Step) (r : Told) → HasRoom w own step → IsAnswer w h [] step r ⊎ LacksMemory step r → IsAnswer w h own step r ⊎ LacksMemory step r
unfolding moves_of jobs_of
room_too w h own step r room (inl a) = inl (subst (λ x. IsReply step x r) (room_answer w.base (journal w h) (clock_at (clock_of w h) step) step w own room) a)
room_too w h own step r room (inr x) = inr x

pub goes_on : GoesOn
unfolding journal clock_of
goes_on w h before e after s goes =
    let d = events_down (world_of before) (world_after w h) s (e ∷ []) goes.legal in
    let refines : Refines (world_of after) (world_after w (e ∷ h)) = after_more (world_of after) w h e (refinement_is_transitive (world_of after) (world_after (world_of before) (e ∷ [])) (world_after (world_after w h) (e ∷ [])) goes.refines d.1) in
    record {
      answers = λ own room. room_too w h own e.step e.reply room (one_more w h e d.0);
      refines = refines;
      list_before = list_same (world_of before) (world_after w h) s;
      list_after = list_same (world_of after) (world_after w (e ∷ h)) refines;
    }

-- ---- slots are aside
-- by a slot the same may be told as by hand
by_slot_too : (user : List ℕ) (moment : ℤ) (t : List ℕ) (slot job : ℕ) (plain reply : Told) → IsReply (installing user moment t (ByHand job) reply).step plain reply → IsReply (installing user moment t (InSlot slot) reply).step plain reply
by_slot_too user moment t slot job (Refused r) reply h = h
by_slot_too user moment t slot job _ reply h = h

by_hand_too : (user : List ℕ) (moment : ℤ) (t : List ℕ) (slot job : ℕ) (plain reply : Told) → IsReply (installing user moment t (InSlot slot) reply).step plain reply → IsReply (installing user moment t (ByHand job) reply).step plain reply
by_hand_too user moment t slot job (Refused r) reply h = h
by_hand_too user moment t slot job _ reply h = h

-- what the checks say of an Install that came with its merge
abbrev by_checks : World → List Entry → List ℕ → ℤ → List ℕ → ℕ → Told → Told
by_checks w h user moment t job reply = event_answer w.base (journal w h) (clock_at (clock_of w h) (installing user moment t (ByHand job) reply).step) user (Install t (ByHand job))

pub slots_are_aside : SlotsAreAside
unfolding answer journal clock_of moves_of jobs_of job_in refusal_of
slots_are_aside w h own user moment t slot job reply merged = ((to_hand, to_slot), left reply)
  where
    held : None ≡ cond (is_merged (job_in (jobs_of own) slot)) None (Some slot)
    held = rw merged refl

    to_slot : IsReply (installing user moment t (ByHand job) reply).step (by_checks w h user moment t job reply) reply → IsReply (installing user moment t (InSlot slot) reply).step (slotted (cond (is_merged (job_in (jobs_of own) slot)) None (Some slot)) (by_checks w h user moment t job reply)) reply
    to_slot a = by_slot_too user moment t slot job _ reply (subst (λ o. IsReply (installing user moment t (ByHand job) reply).step (slotted o (by_checks w h user moment t job reply)) reply) held a)

    to_hand : IsReply (installing user moment t (InSlot slot) reply).step (slotted (cond (is_merged (job_in (jobs_of own) slot)) None (Some slot)) (by_checks w h user moment t job reply)) reply → IsReply (installing user moment t (ByHand job) reply).step (by_checks w h user moment t job reply) reply
    to_hand a = subst (λ o. IsReply (installing user moment t (ByHand job) reply).step (slotted o (by_checks w h user moment t job reply)) reply) (sym held) (by_hand_too user moment t slot job _ reply a)

    left : (r : Told) → world_after w (installing user moment t (InSlot slot) r ∷ h) ≡ world_after w (installing user moment t (ByHand job) r ∷ h)
    left (Refused NoMemory) = refl
    left (Refused (TooLarge Sessions)) = refl
    left (Refused (NoSession k)) = refl
    left (Refused (NoJob k)) = refl
    left r = refl

-- ---- an Install uses a finished merge up
-- no slot that an Install named holds one
not_merged : (held : JobSlot) → is_merged (used_up held) ≡ false
not_merged Free = refl
not_merged Waiting = refl
not_merged Merged = refl

-- what holds none is as it was, and so is what wasn't named
as_it_was : (named : Bool) (held : JobSlot) → (named && is_merged held) ≡ false → cond named (used_up held) held ≡ held
as_it_was true Free e = refl
as_it_was true Waiting e = refl
as_it_was true Merged e = absurd (true≢false e)
as_it_was false held e = refl

named_itself : (slot : ℕ) → (slot == slot) ≡ true
named_itself slot = eq-eqb slot slot refl

pub installs_use_up : InstallsUseUp
unfolding jobs_of job_in
installs_use_up es user moment t slot reply = (
  ap (λ v. is_merged (cond v (used_up (job_in (jobs_of es) slot)) (job_in (jobs_of es) slot))) (named_itself slot) ∙ not_merged (job_in (jobs_of es) slot),
  λ k e. as_it_was (slot == k) (job_in (jobs_of es) k) e,
)
