-- The answers where numbers are never used up, which need not be counted; an ample reply is one of them.
use Rattle.std.proofs.Common.{◌≡◌, inr, ℕ, ℤ, List, Bool, true, false, cond, ◌&&◌, refl, ◌∙◌, ap, subst}
use mathlib.Core.Bool.{true≢false}
use Rattle.std.specs.Prelude.{Option, Some, None}
use Rattle.tab_key.specs.declared.limited_part.LimitedPart.TheVariants.{Sessions}
use Rattle.tab_history.specs.Bases.{Base}
use Rattle.tab_history.specs.Changes.{Change}
use Rattle.tab_history.specs.Checks.{standing, refusal_of, user_named, exists_in}
use Rattle.tab_history.specs.Sessions.{Move, is_full, session_in}
use Rattle.tab_history.specs.Jobs.{JobMove}
use Rattle.tab_history.specs.Answers.{Told, told, granted, are_used_up, numbered, event_answer, is_open, next_answer, many_answer, close_answer, empty_slot, slotted, answer}
use Rattle.tab_history.specs.Legal.{IsExhausted}
use Rattle.tab_history.specs.declared.event.Act.{Act}
use Rattle.tab_history.specs.declared.event.Act.TheVariants.{Install}
use Rattle.tab_history.specs.declared.event.Step.{Step}
use Rattle.tab_history.specs.declared.event.Step.TheVariants.{Event, Next, Many, Close, Merge}
use Rattle.tab_history.specs.declared.reply.Refusal.{Refusal}
use Rattle.tab_history.specs.declared.reply.Refusal.TheVariants.{TooLarge}
use Rattle.tab_history.specs.declared.reply.Reply.TheVariants.{Done, Refused}
use Rattle.tab_noninterference.specs.Views.{is_inner, is_aside}

-- the answer to an event, by its checks alone
abbrev pub ample_event : Base → List Change → ℤ → List ℕ → Act → Told
ample_event b j now user act = told (refusal_of (standing b j user) (exists_in b j (user_named act)) now user act) (granted (standing b j user) act)

-- the answer to a step, by the checks of an event alone, whatever jobs there are; that of a merge is none that a user hears
unfoldable pub ample_answer : Base → List Change → List Move → ℤ → Step → Told
ample_answer b j moves now (Event e) = cond (is_open e.act && is_full moves) (Refused (TooLarge Sessions)) (ample_event b j now e.user e.act)
ample_answer b j moves now (Next user slot n) = next_answer (session_in moves slot) slot n
ample_answer b j moves now (Many user slot ranges) = many_answer (session_in moves slot) slot ranges
ample_answer b j moves now (Close user slot) = close_answer (session_in moves slot) slot
ample_answer b j moves now (Merge slot) = Done

not_numbered : (o : Option Refusal) (used_up : Bool) (reply : Told) → (IsExhausted (told o (numbered used_up reply)) → ⊥) → told o (numbered used_up reply) ≡ told o reply
not_numbered None true reply n = absurd (n (inr refl))
not_numbered None false reply n = refl
not_numbered (Some r) used_up reply n = refl

-- the act names no slot, where it isn't aside
outer_slot : (act : Act) (jobs : List JobMove) → is_inner act ≡ false → empty_slot jobs act ≡ None
outer_slot (Install t given) jobs e = absurd (true≢false e)
outer_slot act jobs e = refl

-- an answer that isn't that something ran out is the one by the checks alone, where the step isn't aside
pub is_ample : (b : Base) (j : List Change) (moves : List Move) (jobs : List JobMove) (now : ℤ) (step : Step) → is_aside step ≡ false → (IsExhausted (answer b j moves jobs now step) → ⊥) → answer b j moves jobs now step ≡ ample_answer b j moves now step
unfolding answer ample_answer
is_ample b j moves jobs now (Event e) a n = go (is_open e.act && is_full moves) n
  where
    slots : empty_slot jobs e.act ≡ None
    slots = outer_slot e.act jobs a

    go : (v : Bool) → (IsExhausted (cond v (Refused (TooLarge Sessions)) (slotted (empty_slot jobs e.act) (event_answer b j now e.user e.act))) → ⊥)
        → cond v (Refused (TooLarge Sessions)) (slotted (empty_slot jobs e.act) (event_answer b j now e.user e.act)) ≡ cond v (Refused (TooLarge Sessions)) (ample_event b j now e.user e.act)
    go true n = refl
    go false n =
        ap (λ o. slotted o (event_answer b j now e.user e.act)) slots
        ∙ not_numbered (refusal_of (standing b j e.user) (exists_in b j (user_named e.act)) now e.user e.act) (are_used_up b j e.act) (granted (standing b j e.user) e.act) (subst (λ o. IsExhausted (slotted o (event_answer b j now e.user e.act)) → ⊥) slots n)
is_ample b j moves jobs now (Merge slot) a n = absurd (true≢false a)
is_ample b j moves jobs now step a n = refl
