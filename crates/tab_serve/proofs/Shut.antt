-- What opens no session is never told of one.
use Rattle.std.proofs.Common.{◌≡◌, ◌⊎◌, inl, inr, ℕ, ℤ, Bool, true, false, cond, ◌&&◌, List, Option, Some, None, refl, ap, ◌∙◌}
use Rattle.tab_key.specs.declared.limited_part.LimitedPart.TheVariants.{Sessions}
use Rattle.tab_history.specs.declared.event.Act.{Act}
use Rattle.tab_history.specs.declared.event.Act.TheVariants as act
use Rattle.tab_history.specs.declared.event.Event.{Event}
use Rattle.tab_history.specs.declared.event.Step.TheVariants.{Event as IsEvent}
use Rattle.tab_history.specs.declared.reply.Refusal.{Refusal}
use Rattle.tab_history.specs.declared.reply.Refusal.TheVariants.{TooLarge}
use Rattle.tab_history.specs.declared.reply.Reply.TheVariants.{Refused, Opened}
use Rattle.tab_history.specs.Bases.{Base}
use Rattle.tab_history.specs.Changes.{Change}
use Rattle.tab_history.specs.Checks.{Caller, standing, refusal_of, user_named, exists_in}
use Rattle.tab_history.specs.Answers.{Told, MayTell, IsEventReply, told, numbered, granted, are_used_up, event_answer, empty_slot, slotted, answer, is_open}
use Rattle.tab_history.specs.Histories.{Entry, World}
use Rattle.tab_history.specs.Legal.{IsAnswer, LacksMemory}
use Rattle.tab_history.specs.Sessions.{Move, is_full}
use Rattle.tab_history.specs.Jobs.{JobMove}
use Rattle.tab_wire.specs.Asking.{opens}

-- ---- what is granted
granted_shut : (c : Caller) (a : Act) → is_open a ≡ false → opens (granted c a) ≡ false
granted_shut c (act.Open scan) shut = absurd cc
granted_shut c _ shut = refl

numbered_shut : (used_up : Bool) (r : Told) → opens r ≡ false → opens (numbered used_up r) ≡ false
numbered_shut true r shut = refl
numbered_shut false r shut = shut

told_shut : (o : Option Refusal) (r : Told) → opens r ≡ false → opens (told o r) ≡ false
told_shut None r shut = shut
told_shut (Some x) r shut = refl

-- ---- what may be told in its place
may_shut : (a : Act) (plain r : Told) → opens plain ≡ false → MayTell a plain r → opens r ≡ false
may_shut (act.Status t) plain r shut may = ap opens may.1
may_shut (act.AddSplit t row) plain r shut may = elim may [
  | inl is ↦ ap opens is ∙ shut
  | inr other ↦ elim other [
    | inl is ↦ ap opens is
    | inr is ↦ ap opens is
  ]
]
may_shut (act.SplitBySize t row limit) plain r shut may = elim may [
  | inl is ↦ ap opens is ∙ shut
  | inr other ↦ elim other [
    | inl is ↦ ap opens is
    | inr more ↦ elim more [
      | inl is ↦ ap opens is
      | inr is ↦ ap opens is
    ]
  ]
]
may_shut (act.Splits t) plain r shut may = ap opens may.1
may_shut (act.Begin t row kind) plain r shut may = elim may [
  | inl is ↦ ap opens is
  | inr is ↦ ap opens is
]
may_shut (act.Install t given) plain r shut may = elim may [
  | inl is ↦ ap opens is ∙ shut
  | inr stale ↦ ap opens stale.1
]
may_shut _ plain r shut may = ap opens may ∙ shut

reply_shut : (a : Act) (plain r : Told) → opens plain ≡ false → IsEventReply a plain r → opens r ≡ false
reply_shut a (Refused x) r shut is = ap opens is
reply_shut a (Opened s) r shut is = absurd cc
reply_shut a plain r shut is = may_shut a plain r shut is

-- ---- any answer to such an event
slotted_shut : (slot : Option ℕ) (r : Told) → opens r ≡ false → opens (slotted slot r) ≡ false
slotted_shut None r shut = shut
slotted_shut (Some k) r shut = refl

answer_shut : (b : Base) (j : List Change) (moves : List Move) (jobs : List JobMove) (now : ℤ) (e : Event) → is_open e.act ≡ false → opens (answer b j moves jobs now (IsEvent e)) ≡ false
unfolding answer
answer_shut b j moves jobs now e shut =
    let caller : Caller = standing b j e.user in
    let plain : opens (event_answer b j now e.user e.act) ≡ false =
    told_shut (refusal_of caller (exists_in b j (user_named e.act)) now e.user e.act) (numbered (are_used_up b j e.act) (granted caller e.act)) (numbered_shut (are_used_up b j e.act) (granted caller e.act) (granted_shut caller e.act shut)) in
    go (is_open e.act && is_full moves) (slotted_shut (empty_slot jobs e.act) (event_answer b j now e.user e.act) plain)
  where
    go : (full : Bool) → opens (slotted (empty_slot jobs e.act) (event_answer b j now e.user e.act)) ≡ false → opens (cond full (Refused (TooLarge Sessions)) (slotted (empty_slot jobs e.act) (event_answer b j now e.user e.act))) ≡ false
    go true plain = refl
    go false plain = plain

pub event_shut : (w : World) (h own : List Entry) (e : Event) (r : Told) → is_open e.act ≡ false → IsAnswer w h own (IsEvent e) r ⊎ LacksMemory (IsEvent e) r → opens r ≡ false
event_shut w h own e r shut (inl is) = reply_shut e.act _ r (answer_shut w.base _ _ _ _ e shut) is
event_shut w h own e r shut (inr lacks) = ap opens lacks.1
