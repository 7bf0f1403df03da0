-- Each list of steps has a legal history, and with the same open replies only one in which memory never lacked.
use Rattle.std.proofs.Common.{◌≡◌, ◌⊎◌, inl, inr, List, [], ◌∷◌, ◌++◌, Bool, true, false, cond, refl, sym, ◌∙◌, ap, append_assoc, append-nil}
use Rattle.std.specs.Prelude.{map, Option, Some, None, unwrap_or}
use Rattle.std.proofs.lemmas.Grind.{reverse_onto}
use mathlib.Core.Bool.{true≢false}
use Rattle.tab_key.specs.declared.limited_part.LimitedPart.TheVariants.{Sessions}
use Rattle.tab_history.specs.declared.event.Step.{Step}
use Rattle.tab_history.specs.declared.event.Step.TheVariants.{Event}
use Rattle.tab_history.specs.declared.reply.Refusal.TheVariants.{NoMemory, TooLarge, NoSession, NoJob}
use Rattle.tab_history.specs.declared.reply.Reply.TheVariants.{Refused}
use Rattle.tab_history.specs.Answers.{Told}
use Rattle.tab_history.specs.Histories.{Entry, World, clock_of, journal, world_after, steps_of}
use Rattle.tab_history.specs.Legal.{answer_at, IsAnswer, LacksMemory, Legal, HasMemory}
use Rattle.tab_history.specs.Runs.{answer_to, played, EveryRunIsAnswered, is_left_open, asked_of, OneHistory, IsNoEvent, Unmoved}
use Rattle.tab_cells.proofs.Lists.{by_bool}
use Rattle.tab_history.proofs.LeftOpen.{closed_reply, one_is_reply}

played_legal : (w : World) (es : List Entry) (steps : List Step) → Legal w es → Legal w (played w es steps)
played_legal w es [] l = l
played_legal w es (step ∷ steps) l = played_legal w (record { step = step; reply = answer_to w es step } ∷ es) steps (l, inl (one_is_reply step (answer_at w es es step)))

played_steps : (w : World) (es : List Entry) (steps : List Step) → steps_of (played w es steps) ≡ steps_of es ++ steps
played_steps w es [] = sym (append-nil (steps_of es))
played_steps w es (step ∷ steps) = played_steps w (record { step = step; reply = answer_to w es step } ∷ es) steps ∙ ap (λ xs. xs ++ steps) (reverse_onto (map (λ (e : Entry). e.step) es) step []) ∙ append_assoc (steps_of es) (step ∷ []) steps

pub every_run_is_answered : EveryRunIsAnswered
every_run_is_answered w steps = (played w [] steps, played_legal w [] steps tt, played_steps w [] steps)

-- ---- one history
same_head : {X : Type 0} (x y : X) (xs ys : List X) → x ∷ xs ≡ y ∷ ys → x ≡ y
same_head x y xs ys e = ap (λ l. first_or x l) e
  where
    first_or : {X : Type 0} → X → List X → X
    first_or d [] = d
    first_or d (z ∷ zs) = z

same_tail : {X : Type 0} (x y : X) (xs ys : List X) → x ∷ xs ≡ y ∷ ys → xs ≡ ys
same_tail x y xs ys e = ap rest e
  where
    rest : {X : Type 0} → List X → List X
    rest [] = []
    rest (z ∷ zs) = zs

with_memory : (w : World) (es : List Entry) (step : Step) (r : Told) → IsAnswer w es es step r ⊎ LacksMemory step r → (r ≡ Refused NoMemory → ⊥) → IsAnswer w es es step r
with_memory w es step r (inl h) n = h
with_memory w es step r (inr x) n = absurd (n x.1)

-- two replies that stand where they are left open
said : (v : Bool) (x y : Told) → cond v (Some x) None ≡ cond v (Some y) None → v ≡ true → x ≡ y
said true x y e t = ap (λ o. unwrap_or o x) e
said false x y e t = absurd (true≢false (sym t))

same_steps : (w : World) (h k : List Entry) → Legal w h → Legal w k → HasMemory h → HasMemory k → map asked_of h ≡ map asked_of k → h ≡ k
same_steps w [] [] l m a b q = refl
same_steps w (e ∷ es) (f ∷ fs) l m a b q =
    let p : es ≡ fs = same_steps w es fs l.0 m.0 a.0 b.0 (same_tail (asked_of e) (asked_of f) _ _ q) in
    let asked : asked_of e ≡ asked_of f = same_head (asked_of e) (asked_of f) _ _ q in
    let step : e.step ≡ f.step = ap (λ (x : Step × Option Told). x.0) asked in
    let left_open : is_left_open e.step ≡ true → e.reply ≡ f.reply = said (is_left_open e.step) e.reply f.reply (ap (λ (x : Step × Option Told). x.1) asked ∙ sym (ap (λ (s : Step). cond (is_left_open s) (Some f.reply) None) step)) in
    let closed : is_left_open e.step ≡ false → e.reply ≡ f.reply = λ n.
    closed_reply e.step (answer_at w es es e.step) e.reply n (with_memory w es e.step e.reply l.1 a.1)
    ∙ (λ i. answer_at w (p i) (p i) (step i))
    ∙ sym (closed_reply f.step (answer_at w fs fs f.step) f.reply (sym (ap is_left_open step) ∙ n) (with_memory w fs f.step f.reply m.1 b.1)) in
    let reply : e.reply ≡ f.reply = by_bool (is_left_open e.step) left_open closed in
    λ i. record { step = step i; reply = reply i } ∷ p i
same_steps w [] (f ∷ fs) l m a b q = absurd (cc)
same_steps w (e ∷ es) [] l m a b q = absurd (cc)

pub one_history : OneHistory
one_history w h k l m a b q = same_steps w h k l m a b q

-- ---- no events
unmoved_by : (w : World) (es : List Entry) (step : Step) (r : Told) → IsNoEvent step r → world_after w (record { step = step; reply = r } ∷ es) ≡ world_after w es
unfolding journal clock_of
unmoved_by w es (Event e) (Refused NoMemory) n = refl
unmoved_by w es (Event e) (Refused (TooLarge Sessions)) n = refl
unmoved_by w es (Event e) (Refused (NoSession slot)) n = refl
unmoved_by w es (Event e) (Refused (NoJob slot)) n = refl
unmoved_by w es (Event e) r n = absurd n
unmoved_by w es step r h = refl

pub unmoved : Unmoved
unmoved w es e n = unmoved_by w es e.step e.reply n
