-- How many sessions a connection over a core has opened.
use Rattle.std.proofs.Common.{◌≡◌, ◌⊎◌, inl, inr, ℕ, ℤ, ◌<◌, Bool, true, false, List, [], ◌∷◌, length, Option, Some, None, refl, sym, ap, ◌∙◌, subst, arith, length-append}
use Rattle.std.specs.Prelude.{count_by, is_some, nat_le, ◌||◌}
use mathlib.Core.Bool.{true≢false}
use Rattle.std.proofs.lemmas.Bool.Decides.{nat_tests}
use Rattle.tab_history.specs.declared.event.Act.{Act}
use Rattle.tab_history.specs.declared.reply.Refusal.{Refusal}
use Rattle.tab_history.specs.declared.reply.Refusal.TheVariants.{NoMemory}
use Rattle.tab_history.specs.declared.reply.Reply.{Reply}
use Rattle.tab_history.specs.declared.reply.Reply.TheVariants.{Done, Refused, Opened, Batch, Ranges}
use Rattle.tab_history.specs.Answers.{Told, told, told_of, session_of, next_answer, many_answer, close_answer}
use Rattle.tab_history.specs.Histories.{world_of}
use Rattle.tab_history.specs.Checks.{many_checks}
use Rattle.tab_key.specs.declared.range.Bounds.{Bounds}
use Rattle.tab_core.specs.Shape.{first_some}
use Rattle.tab_core.specs.Parts.{TabletMerge}
use Rattle.tab_core.specs.SessionState.{SessionState, in_ranges}
use Rattle.tab_core.specs.OpenSession.{OpenSession}
use Rattle.tab_core.specs.Stores.{base_of}
use Rattle.tab_core.specs.Slots.{slot_at, are_full, NextFrom, ManyFrom, CloseFrom}
use Rattle.tab_core.specs.Owners.{kept_with}
use Rattle.tab_core.proofs.SlotLemmas.{length_changed}
use Rattle.tab_wire.specs.declared.request.Request.{Request}
use Rattle.tab_wire.specs.declared.request.Request.TheVariants as asks
use Rattle.tab_wire.specs.Asking.{opens, opened_by}
use Rattle.tab_serve.specs.Serves.{Served, asked_at, IsTooMany, OpensNext, Applies, Serves}
use Rattle.tab_serve.proofs.Shut.{event_shut}

-- where a session is opened there was room, and it is counted
pub record Counts (old : List (Option SessionState)) (reply : Told) (new : List (Option SessionState)) : Type 0 where
  pub room : opens reply ≡ true → length old < 4294967295
  pub opened : length new ≡ opened_by (length old) reply

-- nothing is opened
pub none_counted : (old new : List (Option SessionState)) (reply : Told) → opens reply ≡ false → length new ≡ length old → Counts old reply new
none_counted old new (Opened s) shut same = absurd cc
none_counted old new _ shut same = record { room = λ opening. absurd cc; opened = same }

-- ---- steps on a session
next_shut : (s : Option SessionState) (slot n : ℕ) → opens (next_answer s slot n) ≡ false
next_shut None slot n = refl
next_shut (Some held) slot n = refl

next_length : (old new : List (Option SessionState)) (slot n : ℕ) (reply : Told) → NextFrom old slot n reply new → length new ≡ length old
next_length old new slot n (Batch cells) from = ap (λ (ss : List (Option SessionState)). length ss) from.after ∙ length_changed old slot _
next_length old new slot n _ from = ap (λ (ss : List (Option SessionState)). length ss) from.after

next_counted : (old new : List (Option SessionState)) (slot n : ℕ) (reply : Told) → NextFrom old slot n reply new → Counts old reply new
next_counted old new slot n reply from = none_counted old new reply (shut from.answers) (next_length old new slot n reply from)
  where
    shut : (reply ≡ next_answer (slot_at old slot) slot n) ⊎ (reply ≡ Refused NoMemory) → opens reply ≡ false
    shut (inl is) = ap opens is ∙ next_shut (slot_at old slot) slot n
    shut (inr is) = ap opens is

many_shut : (s : Option SessionState) (slot : ℕ) (ranges : List Bounds) → opens (many_answer s slot ranges) ≡ false
many_shut None slot ranges = refl
many_shut (Some held) slot ranges = go (first_some (many_checks ranges))
  where
    go : (o : Option Refusal) → opens (told o (Ranges (in_ranges held ranges))) ≡ false
    go None = refl
    go (Some r) = refl

many_counted : (old : List (Option SessionState)) (slot : ℕ) (ranges : List Bounds) (reply : Told) → ManyFrom old slot ranges reply → Counts old reply old
many_counted old slot ranges reply (inl is) = none_counted old old reply (ap opens is ∙ many_shut (slot_at old slot) slot ranges) refl
many_counted old slot ranges reply (inr is) = none_counted old old reply (ap opens is) refl

close_shut : (s : Option SessionState) (slot : ℕ) → opens (close_answer s slot) ≡ false
close_shut None slot = refl
close_shut (Some held) slot = refl

close_length : (old new : List (Option SessionState)) (slot : ℕ) (reply : Told) → CloseFrom old slot reply new → length new ≡ length old
close_length old new slot Done from = ap (λ (ss : List (Option SessionState)). length ss) from.after ∙ length_changed old slot _
close_length old new slot _ from = ap (λ (ss : List (Option SessionState)). length ss) from.after

close_counted : (old new : List (Option SessionState)) (slot : ℕ) (reply : Told) → CloseFrom old slot reply new → Counts old reply new
close_counted old new slot reply from = none_counted old new reply (ap opens from.answers ∙ close_shut (slot_at old slot) slot) (close_length old new slot reply from)

-- ---- events
-- where the slots aren't full, not all numbers were given
few_opened : (ss : List (Option SessionState)) → are_full ss ≡ false → length ss < 4294967295
few_opened ss room = go (nat_le 65536 (count_by is_some ss)) room
  where
    go : (many : Bool) → (many || nat_le 4294967295 (length ss)) ≡ false → length ss < 4294967295
    go true room = absurd (true≢false room)
    go false room = grind (arith, nat_tests)

pub kept_counted : (ss : List (Option SessionState)) (r : Reply OpenSession TabletMerge) → are_full ss ≡ false → Counts ss (told_of r) (kept_with ss (session_of r))
kept_counted ss (Opened s) room = record { room = λ opening. few_opened ss room; opened = length-append ss (Some s.state ∷ []) }
kept_counted ss _ room = none_counted ss ss _ refl refl

-- ---- any request
module _ {M : Type 0} (gives : M → ℤ → M → Type 0) (old : Served M) (user : List ℕ) (reply : Told) (new : Served M) where
  act_counted : (act : Act) → IsTooMany old act reply new ⊎ OpensNext gives old user act reply new ⊎ Applies gives old user act reply new → Counts old.slots reply new.slots
  act_counted act (inl full) = none_counted old.slots new.slots reply (ap opens full.told) (ap (λ (s : Served M). length s.slots) full.same)
  act_counted act (inr (inl next)) = elim next.does [
    | inl full ↦ absurd (true≢false (sym full.0 ∙ next.room))
    | inr rest ↦ elim rest [
      | inl lacks ↦ none_counted old.slots new.slots reply (ap opens lacks.0) (ap (λ (ss : List (Option SessionState)). length ss) lacks.2)
      | inr did ↦
          let r = did.1.0 in
          subst (λ (ss : List (Option SessionState)). Counts old.slots reply ss) (sym did.1.4)
          (subst (λ (t : Told). Counts old.slots t (kept_with old.slots (session_of r))) (sym did.1.3) (kept_counted old.slots r next.room))
    ]
  ]
  act_counted act (inr (inr other)) =
      let shut : opens (told_of other.answer) ≡ false = event_shut (world_of (base_of old.core)) [] [] (asked_at user other.moment act) (told_of other.answer) other.shut other.steps.right.legal.1 in
      none_counted old.slots new.slots reply (ap opens other.told ∙ shut) (ap (λ (ss : List (Option SessionState)). length ss) other.slots)

  pub counted : (request : Request) → Serves gives old user request reply new → Counts old.slots reply new.slots
  counted (asks.Hello name) says = none_counted old.slots new.slots reply (ap opens says.0) (ap (λ (s : Served M). length s.slots) says.1)
  counted (asks.Act act) says = act_counted act says
  counted (asks.Next slot n) says = next_counted old.slots new.slots slot n reply says.0
  counted (asks.Many slot ranges) says = subst (λ (s : Served M). Counts old.slots reply s.slots) (sym says.1) (many_counted old.slots slot ranges reply says.0)
  counted (asks.Close slot) says = close_counted old.slots new.slots slot reply says.0

  -- there was room for a session that is opened
  pub serves_room : (request : Request) → Serves gives old user request reply new → opens reply ≡ true → length old.slots < 4294967295
  serves_room request says = (counted request says).room

  -- each is counted
  pub serves_opened : (request : Request) → Serves gives old user request reply new → length new.slots ≡ opened_by (length old.slots) reply
  serves_opened request says = (counted request says).opened
