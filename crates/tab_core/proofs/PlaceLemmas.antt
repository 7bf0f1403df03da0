-- A slot in its place, and what a step leaves there.
use Rattle.std.proofs.Common.{ℕ, zero, suc, ◌≡◌, ◌<◌, ◌≤◌, Bool, true, false, List, [], ◌∷◌, length, get_or, refl, sym, ap, ◌∙◌, subst, arith, Option, Some, None, ◌⊎◌, inl, inr}
use Rattle.std.specs.Prelude.{is_some, option_map, slice_set}
use mathlib.Core.Bool.{true≢false}
use Rattle.tab_key.specs.Records.{Cell}
use Rattle.tab_key.specs.declared.range.Bounds.{Bounds}
use Rattle.tab_history.specs.declared.reply.Refusal.TheVariants.{NoMemory, NoSession}
use Rattle.tab_history.specs.declared.reply.Reply.TheVariants.{Done, Refused, Batch}
use Rattle.tab_history.specs.Answers.{Told, next_answer, many_answer, close_answer}
use Rattle.tab_cells.specs.SessionState.{SessionState, gave, batch}
use Rattle.tab_core.specs.Slots.{slot_at, changed_at, NextFrom, ManyFrom, CloseFrom}

pub slot_past : (ss : List (Option SessionState)) (at : ℕ) → length ss ≤ at → slot_at ss at ≡ None
slot_past [] at le = refl
slot_past (s ∷ ss) zero le = absurd (omega arith)
slot_past (s ∷ ss) (suc at) le = slot_past ss at (omega arith)

pub slot_found : (ss : List (Option SessionState)) (at : ℕ) (s : Option SessionState) → at < length ss → s ≡ get_or ss at s → slot_at ss at ≡ s
slot_found [] at s lt is = absurd (omega arith)
slot_found (x ∷ ss) zero s lt is = sym is
slot_found (x ∷ ss) (suc at) s lt is = slot_found ss at s (omega arith) is

set_same : (ss : List (Option SessionState)) (at : ℕ) → at < length ss → slice_set ss at (slot_at ss at) ≡ ss
set_same [] at lt = absurd (omega arith)
set_same (x ∷ ss) zero lt = refl
set_same (x ∷ ss) (suc at) lt = ap (λ l. x ∷ l) (set_same ss at (omega arith))

set_changed : (ss : List (Option SessionState)) (at : ℕ) (f : Option SessionState → Option SessionState) → at < length ss → slice_set ss at (f (slot_at ss at)) ≡ changed_at ss at f
set_changed [] at f lt = absurd (omega arith)
set_changed (x ∷ ss) zero f lt = refl
set_changed (x ∷ ss) (suc at) f lt = ap (λ l. x ∷ l) (set_changed ss at f (omega arith))

pub set_twice : (ss : List (Option SessionState)) (at : ℕ) (a b : Option SessionState) → at < length ss → slice_set (slice_set ss at a) at b ≡ slice_set ss at b
set_twice [] at a b lt = absurd (omega arith)
set_twice (x ∷ ss) zero a b lt = refl
set_twice (x ∷ ss) (suc at) a b lt = ap (λ l. x ∷ l) (set_twice ss at a b (omega arith))

pub next_past : (ss : List (Option SessionState)) (at n : ℕ) → length ss ≤ at → NextFrom ss at n (Refused (NoSession at)) ss
next_past ss at n le = record { answers = inl (ap (λ (s : Option SessionState). next_answer s at n) (sym (slot_past ss at le))); after = refl }

pub many_past : (ss : List (Option SessionState)) (at : ℕ) (ranges : List Bounds) → length ss ≤ at → ManyFrom ss at ranges (Refused (NoSession at))
many_past ss at ranges le = inl (ap (λ (s : Option SessionState). many_answer s at ranges) (sym (slot_past ss at le)))

pub close_past : (ss : List (Option SessionState)) (at : ℕ) → length ss ≤ at → CloseFrom ss at (Refused (NoSession at)) ss
close_past ss at le = record { answers = ap (λ (s : Option SessionState). close_answer s at) (sym (slot_past ss at le)); after = refl }

-- what was taken out is put back
put_back : (ss : List (Option SessionState)) (at : ℕ) (s put : Option SessionState) → at < length ss → slot_at ss at ≡ s → put ≡ s → slice_set ss at put ≡ ss
put_back ss at s put lt found is = ap (slice_set ss at) (is ∙ sym found) ∙ set_same ss at lt

pub next_none : (ss : List (Option SessionState)) (at n : ℕ) (s put : Option SessionState) → at < length ss → s ≡ get_or ss at s → s ≡ None → put ≡ None → NextFrom ss at n (Refused (NoSession at)) (slice_set ss at put)
next_none ss at n s put lt is none put_is =
    let found : slot_at ss at ≡ None = slot_found ss at s lt is ∙ none in
    record { answers = inl (ap (λ (x : Option SessionState). next_answer x at n) (sym found)); after = put_back ss at None put lt found put_is }

-- a Many is answered from its place, which stays as it was
pub many_there : (ss : List (Option SessionState)) (at : ℕ) (s : Option SessionState) (ranges : List Bounds) (reply : Told) → at < length ss → s ≡ get_or ss at s → (reply ≡ many_answer s at ranges) ⊎ (reply ≡ Refused NoMemory) → ManyFrom ss at ranges reply
many_there ss at s ranges reply lt is told = subst (λ (x : Option SessionState). (reply ≡ many_answer x at ranges) ⊎ (reply ≡ Refused NoMemory)) (sym (slot_found ss at s lt is)) told

pub place_left : (ss : List (Option SessionState)) (at : ℕ) (s put : Option SessionState) → at < length ss → s ≡ get_or ss at s → put ≡ s → slice_set ss at put ≡ ss
place_left ss at s put lt is same = put_back ss at s put lt (slot_found ss at s lt is) same

pub close_done : (ss : List (Option SessionState)) (at : ℕ) (s put : Option SessionState) (held : SessionState) → at < length ss → s ≡ get_or ss at s → s ≡ Some held → put ≡ None → CloseFrom ss at Done (slice_set ss at put)
close_done ss at s put held lt is some put_is =
    let found : slot_at ss at ≡ Some held = slot_found ss at s lt is ∙ some in
    record { answers = ap (λ (x : Option SessionState). close_answer x at) (sym found); after = ap (slice_set ss at) put_is ∙ set_changed ss at (λ x. None) lt }

-- the place is empty
pub close_empty : (ss : List (Option SessionState)) (at : ℕ) (s : Option SessionState) → at < length ss → s ≡ get_or ss at s → is_some s ≡ false → CloseFrom ss at (Refused (NoSession at)) ss
close_empty ss at s lt is empty = record { answers = ap (λ (x : Option SessionState). close_answer x at) (sym (slot_found ss at s lt is ∙ none s empty)); after = refl }
  where
    none : (o : Option SessionState) → is_some o ≡ false → o ≡ None
    none None e = refl
    none (Some held) e = absurd (true≢false e)

-- it holds a session
pub close_full : (ss : List (Option SessionState)) (at : ℕ) (s put : Option SessionState) → at < length ss → s ≡ get_or ss at s → is_some s ≡ true → put ≡ None → CloseFrom ss at Done (slice_set ss at put)
close_full ss at s put lt is full put_is = go s refl
  where
    go : (o : Option SessionState) → s ≡ o → CloseFrom ss at Done (slice_set ss at put)
    go None e = absurd (true≢false (sym full ∙ ap is_some e))
    go (Some held) e = close_done ss at s put held lt is e put_is

pub next_batch : (ss : List (Option SessionState)) (at n : ℕ) (s put put' : Option SessionState) (held after : SessionState) (cells : List Cell) → at < length ss → s ≡ get_or ss at s → s ≡ Some held
    → cells ≡ batch held n → after ≡ gave (length (batch held n)) held → put' ≡ Some after → NextFrom ss at n (Batch cells) (slice_set (slice_set ss at put) at put')
next_batch ss at n s put put' held after cells lt is some batch_is gave_is put_is =
    let found : slot_at ss at ≡ Some held = slot_found ss at s lt is ∙ some in
    let size : length (batch held n) ≡ length cells = ap length (sym batch_is) in
    let set : put' ≡ option_map (gave (length cells)) (slot_at ss at) = put_is ∙ ap Some (gave_is ∙ ap (λ k. gave k held) size) ∙ ap (option_map (gave (length cells))) (sym found) in
    record {
      answers = inl (ap Batch batch_is ∙ ap (λ (x : Option SessionState). next_answer x at n) (sym found));
      after = set_twice ss at put put' lt ∙ ap (slice_set ss at) set ∙ set_changed ss at (option_map (gave (length cells))) lt;
    }

pub next_refused : (ss : List (Option SessionState)) (at n : ℕ) (s put put' : Option SessionState) (held after : SessionState) → at < length ss → s ≡ get_or ss at s → s ≡ Some held → after ≡ held → put' ≡ Some after
    → NextFrom ss at n (Refused NoMemory) (slice_set (slice_set ss at put) at put')
next_refused ss at n s put put' held after lt is some same put_is =
    let found : slot_at ss at ≡ Some held = slot_found ss at s lt is ∙ some in
    record { answers = inr refl; after = set_twice ss at put put' lt ∙ put_back ss at (Some held) put' lt found (put_is ∙ ap Some same) }
