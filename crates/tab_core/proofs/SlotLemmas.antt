-- The slots of one user, step by step.
use Rattle.std.proofs.Common.{ℕ, zero, suc, ◌≡◌, ◌+◌, ◌-◌, ◌==◌, Bool, true, false, cond, ◌||◌, List, [], ◌∷◌, ◌++◌, ◌<◌, length, get_or, refl, sym, ap, ◌∙◌, arith, Option, Some, None, length-append}
use Rattle.std.specs.Prelude.{count_by, is_some, option_map, nat_le, slice_set}
use mathlib.Core.Bool.{true≢false}
use Rattle.std.proofs.Math.Dec.{eqb-zero-suc, eqb-suc-zero, eqb-suc-suc}
use Rattle.std.proofs.lemmas.Bool.Decides.{nat_tests}
use Rattle.std.proofs.lemmas.List.Sums.{sum_by-cons}
use Rattle.tab_key.specs.Records.{Cell}
use Rattle.tab_cells.specs.SessionState.{SessionState, gave}
use Rattle.tab_history.specs.Sessions.{Move, Opening, Taking, Closing, opened, closed, session_in, is_full}
use Rattle.tab_core.specs.Slots.{slot_at, changed_at, are_full, SlotsAre}
use Rattle.tab_core.proofs.PlaceLemmas.{set_twice}

pub slot_appended : (ss : List (Option SessionState)) (s : Option SessionState) (k : ℕ) → slot_at (ss ++ s ∷ []) k ≡ cond (length ss == k) s (slot_at ss k)
slot_appended [] s zero = refl
slot_appended [] s (suc k) = ap (λ b. cond b s None) (sym (eqb-zero-suc k))
slot_appended (x ∷ ss) s zero = ap (λ b. cond b s x) (sym (eqb-suc-zero (length ss)))
slot_appended (x ∷ ss) s (suc k) = slot_appended ss s k ∙ ap (λ b. cond b s (slot_at ss k)) (sym (eqb-suc-suc (length ss) k))

pub slot_changed : (ss : List (Option SessionState)) (k : ℕ) (f : Option SessionState → Option SessionState) → f None ≡ None → (j : ℕ) → slot_at (changed_at ss k f) j ≡ cond (k == j) (f (slot_at ss j)) (slot_at ss j)
slot_changed [] k f none j = go (k == j)
  where
    go : (b : Bool) → None ≡ cond b (f None) None
    go true = sym none
    go false = refl
slot_changed (x ∷ ss) zero f none zero = refl
slot_changed (x ∷ ss) zero f none (suc j) = ap (λ b. cond b (f (slot_at ss j)) (slot_at ss j)) (sym (eqb-zero-suc j))
slot_changed (x ∷ ss) (suc k) f none zero = ap (λ b. cond b (f x) x) (sym (eqb-suc-zero k))
slot_changed (x ∷ ss) (suc k) f none (suc j) = slot_changed ss k f none j ∙ ap (λ b. cond b (f (slot_at ss j)) (slot_at ss j)) (sym (eqb-suc-suc k j))

pub length_changed : (ss : List (Option SessionState)) (k : ℕ) (f : Option SessionState → Option SessionState) → length (changed_at ss k f) ≡ length ss
length_changed [] k f = refl
length_changed (x ∷ ss) zero f = refl
length_changed (x ∷ ss) (suc k) f = ap suc (length_changed ss k f)

abbrev one_if : Option SessionState → ℕ
one_if s = cond (is_some s) 1 0

count_more : (x : Option SessionState) (ss : List (Option SessionState)) → count_by is_some (x ∷ ss) ≡ one_if x + count_by is_some ss
count_more x ss = sum_by-cons one_if x ss

pub count_appended : (ss : List (Option SessionState)) (s : Option SessionState) → count_by is_some (ss ++ s ∷ []) ≡ count_by is_some ss + one_if s
count_appended [] s = count_more s [] ∙ omega arith
count_appended (x ∷ ss) s = let ih = count_appended ss s in let a = count_more x (ss ++ s ∷ []) in let b = count_more x ss in omega (arith, ih, a, b)

pub count_same : (ss : List (Option SessionState)) (k : ℕ) (f : Option SessionState → Option SessionState) → ((s : Option SessionState) → is_some (f s) ≡ is_some s) → count_by is_some (changed_at ss k f) ≡ count_by is_some ss
count_same [] k f same = refl
count_same (x ∷ ss) zero f same = count_more (f x) ss ∙ ap (λ b. cond b 1 0 + count_by is_some ss) (same x) ∙ sym (count_more x ss)
count_same (x ∷ ss) (suc k) f same = count_more x (changed_at ss k f) ∙ ap (λ n. one_if x + n) (count_same ss k f same) ∙ sym (count_more x ss)

pub count_closed : (ss : List (Option SessionState)) (k : ℕ) (held : SessionState) → slot_at ss k ≡ Some held → count_by is_some (changed_at ss k (λ s. None)) + 1 ≡ count_by is_some ss
count_closed [] k held is = absurd (cc)
count_closed (x ∷ ss) zero held is = let a = count_more None ss in let b = count_more x ss in let c : one_if x ≡ 1 = ap one_if is in omega (arith, a, b, c)
count_closed (x ∷ ss) (suc k) held is = let ih = count_closed ss k held is in let a = count_more x (changed_at ss k (λ s. None)) in let b = count_more x ss in omega (arith, ih, a, b)

-- ---- how many are open
-- where a place is changed
count_set : (ss : List (Option SessionState)) (at : ℕ) (s put : Option SessionState) → at < length ss → s ≡ get_or ss at s → count_by is_some (slice_set ss at put) + one_if s ≡ count_by is_some ss + one_if put
count_set [] at s put lt is = absurd (omega arith)
count_set (x ∷ ss) zero s put lt is = let a = count_more put ss in let b = count_more x ss in let c : one_if s ≡ one_if x = ap one_if is in omega (arith, a, b, c)
count_set (x ∷ ss) (suc at) s put lt is = let ih = count_set ss at s put (omega arith) is in let a = count_more x (slice_set ss at put) in let b = count_more x ss in omega (arith, ih, a, b)

-- an empty place stays empty
pub count_empty : (ss : List (Option SessionState)) (at : ℕ) (s put : Option SessionState) → at < length ss → s ≡ get_or ss at s → s ≡ None → put ≡ None → count_by is_some (slice_set ss at put) ≡ count_by is_some ss
count_empty ss at s put lt is none put_is = let a = count_set ss at s put lt is in let b : one_if s ≡ 0 = ap one_if none in let c : one_if put ≡ 0 = ap one_if put_is in omega (arith, a, b, c)

-- a session is taken out and put back
pub count_back : (ss : List (Option SessionState)) (at : ℕ) (s put put' : Option SessionState) (held after : SessionState) → at < length ss → s ≡ get_or ss at s → s ≡ Some held → put' ≡ Some after → count_by is_some (slice_set (slice_set ss at put) at put') ≡ count_by is_some ss
count_back ss at s put put' held after lt is some put_is =
    let a = count_set ss at s put' lt is in
    let b : one_if s ≡ 1 = ap one_if some in
    let c : one_if put' ≡ 1 = ap one_if put_is in
    ap (count_by is_some) (set_twice ss at put put' lt) ∙ omega (arith, a, b, c)

-- a session is closed
pub count_gone : (ss : List (Option SessionState)) (at : ℕ) (s put : Option SessionState) → at < length ss → s ≡ get_or ss at s → is_some s ≡ true → put ≡ None → count_by is_some (slice_set ss at put) + 1 ≡ count_by is_some ss
count_gone ss at s put lt is some put_is =
    let a = count_set ss at s put lt is in
    let b : one_if s ≡ 1 = ap (λ (v : Bool). cond v 1 0) some in
    let c : one_if put ≡ 0 = ap one_if put_is in
    omega (arith, a, b, c)

-- one more is opened
pub count_kept : (ss : List (Option SessionState)) (held : SessionState) → count_by is_some (ss ++ Some held ∷ []) ≡ count_by is_some ss + 1
count_kept ss held = count_appended ss (Some held)

-- there are few where they aren't full
pub few_open : (ss : List (Option SessionState)) → are_full ss ≡ false → count_by is_some ss < 65536
few_open ss e = go (nat_le 65536 (count_by is_some ss)) refl e
  where
    go : (v : Bool) → nat_le 65536 (count_by is_some ss) ≡ v → (v || nat_le 4294967295 (length ss)) ≡ false → count_by is_some ss < 65536
    go true s e = absurd (true≢false e)
    go false s e = grind (arith, nat_tests)

-- ---- what moves do
pub slots_none : SlotsAre [] []
unfolding opened closed session_in
slots_none = record { count = refl; left = refl; sessions = λ k. refl }

pub slots_opened : (moves : List Move) (ss : List (Option SessionState)) (all : List Cell) → SlotsAre moves ss → SlotsAre (Opening all ∷ moves) (ss ++ Some (record { all = all; given = 0 }) ∷ [])
unfolding opened closed session_in
slots_opened moves ss all h =
    let held : SessionState = record { all = all; given = 0 } in
    let c = count_appended ss (Some held) in
    let d = h.count in
    let o = h.left in
    record {
      count = omega (arith, length-append ss (Some held ∷ []), d);
      left = omega (arith, c, o);
      sessions = λ k. ap (λ n. cond (n == k) (Some held) (session_in moves k)) d ∙ ap (λ s. cond (length ss == k) (Some held) s) (h.sessions k) ∙ sym (slot_appended ss (Some held) k);
    }

pub slots_taken : (moves : List Move) (ss : List (Option SessionState)) (k n : ℕ) → SlotsAre moves ss → SlotsAre (Taking k n ∷ moves) (changed_at ss k (option_map (gave n)))
unfolding opened closed session_in
slots_taken moves ss k n h = record {
  count = h.count ∙ sym (length_changed ss k (option_map (gave n)));
  left = ap (λ c. closed moves + c) (count_same ss k (option_map (gave n)) same) ∙ h.left;
  sessions = λ j. ap (λ s. cond (k == j) (option_map (gave n) s) s) (h.sessions j) ∙ sym (slot_changed ss k (option_map (gave n)) refl j);
}
  where
    same : (s : Option SessionState) → is_some (option_map (gave n) s) ≡ is_some s
    same None = refl
    same (Some s) = refl

pub slots_closed : (moves : List Move) (ss : List (Option SessionState)) (k : ℕ) (held : SessionState) → slot_at ss k ≡ Some held → SlotsAre moves ss → SlotsAre (Closing k ∷ moves) (changed_at ss k (λ s. None))
unfolding opened closed session_in
slots_closed moves ss k held is h =
    let c = count_closed ss k held is in
    let o = h.left in
    record {
      count = h.count ∙ sym (length_changed ss k (λ s. None));
      left = omega (arith, c, o);
      sessions = λ j. ap (λ s. cond (k == j) None s) (h.sessions j) ∙ sym (slot_changed ss k (λ s. None) refl j);
    }

pub full_alike : (moves : List Move) (ss : List (Option SessionState)) → SlotsAre moves ss → is_full moves ≡ are_full ss
full_alike moves ss h =
    let o = h.left in
    let rest : opened moves - closed moves ≡ count_by is_some ss = omega (arith, o) in
    ap (λ n. nat_le 65536 n || nat_le 4294967295 (opened moves)) rest ∙ ap (λ n. nat_le 65536 (count_by is_some ss) || nat_le 4294967295 n) h.count
