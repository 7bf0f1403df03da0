-- What moves do to the sessions that a script keeps for a user, and to the slots of his numbers.
use Rattle.std.proofs.Common.{ℕ, zero, suc, ◌≡◌, ◌+◌, ◌-◌, ◌<◌, ◌≤◌, ◌==◌, Bool, true, false, cond, ◌||◌, ◌⊎◌, inl, inr, List, [], ◌∷◌, ◌++◌, length, get_or, refl, sym, ap, ◌∙◌, arith, length-append, Option, Some, None}
use Rattle.std.specs.Prelude.{count_by, is_some, option_map, nat_le}
use mathlib.Core.Bool.{true≢false}
use Rattle.std.proofs.lemmas.Bool.{eq-eqb, eqb-true}
use Rattle.std.proofs.lemmas.Bool.Decides.{nat_tests}
use Rattle.std.proofs.lemmas.List.{get_or_append_left, get_or_past}
use Rattle.std.proofs.Math.Seq.{get_or-append_seam}
use Rattle.tab_key.specs.Records.{Cell}
use Rattle.tab_cells.specs.SessionState.{SessionState, gave}
use Rattle.tab_history.specs.Sessions.{Move, Opening, Taking, Closing, opened, closed, is_full, session_in}
use Rattle.tab_core.specs.Slots.{slot_at, changed_at}
use Rattle.tab_core.proofs.SlotLemmas.{slot_appended, slot_changed, length_changed, count_same, count_closed, count_appended}
use Rattle.tab_core.proofs.PlaceLemmas.{slot_past}
use Rattle.tab_core.specs.declared.sessions.UserSessions.{UserSessions}
use Rattle.tab_core.specs.Sessions.{is_spent}
use Rattle.tab_shell.specs.Numbers.{slot_named, KeptAre}

-- ---- slots
-- the slot of the next session holds nothing, and no slot behind it
pub nothing_ahead : (moves : List Move) (slot : ℕ) → opened moves ≤ slot → session_in moves slot ≡ None
unfolding opened session_in
nothing_ahead [] slot le = refl
nothing_ahead (Opening all ∷ moves) slot le = go (opened moves == slot) refl (nothing_ahead moves slot (omega (arith, le)))
  where
    go : (b : Bool) → (opened moves == slot) ≡ b → session_in moves slot ≡ None → cond b (Some (record { all = all; given = 0 })) (session_in moves slot) ≡ None
    go true same none = let e : opened moves ≡ slot = eqb-true _ _ same in absurd (omega (arith, e, le))
    go false away none = none
nothing_ahead (Taking k n ∷ moves) slot le = go (k == slot) (nothing_ahead moves slot le)
  where
    go : (b : Bool) → session_in moves slot ≡ None → cond b (option_map (gave n) (session_in moves slot)) (session_in moves slot) ≡ None
    go true none = ap (option_map (gave n)) none
    go false none = none
nothing_ahead (Closing k ∷ moves) slot le = go (k == slot) (nothing_ahead moves slot le)
  where
    go : (b : Bool) → session_in moves slot ≡ None → cond b None (session_in moves slot) ≡ None
    go true none = refl
    go false none = none

-- a number that was given doesn't mind how many were opened
given_same : (slots : List ℕ) (number d d' : ℕ) → number < length slots → get_or slots number d ≡ get_or slots number d'
given_same [] number d d' lt = absurd (omega (arith, lt))
given_same (s ∷ slots) zero d d' lt = refl
given_same (s ∷ slots) (suc number) d d' lt = given_same slots number d d' (omega (arith, lt))

-- a number was given, or stands for the next slot
given_or_not : (slots : List ℕ) (number : ℕ) → (number < length slots) ⊎ (length slots ≤ number)
given_or_not [] number = inr (omega arith)
given_or_not (s ∷ slots) zero = inl (omega arith)
given_or_not (s ∷ slots) (suc number) = go (given_or_not slots number)
  where
    go : (number < length slots) ⊎ (length slots ≤ number) → (suc number < length (s ∷ slots)) ⊎ (length (s ∷ slots) ≤ suc number)
    go (inl lt) = inl (omega (arith, lt))
    go (inr le) = inr (omega (arith, le))

-- the first number that wasn't given, or one behind it
beyond_first : (n k : ℕ) → n ≤ k → (k ≡ n) ⊎ (n < k)
beyond_first n k le = go (n == k) refl
  where
    go : (b : Bool) → (n == k) ≡ b → (k ≡ n) ⊎ (n < k)
    go true same = inl (sym (eqb-true n k same))
    go false away = inr (grind (arith, nat_tests))

pub differ : (a b : ℕ) → (a ≡ b → ⊥) → (a == b) ≡ false
differ a b apart = go (a == b) refl
  where
    go : (t : Bool) → (a == b) ≡ t → t ≡ false
    go true same = absurd (apart (eqb-true a b same))
    go false away = refl

-- a session that is kept has a number that was given
kept_given : (moves : List Move) (slots : List ℕ) (kept : UserSessions) (number : ℕ) (held : SessionState) → KeptAre moves slots kept → slot_at kept.numbered number ≡ Some held → number < length slots
kept_given moves slots kept number held h is = go (given_or_not slots number)
  where
    or_one : Option SessionState → ℕ
    or_one None = 0
    or_one (Some x) = 1

    go : (number < length slots) ⊎ (length slots ≤ number) → number < length slots
    go (inl lt) = lt
    go (inr le) =
        let past : slot_at kept.numbered number ≡ None = slot_past kept.numbered number (omega (arith, le, h.given)) in
        let no : 1 ≡ 0 = ap or_one (sym is ∙ past) in
        absurd (omega (arith, no))

-- numbers are as equal as their slots, where one of them was given
alike : (moves : List Move) (slots : List ℕ) (kept : UserSessions) (i j : ℕ) → KeptAre moves slots kept → i < length slots → (slot_named moves slots i == slot_named moves slots j) ≡ (i == j)
alike moves slots kept i j h lt = go (slot_named moves slots i == slot_named moves slots j) (i == j) refl refl
  where
    go : (a b : Bool) → (slot_named moves slots i == slot_named moves slots j) ≡ a → (i == j) ≡ b → a ≡ b
    go true true ea eb = refl
    go false false ea eb = refl
    go true false ea eb = absurd (true≢false (sym (eq-eqb i j (h.once i j lt (eqb-true _ _ ea))) ∙ eb))
    go false true ea eb = absurd (true≢false (sym (eq-eqb _ _ (ap (slot_named moves slots) (eqb-true i j eb))) ∙ ea))

-- ---- moves of a session that is kept
same_some : (n : ℕ) (s : Option SessionState) → is_some (option_map (gave n) s) ≡ is_some s
same_some n None = refl
same_some n (Some s) = refl

pub kept_taken : (moves : List Move) (slots : List ℕ) (kept : UserSessions) (number n : ℕ) (held : SessionState) → KeptAre moves slots kept → slot_at kept.numbered number ≡ Some held
    → KeptAre (Taking (slot_named moves slots number) n ∷ moves) slots (record kept { numbered = changed_at kept.numbered number (option_map (gave n)) })
unfolding opened closed session_in
kept_taken moves slots kept number n held h is =
    let f : Option SessionState → Option SessionState = option_map (gave n) in
    let long : length (changed_at kept.numbered number f) ≡ length kept.numbered = length_changed kept.numbered number f in
    let lt = kept_given moves slots kept number held h is in
    record {
      count = h.count ∙ ap (λ k. k + kept.scanned) (sym long);
      left = ap (λ c. closed moves + c) (count_same kept.numbered number f (same_some n)) ∙ h.left ∙ ap (λ k. k + kept.scanned) (sym long);
      given = h.given ∙ sym long;
      below = h.below;
      once = h.once;
      sessions = λ j. ap (λ b. cond b (f (session_in moves (slot_named moves slots j))) (session_in moves (slot_named moves slots j))) (alike moves slots kept number j h lt)
          ∙ ap (λ s. cond (number == j) (f s) s) (h.sessions j) ∙ sym (slot_changed kept.numbered number f refl j);
    }

pub kept_closed : (moves : List Move) (slots : List ℕ) (kept : UserSessions) (number : ℕ) (held : SessionState) → KeptAre moves slots kept → slot_at kept.numbered number ≡ Some held
    → KeptAre (Closing (slot_named moves slots number) ∷ moves) slots (record kept { numbered = changed_at kept.numbered number (λ s. None) })
unfolding opened closed session_in
kept_closed moves slots kept number held h is =
    let f : Option SessionState → Option SessionState = λ s. None in
    let long : length (changed_at kept.numbered number f) ≡ length kept.numbered = length_changed kept.numbered number f in
    let lt = kept_given moves slots kept number held h is in
    let fewer = count_closed kept.numbered number held is in
    let was = h.left in
    record {
      count = h.count ∙ ap (λ k. k + kept.scanned) (sym long);
      left = omega (arith, fewer, was, long);
      given = h.given ∙ sym long;
      below = h.below;
      once = h.once;
      sessions = λ j. ap (λ b. cond b None (session_in moves (slot_named moves slots j))) (alike moves slots kept number j h lt)
          ∙ ap (λ s. cond (number == j) None s) (h.sessions j) ∙ sym (slot_changed kept.numbered number f refl j);
    }

-- ---- one more session
-- the new number stands for the new slot
new_slot : (slots : List ℕ) (slot d : ℕ) → get_or (slots ++ slot ∷ []) (length slots) d ≡ slot
new_slot slots slot d = get_or-append_seam slots slot [] d

-- a session is opened and kept
pub kept_opened : (moves : List Move) (slots : List ℕ) (kept : UserSessions) (all : List Cell) → KeptAre moves slots kept
    → KeptAre (Opening all ∷ moves) (slots ++ opened moves ∷ []) (record kept { numbered = kept.numbered ++ Some (record { all = all; given = 0 }) ∷ [] })
unfolding opened closed session_in
kept_opened moves slots kept all h =
    let held : SessionState = record { all = all; given = 0 } in
    let o : ℕ = opened moves in
    let more : List ℕ = slots ++ o ∷ [] in
    let long : length more ≡ length slots + 1 = length-append slots (o ∷ []) in
    let longer : length (kept.numbered ++ Some held ∷ []) ≡ length kept.numbered + 1 = length-append kept.numbered (Some held ∷ []) in
    let counted = count_appended kept.numbered (Some held) in
    let c = h.count in
    let l = h.left in
    let g = h.given in
    record {
      count = omega (arith, c, longer);
      left = omega (arith, l, counted, longer);
      given = omega (arith, g, long, longer);
      below = λ k lt. below k (place k lt);
      once = λ i j lt same. once i j (place i lt) same;
      sessions = sessions;
    }
  where
    -- an old number, or the new one
    place : (k : ℕ) → k < length (slots ++ opened moves ∷ []) → (k < length slots) ⊎ (k ≡ length slots)
    place k lt = go (given_or_not slots k)
      where
        go : (k < length slots) ⊎ (length slots ≤ k) → (k < length slots) ⊎ (k ≡ length slots)
        go (inl less) = inl less
        go (inr le) = inr (omega (arith, le, lt, length-append slots (opened moves ∷ [])))

    old : (k : ℕ) → k < length slots → get_or (slots ++ opened moves ∷ []) k (opened moves + 1) ≡ get_or slots k (opened moves)
    old k lt = get_or_append_left slots (opened moves ∷ []) (opened moves + 1) k lt ∙ given_same slots k (opened moves + 1) (opened moves) lt

    new : get_or (slots ++ opened moves ∷ []) (length slots) (opened moves + 1) ≡ opened moves
    new = new_slot slots (opened moves) (opened moves + 1)

    past : (k : ℕ) → length slots < k → get_or (slots ++ opened moves ∷ []) k (opened moves + 1) ≡ opened moves + 1
    past k lt = get_or_past (slots ++ opened moves ∷ []) k (opened moves + 1) (omega (arith, lt, length-append slots (opened moves ∷ [])))

    below : (k : ℕ) → (k < length slots) ⊎ (k ≡ length slots) → get_or (slots ++ opened moves ∷ []) k (opened moves + 1) < opened moves + 1
    below k (inl lt) = let e = old k lt in let b = h.below k lt in omega (arith, e, b)
    below k (inr is) = let e = ap (λ n. get_or (slots ++ opened moves ∷ []) n (opened moves + 1)) is ∙ new in omega (arith, e)

    beyond : (k : ℕ) → length slots ≤ k → (k ≡ length slots) ⊎ (length slots < k)
    beyond k le = beyond_first (length slots) k le

    later : (k : ℕ) → (k ≡ length slots) ⊎ (length slots < k) → opened moves ≤ get_or (slots ++ opened moves ∷ []) k (opened moves + 1)
    later k (inl is) = let e = ap (λ n. get_or (slots ++ opened moves ∷ []) n (opened moves + 1)) is ∙ new in omega (arith, e)
    later k (inr lt) = let e = past k lt in omega (arith, e)

    once : (i j : ℕ) → (i < length slots) ⊎ (i ≡ length slots) → get_or (slots ++ opened moves ∷ []) i (opened moves + 1) ≡ get_or (slots ++ opened moves ∷ []) j (opened moves + 1) → i ≡ j
    once i j p same = go p (given_or_not slots j)
      where
        go : (i < length slots) ⊎ (i ≡ length slots) → (j < length slots) ⊎ (length slots ≤ j) → i ≡ j
        go (inl a) (inl b) = h.once i j a (sym (old i a) ∙ same ∙ old j b)
        go (inl a) (inr b) = let e = old i a in let lt = h.below i a in let s = later j (beyond j b) in absurd (omega (arith, e, lt, s, same))
        go (inr a) (inl b) = let e = old j b in let lt = h.below j b in let n = ap (λ k. get_or (slots ++ opened moves ∷ []) k (opened moves + 1)) a ∙ new in absurd (omega (arith, e, lt, n, same))
        go (inr a) (inr b) = last a b (beyond j b)
          where
            last : i ≡ length slots → length slots ≤ j → (j ≡ length slots) ⊎ (length slots < j) → i ≡ j
            last a b (inl is) = a ∙ sym is
            last a b (inr lt) = let n = ap (λ k. get_or (slots ++ opened moves ∷ []) k (opened moves + 1)) a ∙ new in let e = past j lt in absurd (omega (arith, n, e, same))

    sessions : (k : ℕ) → cond (opened moves == get_or (slots ++ opened moves ∷ []) k (opened moves + 1)) (Some (record { all = all; given = 0 })) (session_in moves (get_or (slots ++ opened moves ∷ []) k (opened moves + 1)))
        ≡ slot_at (kept.numbered ++ Some (record { all = all; given = 0 }) ∷ []) k
    sessions k = go (given_or_not slots k)
      where
        o : ℕ
        o = opened moves

        slot : ℕ
        slot = get_or (slots ++ opened moves ∷ []) k (opened moves + 1)

        kept_there : slot_at (kept.numbered ++ Some (record { all = all; given = 0 }) ∷ []) k ≡ cond (length kept.numbered == k) (Some (record { all = all; given = 0 })) (slot_at kept.numbered k)
        kept_there = slot_appended kept.numbered (Some (record { all = all; given = 0 })) k

        go : (k < length slots) ⊎ (length slots ≤ k) → cond (o == slot) (Some (record { all = all; given = 0 })) (session_in moves slot) ≡ slot_at (kept.numbered ++ Some (record { all = all; given = 0 }) ∷ []) k
        go (inl lt) =
            let e = old k lt in
            let b = h.below k lt in
            ap (λ t. cond t (Some (record { all = all; given = 0 })) (session_in moves slot)) (differ o slot (λ same. absurd (omega (arith, e, b, same))))
            ∙ ap (session_in moves) e ∙ h.sessions k
            ∙ sym (kept_there ∙ ap (λ t. cond t (Some (record { all = all; given = 0 })) (slot_at kept.numbered k)) (differ (length kept.numbered) k (λ same. absurd (omega (arith, lt, same, h.given)))))
        go (inr le) = there (beyond k le)
          where
            there : (k ≡ length slots) ⊎ (length slots < k) → cond (o == slot) (Some (record { all = all; given = 0 })) (session_in moves slot) ≡ slot_at (kept.numbered ++ Some (record { all = all; given = 0 }) ∷ []) k
            there (inl is) =
                let e : slot ≡ o = ap (λ n. get_or (slots ++ opened moves ∷ []) n (opened moves + 1)) is ∙ new in
                ap (λ t. cond t (Some (record { all = all; given = 0 })) (session_in moves slot)) (eq-eqb o slot (sym e))
                ∙ sym (kept_there ∙ ap (λ t. cond t (Some (record { all = all; given = 0 })) (slot_at kept.numbered k)) (eq-eqb (length kept.numbered) k (sym h.given ∙ sym is)))
            there (inr lt) =
                let e : slot ≡ o + 1 = past k lt in
                ap (λ t. cond t (Some (record { all = all; given = 0 })) (session_in moves slot)) (differ o slot (λ same. absurd (omega (arith, e, same))))
                ∙ nothing_ahead moves slot (omega (arith, e))
                ∙ sym (kept_there ∙ ap (λ t. cond t (Some (record { all = all; given = 0 })) (slot_at kept.numbered k)) (differ (length kept.numbered) k (λ same. absurd (omega (arith, lt, same, h.given))))
                ∙ slot_past kept.numbered k (omega (arith, lt, h.given)))

-- a scan's session was opened and closed, and no other one was touched
pub kept_scanned : (moves after : List Move) (slots : List ℕ) (kept : UserSessions) → KeptAre moves slots kept → opened after ≡ opened moves + 1 → closed after ≡ closed moves + 1
    → ((slot : ℕ) → (slot ≡ opened moves → ⊥) → session_in after slot ≡ session_in moves slot) → KeptAre after slots (record kept { scanned = kept.scanned + 1 })
kept_scanned moves after slots kept h o c others = record {
  count = let a = h.count in omega (arith, o, a);
  left = let a = h.left in omega (arith, c, a);
  given = h.given;
  below = λ k lt. let e = same k lt in let b = h.below k lt in omega (arith, e, b, o);
  once = λ i j lt is. once i j lt is (given_or_not slots j);
  sessions = λ k. there k (given_or_not slots k);
}
  where
    same : (k : ℕ) → k < length slots → slot_named after slots k ≡ slot_named moves slots k
    same k lt = given_same slots k (opened after) (opened moves) lt

    once : (i j : ℕ) → i < length slots → slot_named after slots i ≡ slot_named after slots j → (j < length slots) ⊎ (length slots ≤ j) → i ≡ j
    once i j lt is (inl b) = h.once i j lt (sym (same i lt) ∙ is ∙ same j b)
    once i j lt is (inr b) = let e = same i lt in let low = h.below i lt in let p = get_or_past slots j (opened after) b in absurd (omega (arith, e, low, p, is, o))

    there : (k : ℕ) → (k < length slots) ⊎ (length slots ≤ k) → session_in after (slot_named after slots k) ≡ slot_at kept.numbered k
    there k (inl lt) =
        let b = h.below k lt in
        ap (session_in after) (same k lt) ∙ others (slot_named moves slots k) (λ is. absurd (omega (arith, b, is))) ∙ h.sessions k
    there k (inr le) =
        let p = get_or_past slots k (opened after) le in
        nothing_ahead after (slot_named after slots k) (omega (arith, p)) ∙ sym (slot_past kept.numbered k (omega (arith, le, h.given)))

-- ---- the limits
-- the script finds a full list of sessions as histories do
pub spent_alike : (moves : List Move) (slots : List ℕ) (kept : UserSessions) → KeptAre moves slots kept → is_full moves ≡ is_spent kept
spent_alike moves slots kept h =
    let c = h.count in
    let l = h.left in
    let rest : opened moves - closed moves ≡ count_by is_some kept.numbered = omega (arith, c, l) in
    ap (λ n. nat_le 65536 n || nat_le 4294967295 (opened moves)) rest ∙ ap (λ n. nat_le 65536 (count_by is_some kept.numbered) || nat_le 4294967295 n) c
