-- A file of which the calls are known is one that may be cut.
use Rattle.std.proofs.Common.{◌≡◌, ◌⊎◌, ℕ, ◌+◌, ◌≤◌, ◌<◌, Bool, true, false, ◌&&◌, ◌||◌, List, [], ◌∷◌, ◌++◌, length, take, inl, inr, refl, sym, ap, subst, ◌∙◌, length-append, arith}
use Rattle.std.proofs.lemmas.Bool.{lt-ltb}
use Rattle.std.proofs.lemmas.List.{take_all, drop_all, take-append-le, length-take, take_min}
use Rattle.tab_journal.specs.Device.{Torn, Follows, Only, Elapses}
use Rattle.tab_recovery.specs.Cutting.{Cut}
use Rattle.tab_recovery.specs.Calls.{Call, seen_after, left_after, seen_behind, MayLeave, is_usable_behind, is_read_behind, LeftSince}
use Rattle.tab_recovery.specs.declared.file_call.Asked.{Asked}
use Rattle.tab_recovery.specs.declared.file_call.Asked.TheVariants.{Found, Read, Append, Cut as CutTo, Sync}

-- ---- what is there is what a crash may leave, as long as no call has failed
not_usable : (a : Bool) → (a && false) ≡ true → ⊥
not_usable true is = absurd cc
not_usable false is = absurd cc

was_usable : (a b : Bool) → (a && b) ≡ true → a ≡ true
was_usable true b is = refl
was_usable false b is = is

put_whole : (seen bytes : List ℕ) → Torn (length seen) (length bytes) seen (seen ++ bytes)
put_whole seen bytes =
    let long = length-append seen bytes in
    record {
      before = take-append-le (length seen) seen bytes (omega arith);
      after = drop_all (length seen + length bytes) (seen ++ bytes) (omega (arith, long)) ∙ sym (drop_all (length seen + length bytes) seen (omega arith));
      no_shorter = omega (arith, long);
      no_longer = omega (arith, long);
    }

cut_whole : (n : ℕ) (seen : List ℕ) → Cut n seen (take n seen)
cut_whole n seen =
    let long = length-take n seen in
    record { first = take_all n (take n seen) (omega (arith, long)); front = sym (take_min n seen) ∙ ap (λ (k : ℕ). take k seen) (sym long) }

left_by : (asked : Asked) (ok : Bool) (bytes seen : List ℕ) (old : List ℕ → Type 0) (usable : Bool) → old seen → (usable && ok) ≡ true → left_after asked ok bytes seen old (seen_after asked ok bytes seen)
left_by Found ok bytes seen old usable was is = tt
left_by (Read n) ok bytes seen old usable was is = tt
left_by Append true bytes seen old usable was is = (seen, was, put_whole seen bytes)
left_by Append false bytes seen old usable was is = absurd (not_usable usable is)
left_by (CutTo n) true bytes seen old usable was is = (seen, was, cut_whole n seen)
left_by (CutTo n) false bytes seen old usable was is = absurd (not_usable usable is)
left_by Sync true bytes seen old usable was is = refl
left_by Sync false bytes seen old usable was is = absurd (not_usable usable is)

pub seen_left : (calls : List Call) → is_usable_behind calls ≡ true → MayLeave calls (seen_behind calls)
seen_left [] usable = refl
seen_left (call ∷ earlier) usable =
    left_by call.0 call.1 call.2 (seen_behind earlier) (MayLeave earlier) (is_usable_behind earlier) (seen_left earlier (was_usable (is_usable_behind earlier) call.1 usable)) usable

sync_keeps : (calls : List Call) (ok : Bool) (bytes : List ℕ) → is_usable_behind calls ≡ true → (c : List ℕ) → MayLeave ((Sync, ok, bytes) ∷ calls) c → MayLeave calls c
sync_keeps calls true bytes usable c is = subst (MayLeave calls) (sym is) (seen_left calls usable)
sync_keeps calls false bytes usable c left = left

-- ---- time
goes_on_still : (calls : List Call) → Elapses (length calls) (length calls) (LeftSince calls) (LeftSince calls) (MayLeave calls)
goes_on_still calls = record { later = omega arith; nothing_else = λ t c le left. inl left; keeps = λ t c le left. left }

goes_on_by : (call : Call) (calls : List Call) → Elapses (length calls) (length (call ∷ calls)) (LeftSince calls) (LeftSince (call ∷ calls)) (MayLeave (call ∷ calls))
goes_on_by call calls = record { later = omega arith; nothing_else = now_or_before; keeps = λ t c le left. inr left }
  where
    now_or_before : (t : ℕ) (c : List ℕ) → t ≤ length calls → LeftSince (call ∷ calls) t c → LeftSince calls t c ⊎ MayLeave (call ∷ calls) c
    now_or_before t c le (inl now) = inr now.1
    now_or_before t c le (inr before) = inl before

-- ---- the same of calls that are known by an equation
module _ (old new : List Call) where
  module _ (same : new ≡ old) where
    pub torn_still : (at n : ℕ) → Follows (Torn at n) (MayLeave old) (MayLeave new)
    torn_still at n c left = (c, subst (λ (z : List Call). MayLeave z c) same left, record { before = refl; after = refl; no_shorter = omega arith; no_longer = omega arith })

    pub cut_still : (n : ℕ) → Follows (Cut n) (MayLeave old) (MayLeave new)
    cut_still n c left = (c, subst (λ (z : List Call). MayLeave z c) same left, record { first = refl; front = sym (take_all (length c) c (omega arith)) })

    pub kept_still : (c : List ℕ) → MayLeave new c → MayLeave old c
    kept_still c left = subst (λ (z : List Call). MayLeave z c) same left

    pub time_still : Elapses (length old) (length new) (LeftSince old) (LeftSince new) (MayLeave new)
    time_still = subst (λ (z : List Call). Elapses (length old) (length z) (LeftSince old) (LeftSince z) (MayLeave z)) (sym same) (goes_on_still old)

  pub time_by : (call : Call) → new ≡ call ∷ old → Elapses (length old) (length new) (LeftSince old) (LeftSince new) (MayLeave new)
  time_by call more = subst (λ (z : List Call). Elapses (length old) (length z) (LeftSince old) (LeftSince z) (MayLeave z)) (sym more) (goes_on_by call old)

  pub torn_by : (ok : Bool) (bytes file : List ℕ) → new ≡ (Append, ok, bytes) ∷ old → file ≡ seen_behind old → Follows (Torn (length file) (length bytes)) (MayLeave old) (MayLeave new)
  torn_by ok bytes file more is =
      subst (λ (f : List ℕ). Follows (Torn (length f) (length bytes)) (MayLeave old) (MayLeave new)) (sym is)
      (λ c left. subst (λ (z : List Call). MayLeave z c) more left)

  pub cut_by : (n : ℕ) (ok : Bool) (bytes : List ℕ) → new ≡ (CutTo n, ok, bytes) ∷ old → Follows (Cut n) (MayLeave old) (MayLeave new)
  cut_by n ok bytes more c left = subst (λ (z : List Call). MayLeave z c) more left

  pub kept_by : (ok : Bool) (bytes : List ℕ) → new ≡ (Sync, ok, bytes) ∷ old → is_usable_behind old ≡ true → (c : List ℕ) → MayLeave new c → MayLeave old c
  kept_by ok bytes more usable c left = sync_keeps old ok bytes usable c (subst (λ (z : List Call). MayLeave z c) more left)

  pub settled_by : (bytes file : List ℕ) → new ≡ (Sync, true, bytes) ∷ old → file ≡ seen_behind old → Only file (MayLeave new)
  settled_by bytes file more is c left = subst (λ (z : List Call). MayLeave z c) more left ∙ sym is

  -- what was read is known behind what was known
  pub read_by : (n : ℕ) (bytes file : List ℕ) → new ≡ (Read n, true, bytes) ∷ old → file ≡ seen_behind old → file ++ bytes ≡ seen_behind new
  read_by n bytes file more is = ap (λ (z : List ℕ). z ++ bytes) is ∙ ap seen_behind (sym more)

  pub end_by : (n : ℕ) (bytes : List ℕ) → new ≡ (Read n, true, bytes) ∷ old → length bytes < n → is_read_behind new ≡ true
  end_by n bytes more less = ap is_read_behind more ∙ ap (λ (b : Bool). b || is_read_behind old) (lt-ltb (length bytes) n less)
