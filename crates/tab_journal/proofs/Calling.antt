-- A file of which the calls are known is a device.
use Rattle.std.proofs.Common.{◌≡◌, ◌⊎◌, ℕ, zero, suc, ◌+◌, ◌≤◌, Bool, true, false, ◌&&◌, List, [], ◌∷◌, ◌++◌, length, take, inl, inr, refl, sym, ap, subst, ◌∙◌, length-append, arith}
use Rattle.std.specs.Prelude.{map, reverse}
use Rattle.std.proofs.lemmas.List.{take_all, drop_all, take-append-le, length-take, reverse-append, nil_from_length}
use Rattle.tab_journal.specs.Device.{Torn, Follows, Only, Elapses}
use Rattle.tab_journal.specs.Calls.{Call, State, state_behind, after_call, MayLeave, LeftSince}
use Rattle.tab_journal.proofs.Appending.{take_first}

-- ---- what holds behind any calls
record IsSound (s : State) : Type 0 where
  low : length s.settled ≤ length s.seen
  prefix : take (length s.settled) s.seen ≡ s.settled
  whole : s.is_usable ≡ true → s.torn ≡ 0

both : (a b : Bool) → (a && b) ≡ true → a ≡ true
both true b is = refl
both false b is = is

sound_append : (ok : Bool) (bytes : List ℕ) (s : State) → IsSound s → IsSound (after_call 0 ok bytes s)
sound_append true bytes s is = record {
  low = omega (arith, is.low, length-append s.seen bytes);
  prefix = take-append-le (length s.settled) s.seen bytes is.low ∙ is.prefix;
  whole = λ usable. is.whole (both s.is_usable true usable);
}
sound_append false bytes s is = record { low = is.low; prefix = is.prefix; whole = λ usable. absurd (never s.is_usable usable) }
  where
    never : (a : Bool) → (a && false) ≡ true → ⊥
    never true is = absurd cc
    never false is = absurd cc

sound_sync : (n : ℕ) (ok : Bool) (bytes : List ℕ) (s : State) → IsSound s → IsSound (after_call (suc n) ok bytes s)
sound_sync n true bytes s is = record { low = omega arith; prefix = take_all (length s.seen) s.seen (omega arith); whole = λ usable. is.whole (both s.is_usable true usable) }
sound_sync n false bytes s is = record { low = is.low; prefix = is.prefix; whole = λ usable. is.whole (both s.is_usable false usable) }

sound_call : (n : ℕ) (ok : Bool) (bytes : List ℕ) (s : State) → IsSound s → IsSound (after_call n ok bytes s)
sound_call zero ok bytes s is = sound_append ok bytes s is
sound_call (suc n) ok bytes s is = sound_sync n ok bytes s is

sound : (calls : List Call) → IsSound (state_behind calls)
sound [] = record { low = omega arith; prefix = refl; whole = λ usable. refl }
sound (call ∷ earlier) = sound_call call.0 call.1 call.2 (state_behind earlier) (sound earlier)

-- ---- what a crash may leave
pub stays_torn : (at n : ℕ) (outcomes : List ℕ → Type 0) → Follows (Torn at n) outcomes outcomes
stays_torn at n outcomes c left = (c, left, record { before = refl; after = refl; no_shorter = omega arith; no_longer = omega arith })

appended_length : (ok : Bool) (bytes : List ℕ) (s : State) → length (after_call 0 ok bytes s).seen + (after_call 0 ok bytes s).torn ≡ length s.seen + s.torn + length bytes
appended_length true bytes s = omega (arith, length-append s.seen bytes)
appended_length false bytes s = omega arith

pub append_torn : (calls : List Call) (ok : Bool) (bytes : List ℕ) → (state_behind calls).is_usable ≡ true
    → Follows (Torn (length (state_behind calls).seen) (length bytes)) (MayLeave (state_behind calls)) (MayLeave (state_behind ((0, ok, bytes) ∷ calls)))
append_torn calls ok bytes usable c left =
    let s = state_behind calls in
    let is = sound calls in
    let none : s.torn ≡ 0 = is.whole usable in
    let d = take (length s.seen) c in
    let long = length-take (length s.seen) c in
    let most : length c ≤ length s.seen + length bytes = omega (arith, left.1, appended_length ok bytes s, none) in (
      d,
      ((omega (arith, left.0.0, is.low, long), sym (take_first (length s.settled) (length s.seen) c is.low left.0.0) ∙ left.0.1), omega (arith, long)),
      record {
        before = sym (take_all (length s.seen) d (omega (arith, long)));
        after = drop_all (length s.seen + length bytes) c most ∙ sym (drop_all (length s.seen + length bytes) d (omega (arith, long)));
        no_shorter = omega (arith, long);
        no_longer = omega (arith, most, long);
      },
    )

pub sync_keeps : (calls : List Call) (ok : Bool) (bytes : List ℕ) (c : List ℕ) → MayLeave (state_behind ((1, ok, bytes) ∷ calls)) c → MayLeave (state_behind calls) c
sync_keeps calls true bytes c left =
    let s = state_behind calls in
    let is = sound calls in (
      (
        omega (arith, left.0.0, is.low),
        take_first (length s.settled) (length s.seen) c is.low (omega (arith, left.0.0, is.low)) ∙ ap (λ (z : List ℕ). take (length s.settled) z) left.0.1 ∙ sym (take_first (length s.settled) (length s.seen) s.seen is.low is.low)
            ∙ is.prefix ∙ sym (take_all (length s.settled) s.settled (omega arith)),
      ),
      left.1,
    )
sync_keeps calls false bytes c left = left

pub sync_settles : (calls : List Call) (bytes : List ℕ) → (state_behind calls).is_usable ≡ true → Only (state_behind calls).seen (MayLeave (state_behind ((1, true, bytes) ∷ calls)))
sync_settles calls bytes usable c left =
    let s = state_behind calls in
    let none : s.torn ≡ 0 = (sound calls).whole usable in
    sym (take_all (length s.seen) c (omega (arith, left.1, none))) ∙ left.0.1 ∙ take_all (length s.seen) s.seen (omega arith)

-- ---- time
pub goes_on_still : (calls : List Call) → Elapses (length calls) (length calls) (LeftSince calls) (LeftSince calls) (MayLeave (state_behind calls))
goes_on_still calls = record { later = omega arith; nothing_else = λ t c le left. inl left; keeps = λ t c le left. left }

pub goes_on_by : (call : Call) (calls : List Call) → Elapses (length calls) (length (call ∷ calls)) (LeftSince calls) (LeftSince (call ∷ calls)) (MayLeave (state_behind (call ∷ calls)))
goes_on_by call calls = record { later = omega arith; nothing_else = now_or_before; keeps = λ t c le left. inr left }
  where
    now_or_before : (t : ℕ) (c : List ℕ) → t ≤ length calls → LeftSince (call ∷ calls) t c → LeftSince calls t c ⊎ MayLeave (state_behind (call ∷ calls)) c
    now_or_before t c le (inl now) = inr now.1
    now_or_before t c le (inr before) = inl before

-- ---- a call more of those that are kept
map_more : {A B : Type 0} (f : A → B) (xs : List A) (x : A) → map f (xs ++ x ∷ []) ≡ map f xs ++ f x ∷ []
map_more f [] x = refl
map_more f (y ∷ xs) x = ap (λ z. f y ∷ z) (map_more f xs x)

pub newest_first : {A B : Type 0} (f : A → B) (xs : List A) (x : A) → reverse (map f (xs ++ x ∷ [])) ≡ f x ∷ reverse (map f xs)
newest_first f xs x = ap reverse (map_more f xs x) ∙ reverse-append (map f xs) (f x ∷ [])

-- ---- the same of calls that are known by an equation
module _ (old new : List Call) where
  module _ (same : new ≡ old) where
    pub torn_still : (at n : ℕ) → Follows (Torn at n) (MayLeave (state_behind old)) (MayLeave (state_behind new))
    torn_still at n = subst (λ (z : List Call). Follows (Torn at n) (MayLeave (state_behind old)) (MayLeave (state_behind z))) (sym same) (stays_torn at n (MayLeave (state_behind old)))

    pub kept_still : (c : List ℕ) → MayLeave (state_behind new) c → MayLeave (state_behind old) c
    kept_still c left = subst (λ (z : List Call). MayLeave (state_behind z) c) same left

    pub time_still : Elapses (length old) (length new) (LeftSince old) (LeftSince new) (MayLeave (state_behind new))
    time_still = subst (λ (z : List Call). Elapses (length old) (length z) (LeftSince old) (LeftSince z) (MayLeave (state_behind z))) (sym same) (goes_on_still old)

  module _ (call : Call) (more : new ≡ call ∷ old) where
    pub time_by : Elapses (length old) (length new) (LeftSince old) (LeftSince new) (MayLeave (state_behind new))
    time_by = subst (λ (z : List Call). Elapses (length old) (length z) (LeftSince old) (LeftSince z) (MayLeave (state_behind z))) (sym more) (goes_on_by call old)

  pub torn_by : (ok : Bool) (bytes file : List ℕ) → new ≡ (0, ok, bytes) ∷ old → (state_behind old).is_usable ≡ true → file ≡ (state_behind old).seen
      → Follows (Torn (length file) (length bytes)) (MayLeave (state_behind old)) (MayLeave (state_behind new))
  torn_by ok bytes file more usable is =
      subst (λ (z : List Call). Follows (Torn (length file) (length bytes)) (MayLeave (state_behind old)) (MayLeave (state_behind z))) (sym more)
      (subst (λ (f : List ℕ). Follows (Torn (length f) (length bytes)) (MayLeave (state_behind old)) (MayLeave (state_behind ((0, ok, bytes) ∷ old)))) (sym is) (append_torn old ok bytes usable))

  pub kept_by : (ok : Bool) (bytes : List ℕ) → new ≡ (1, ok, bytes) ∷ old → (c : List ℕ) → MayLeave (state_behind new) c → MayLeave (state_behind old) c
  kept_by ok bytes more c left = sync_keeps old ok bytes c (subst (λ (z : List Call). MayLeave (state_behind z) c) more left)

  pub settled_by : (bytes file : List ℕ) → new ≡ (1, true, bytes) ∷ old → (state_behind old).is_usable ≡ true → file ≡ (state_behind old).seen → Only file (MayLeave (state_behind new))
  settled_by bytes file more usable is =
      subst (λ (z : List Call). Only file (MayLeave (state_behind z))) (sym more)
      (subst (λ (f : List ℕ). Only f (MayLeave (state_behind ((1, true, bytes) ∷ old)))) (sym is) (sync_settles old bytes usable))

-- nothing is in a file of which nothing was asked
pub nothing_yet : (calls : List Call) → calls ≡ [] → Only [] (MayLeave (state_behind calls))
nothing_yet calls none c left =
    let first = subst (λ (z : List Call). MayLeave (state_behind z) c) none left in
    nil_from_length c (omega (arith, first.1))
