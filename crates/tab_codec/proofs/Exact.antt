-- Readers that give exactly what a relation says, and how such readers are composed.
use Rattle.std.proofs.Common.{◌≡◌, ℕ, suc, ◌+◌, ◌^◌, ◌<◌, ◌≤◌, Bool, true, false, cond, ltb, eqb, List, [], ◌∷◌, ◌++◌, length, take, drop, Option, Some, None, refl, sym, ap, subst, ◌∙◌, append_assoc, arith, inl, inr}
use Rattle.std.specs.Int.{Width, w16, w32, w64, byte_len, from_be_bytes, to_be_bytes}
use Rattle.std.proofs.lemmas.Bool.{cases_lt, ltb-false, le-ltb, eqb-true}
use Rattle.std.proofs.lemmas.List.{take_at, drop_at, take-append-drop, length-append, length-take, get_or-drop, get_or-take, get_or_past, append-nil, nil_from_length}
use Rattle.std.proofs.lemmas.Nat.{be_bytes_2, be_bytes_4, be_bytes_8, from_be_bytes-to_be_bytes_2, from_be_bytes-to_be_bytes_4, from_be_bytes-to_be_bytes_8}
use Rattle.tab_codec.specs.Parts.{IsBytes, IsByte, IsU16, IsU32, IsU64}
use Rattle.tab_codec.specs.Exactness.{Takes, Exact}
use Rattle.tab_codec.specs.Reading.{◌>>=◌, Reader, and_then, mapped, picked, given, nothing_at, whole, u8_at, number_at, u16_at, u32_at, u64_at, bytes_at}

-- ---- bytes
pub bytes-drop : (n : ℕ) (bytes : List ℕ) → IsBytes bytes → IsBytes (drop n bytes)
bytes-drop n bytes h i = rw get_or-drop (h (n + i))

pub bytes-take : (n : ℕ) (bytes : List ℕ) → IsBytes bytes → IsBytes (take n bytes)
bytes-take n bytes h i =
    elim (cases_lt i n) [
      | inl lt ↦ rw (get_or-take n bytes i 0 lt) (h i)
      | inr le ↦ rw (get_or_past (take n bytes) i 0 (omega (arith, length-take n bytes))) (omega arith)
    ]

pub bytes-rest : (b : ℕ) (bytes : List ℕ) → IsBytes (b ∷ bytes) → IsBytes bytes
bytes-rest b bytes h i = h (suc i)

-- ---- options
pub some_inj : {A : Type 0} (x y : A) → Some x ≡ Some y → x ≡ y
some_inj {A} x y e =
    let or_x : Option A → A = λ o. elim o [ None ↦ x | Some z ↦ z ] in
    ap or_x e

pub bind_some : {A B : Type 0} (r : Option A) (x : A) (f : A → Option B) (y : Option B) → r ≡ Some x → f x ≡ y → (r >>= f) ≡ y
bind_some r x f y e h = ap (λ o. o >>= f) e ∙ h

pub on_bind : {A B : Type 0} (r : Option A) (f : A → Option B) (y : B) (P : Type 0) → (r >>= f) ≡ Some y → ((x : A) → r ≡ Some x → f x ≡ Some y → P) → P
on_bind None f y P is then = absurd cc
on_bind (Some x) f y P is then = then x refl is

-- ---- exact readers
-- the same said in other words
pub exact_as : {A : Type 0} {reads : Reader A} {P : List ℕ → A → Type 0} (Q : List ℕ → A → Type 0) → Exact reads P → ((bytes : List ℕ) (x : A) → P bytes x → Q bytes x) → ((bytes : List ℕ) (x : A) → Q bytes x → P bytes x) → Exact reads Q
exact_as Q e to back = record {
  sound = λ bytes x rest fits is. let t = e.sound bytes x rest fits is in record { front = t.front; parts = t.parts; says = to t.front x t.says; fits = t.fits };
  complete = λ front rest x says. e.complete front rest x (back front x says);
}

-- ---- one part and what it leads to
pub record Follows {A B : Type 0} (R : List ℕ → A → Type 0) (Q : A → List ℕ → B → Type 0) (bytes : List ℕ) (y : B) : Type 0 where
  pub first : A
  pub front : List ℕ
  pub back : List ℕ
  pub parts : bytes ≡ front ++ back
  pub says : R front first
  pub next : Q first back y

pub exact_then : {A B : Type 0} (r : Reader A) (R : List ℕ → A → Type 0) (q : A → Reader B) (Q : A → List ℕ → B → Type 0) → Exact r R → ((x : A) → Exact (q x) (Q x)) → Exact (and_then r q) (Follows R Q)
exact_then {A} {B} r R q Q er eq = record {
  sound = λ bytes y rest fits is. on_bind (r bytes) (λ x. q x.0 x.1) (y, rest) (Takes (Follows R Q) bytes y rest) is (λ x read more.
      let t = er.sound bytes x.0 x.1 fits read in
      let u = (eq x.0).sound x.1 y rest t.fits more in
      record {
        front = t.front ++ u.front;
        parts = t.parts ∙ ap (λ (z : List ℕ). t.front ++ z) u.parts ∙ sym (append_assoc t.front u.front rest);
        says = record { first = x.0; front = t.front; back = u.front; parts = refl; says = t.says; next = u.says };
        fits = u.fits;
      });
  complete = λ bytes rest y is.
      ap (λ (z : List ℕ). and_then r q (z ++ rest)) is.parts
      ∙ ap (and_then r q) (append_assoc is.front is.back rest)
      ∙ bind_some (r (is.front ++ (is.back ++ rest))) (is.first, is.back ++ rest) (λ x. q x.0 x.1) (Some (y, rest)) (er.complete is.front (is.back ++ rest) is.first is.says) ((eq is.first).complete is.back rest y is.next);
}

-- ---- one part, changed
pub record Becomes {A B : Type 0} (R : List ℕ → A → Type 0) (f : A → B) (bytes : List ℕ) (y : B) : Type 0 where
  pub first : A
  pub says : R bytes first
  pub becomes : f first ≡ y

pub exact_mapped : {A B : Type 0} (f : A → B) (r : Reader A) (R : List ℕ → A → Type 0) → Exact r R → Exact (mapped f r) (Becomes R f)
exact_mapped {A} {B} f r R er = record {
  sound = λ bytes y rest fits is. on_bind (r bytes) (λ x. Some (f x.0, x.1)) (y, rest) (Takes (Becomes R f) bytes y rest) is (λ x read more.
      let e = some_inj (f x.0, x.1) (y, rest) more in
      let rest_is : x.1 ≡ rest = ap (λ (p : B × List ℕ). p.1) e in
      let t = er.sound bytes x.0 x.1 fits read in
      record { front = t.front; parts = t.parts ∙ ap (λ (z : List ℕ). t.front ++ z) rest_is; says = record { first = x.0; says = t.says; becomes = ap (λ (p : B × List ℕ). p.0) e }; fits = subst IsBytes rest_is t.fits });
  complete = λ front rest y is.
      bind_some (r (front ++ rest)) (is.first, rest) (λ x. Some (f x.0, x.1)) (Some (y, rest)) (er.complete front rest is.first is.says) (ap (λ (z : B). Some (z, rest)) is.becomes);
}

-- ---- one part, by which something is picked
pub record Picks {A B : Type 0} (R : List ℕ → A → Type 0) (pick : A → Option B) (bytes : List ℕ) (y : B) : Type 0 where
  pub first : A
  pub says : R bytes first
  pub picks : pick first ≡ Some y

pub exact_picked : {A B : Type 0} (pick : A → Option B) (r : Reader A) (R : List ℕ → A → Type 0) → Exact r R → Exact (picked pick r) (Picks R pick)
exact_picked {A} {B} pick r R er = record {
  sound = λ bytes y rest fits is. on_bind (r bytes) (λ x. pick x.0 >>= λ z. Some (z, x.1)) (y, rest) (Takes (Picks R pick) bytes y rest) is (λ x read more.
      on_bind (pick x.0) (λ z. Some (z, x.1)) (y, rest) (Takes (Picks R pick) bytes y rest) more (λ z chosen last.
      let e = some_inj (z, x.1) (y, rest) last in
      let rest_is : x.1 ≡ rest = ap (λ (p : B × List ℕ). p.1) e in
      let z_is : z ≡ y = ap (λ (p : B × List ℕ). p.0) e in
      let t = er.sound bytes x.0 x.1 fits read in
      record { front = t.front; parts = t.parts ∙ ap (λ (w : List ℕ). t.front ++ w) rest_is; says = record { first = x.0; says = t.says; picks = chosen ∙ ap (λ (w : B). Some w) z_is }; fits = subst IsBytes rest_is t.fits }));
  complete = λ front rest y is.
      bind_some (r (front ++ rest)) (is.first, rest) (λ x. pick x.0 >>= λ z. Some (z, x.1)) (Some (y, rest)) (er.complete front rest is.first is.says)
      (bind_some (pick is.first) y (λ z. Some (z, rest)) (Some (y, rest)) is.picks refl);
}

-- ---- nothing, and what takes no byte
pub exact_nothing : {A : Type 0} → Exact {A = A} nothing_at (λ bytes x. ⊥)
exact_nothing = record { sound = λ bytes x rest fits is. absurd cc; complete = λ front rest x is. absurd is }

pub exact_given : {A : Type 0} (x : A) → Exact (given x) (λ bytes y. (bytes ≡ []) × (x ≡ y))
exact_given {A} x = record {
  sound = λ bytes y rest fits is.
      let e = some_inj (x, bytes) (y, rest) is in
      record { front = []; parts = ap (λ (p : A × List ℕ). p.1) e; says = (refl, ap (λ (p : A × List ℕ). p.0) e); fits = subst IsBytes (ap (λ (p : A × List ℕ). p.1) e) fits };
  complete = λ front rest y is. ap (λ (z : List ℕ). Some (x, z ++ rest)) is.0 ∙ ap (λ (z : A). Some (z, rest)) is.1;
}

-- ---- by a test
pub exact_if : {A : Type 0} (b : Bool) (r q : Reader A) (R Q : List ℕ → A → Type 0) → Exact r R → Exact q Q → Exact (cond b r q) (cond b R Q)
exact_if true r q R Q er eq = er
exact_if false r q R Q er eq = eq

-- ---- numbers
pub record IsWide (w : Width) (limit : ℕ) : Type 0 where
  pub len : (n : ℕ) → length (to_be_bytes w n) ≡ byte_len w
  pub back : (bytes : List ℕ) → length bytes ≡ byte_len w → IsBytes bytes → to_be_bytes w (from_be_bytes w bytes) ≡ bytes
  pub again : (n : ℕ) → n < limit → from_be_bytes w (to_be_bytes w n) ≡ n
  pub below : (bytes : List ℕ) → IsBytes bytes → from_be_bytes w bytes < limit

pub wide16 : IsWide w16 (2 ^ 16)
wide16 = record {
  len = λ n. refl;
  back = λ bytes len fits. be_bytes_2 bytes _ len fits refl;
  again = λ n lt. from_be_bytes-to_be_bytes_2 n lt;
  below = λ bytes fits. omega (arith, fits 0, fits 1);
}

pub wide32 : IsWide w32 (2 ^ 32)
wide32 = record {
  len = λ n. refl;
  back = λ bytes len fits. be_bytes_4 bytes _ len fits refl;
  again = λ n lt. from_be_bytes-to_be_bytes_4 n lt;
  below = λ bytes fits. omega (arith, fits 0, fits 1, fits 2, fits 3);
}

pub wide64 : IsWide w64 (2 ^ 64)
wide64 = record {
  len = λ n. refl;
  back = λ bytes len fits. be_bytes_8 bytes _ len fits refl;
  again = λ n lt. from_be_bytes-to_be_bytes_8 n lt;
  below = λ bytes fits. omega (arith, fits 0, fits 1, fits 2, fits 3, fits 4, fits 5, fits 6, fits 7);
}

-- a test that didn't fail
pub on_guard : {A : Type 0} (b : Bool) (x y : A) (P : Type 0) → cond b None (Some x) ≡ Some y → (b ≡ false → x ≡ y → P) → P
on_guard true x y P is then = absurd cc
on_guard false x y P is then = then refl (some_inj x y is)

pub exact_number : (w : Width) (limit : ℕ) → IsWide w limit → Exact (number_at w) (λ bytes n. (bytes ≡ to_be_bytes w n) × (n < limit))
exact_number w limit wide = record {
  sound = λ bytes n rest fits is. on_guard (ltb (length bytes) (byte_len w)) (from_be_bytes w (take (byte_len w) bytes), drop (byte_len w) bytes) (n, rest) (Takes (λ bytes n. (bytes ≡ to_be_bytes w n) × (n < limit)) bytes n rest) is (λ no e.
      let long : byte_len w ≤ length bytes = ltb-false _ _ no in
      let n_is : from_be_bytes w (take (byte_len w) bytes) ≡ n = ap (λ (p : ℕ × List ℕ). p.0) e in
      let rest_is : drop (byte_len w) bytes ≡ rest = ap (λ (p : ℕ × List ℕ). p.1) e in
      let front : take (byte_len w) bytes ≡ to_be_bytes w n = sym (wide.back (take (byte_len w) bytes) (omega (arith, length-take (byte_len w) bytes)) (bytes-take (byte_len w) bytes fits)) ∙ ap (to_be_bytes w) n_is in
      record {
        front = take (byte_len w) bytes;
        parts = sym (take-append-drop (byte_len w) bytes) ∙ ap (λ (z : List ℕ). take (byte_len w) bytes ++ z) rest_is;
        says = (front, subst (λ (k : ℕ). k < limit) n_is (wide.below (take (byte_len w) bytes) (bytes-take (byte_len w) bytes fits)));
        fits = subst IsBytes rest_is (bytes-drop (byte_len w) bytes fits);
      });
  complete = λ front rest n is.
      let len = wide.len n in
      let long : ltb (length (to_be_bytes w n ++ rest)) (byte_len w) ≡ false = le-ltb _ _ (omega (arith, length-append (to_be_bytes w n) rest)) in
      let one : number_at w (to_be_bytes w n ++ rest) ≡ Some (n, rest) = rw (long, take_at (to_be_bytes w n) rest (byte_len w) len, drop_at (to_be_bytes w n) rest (byte_len w) len, wide.again n is.1) refl in
      ap (λ (z : List ℕ). number_at w (z ++ rest)) is.0 ∙ one;
}

pub exact_u16 : Exact u16_at IsU16
unfolding u16_at
exact_u16 = exact_number w16 (2 ^ 16) wide16

pub exact_u32 : Exact u32_at IsU32
unfolding u32_at
exact_u32 = exact_number w32 (2 ^ 32) wide32

pub exact_u64 : Exact u64_at IsU64
unfolding u64_at
exact_u64 = exact_number w64 (2 ^ 64) wide64

u8_sound : (bytes : List ℕ) (n : ℕ) (rest : List ℕ) → IsBytes bytes → u8_at bytes ≡ Some (n, rest) → Takes IsByte bytes n rest
u8_sound [] n rest fits is = absurd cc
u8_sound (b ∷ bytes) n rest fits is =
    let e = some_inj (b, bytes) (n, rest) is in
    let b_is : b ≡ n = ap (λ (p : ℕ × List ℕ). p.0) e in
    let rest_is : bytes ≡ rest = ap (λ (p : ℕ × List ℕ). p.1) e in
    record { front = b ∷ []; parts = ap (λ (z : List ℕ). b ∷ z) rest_is; says = ap (λ (m : ℕ). m ∷ []) b_is; fits = subst IsBytes rest_is (bytes-rest b bytes fits) }

pub exact_u8 : Exact u8_at IsByte
exact_u8 = record { sound = u8_sound; complete = λ front rest n is. ap (λ (z : List ℕ). u8_at (z ++ rest)) is }

-- so many bytes
pub exact_bytes : (n : ℕ) → Exact (bytes_at n) (λ bytes text. (bytes ≡ text) × (length text ≡ n))
exact_bytes n = record {
  sound = λ bytes text rest fits is. on_guard (ltb (length bytes) n) (take n bytes, drop n bytes) (text, rest) (Takes (λ bytes text. (bytes ≡ text) × (length text ≡ n)) bytes text rest) is (λ no e.
      let long : n ≤ length bytes = ltb-false _ _ no in
      let text_is : take n bytes ≡ text = ap (λ (p : List ℕ × List ℕ). p.0) e in
      let rest_is : drop n bytes ≡ rest = ap (λ (p : List ℕ × List ℕ). p.1) e in
      record {
        front = take n bytes;
        parts = sym (take-append-drop n bytes) ∙ ap (λ (z : List ℕ). take n bytes ++ z) rest_is;
        says = (text_is, ap (λ (z : List ℕ). length z) (sym text_is) ∙ omega (arith, length-take n bytes));
        fits = subst IsBytes rest_is (bytes-drop n bytes fits);
      });
  complete = λ front rest text is.
      let long : ltb (length (text ++ rest)) n ≡ false = le-ltb _ _ (omega (arith, length-append text rest, is.1)) in
      let one : bytes_at n (text ++ rest) ≡ Some (text, rest) = rw (long, take_at text rest n is.1, drop_at text rest n is.1) refl in
      ap (λ (z : List ℕ). bytes_at n (z ++ rest)) is.0 ∙ one;
}

-- ---- all bytes
whole_of : {A : Type 0} (b : Bool) (x y : A) (P : Type 0) → cond b (Some x) None ≡ Some y → (b ≡ true → x ≡ y → P) → P
whole_of true x y P is then = then refl (some_inj x y is)
whole_of false x y P is then = absurd cc

pub whole_sound : {A : Type 0} (r : Reader A) (R : List ℕ → A → Type 0) → Exact r R → (bytes : List ℕ) (x : A) → IsBytes bytes → whole (r bytes) ≡ Some x → R bytes x
whole_sound {A} r R er bytes x fits is =
    on_bind (r bytes) (λ y. cond (eqb (length y.1) 0) (Some y.0) None) x (R bytes x) is (λ y read more.
    whole_of (eqb (length y.1) 0) y.0 x (R bytes x) more (λ none e.
    let t = er.sound bytes y.0 y.1 fits read in
    let nothing : y.1 ≡ [] = nil_from_length y.1 (eqb-true _ _ none) in
    let all : bytes ≡ t.front = t.parts ∙ ap (λ (z : List ℕ). t.front ++ z) nothing ∙ append-nil t.front in
    subst (λ (z : A). R bytes z) e (subst (λ (z : List ℕ). R z y.0) (sym all) t.says)))

pub whole_complete : {A : Type 0} (r : Reader A) (R : List ℕ → A → Type 0) → Exact r R → (bytes : List ℕ) (x : A) → R bytes x → whole (r bytes) ≡ Some x
whole_complete r R er bytes x is = ap (λ o. whole o) (ap r (sym (append-nil bytes)) ∙ er.complete bytes [] x is)
