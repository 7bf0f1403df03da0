-- How what was read is taken apart again.
use Rattle.std.proofs.Common.{ℕ, ◌≡◌, Bool, true, false, cond, List, [], ◌∷◌, refl, sym, ap, ◌∙◌, subst, Some, None, Option}
use Rattle.std.specs.Option.{option_map, option_and_then}
use Rattle.tab_lines.specs.Gives.{◌>>=◌, field, ends, optional}

abbrev pub Words : Type 0
Words = List (List ℕ)

-- a reader of words gives exactly what the relation says
pub record ReadsExactly {A : Type 0} (reads : List ℕ → Option A) (Says : List ℕ → A → Type 0) : Type 0 where
  pub sound : (word : List ℕ) (x : A) → reads word ≡ Some x → Says word x
  pub complete : (word : List ℕ) (x : A) → Says word x → reads word ≡ Some x

-- what is there is one thing
pub some_inj : {A : Type 0} (x y : A) → Some x ≡ Some y → x ≡ y
some_inj {A} x y e =
    let or_x : Option A → A = λ o. elim o [ None ↦ x | Some z ↦ z ] in
    ap or_x e

-- ---- forwards

pub bind_some : {A B : Type 0} (r : Option A) (x : A) (f : A → Option B) (y : Option B) → r ≡ Some x → f x ≡ y → (r >>= f) ≡ y
bind_some r x f y e h = ap (λ o. o >>= f) e ∙ h

pub field_some : {A : Type 0} (reads : List ℕ → Option A) (word : List ℕ) (words : Words) (x : A) → reads word ≡ Some x → field reads (word ∷ words) ≡ Some (x, words)
field_some reads word words x e = ap (λ o. option_map (λ y. (y, words)) o) e

-- ---- backwards

pub on_bind : {A B : Type 0} (r : Option A) (f : A → Option B) (y : B) (P : Type 0) → (r >>= f) ≡ Some y → ((x : A) → r ≡ Some x → f x ≡ Some y → P) → P
on_bind None f y P is then = absurd cc
on_bind (Some x) f y P is then = then x refl is

pub on_map : {A B : Type 0} (f : A → B) (r : Option A) (y : B) (P : Type 0) → option_map f r ≡ Some y → ((x : A) → r ≡ Some x → f x ≡ y → P) → P
on_map f None y P is then = absurd cc
on_map f (Some x) y P is then = then x refl (some_inj (f x) y is)

pub on_then : {A B : Type 0} (f : A → Option B) (r : Option A) (y : B) (P : Type 0) → option_and_then f r ≡ Some y → ((x : A) → r ≡ Some x → f x ≡ Some y → P) → P
on_then f None y P is then = absurd cc
on_then f (Some x) y P is then = then x refl is

pub on_field : {A B : Type 0} (reads : List ℕ → Option A) (words : Words) (f : A × Words → Option B) (y : B) (P : Words → Type 0)
    → (field reads words >>= f) ≡ Some y → ((word : List ℕ) (rest : Words) (x : A) → reads word ≡ Some x → f (x, rest) ≡ Some y → P (word ∷ rest)) → P words
on_field reads [] f y P is then = absurd cc
on_field reads (word ∷ rest) f y P is then =
    on_bind (field reads (word ∷ rest)) f y (P (word ∷ rest)) is (λ x e is'.
    elim (reads word) as (λ r. reads word ≡ r → option_map (λ z. (z, rest)) r ≡ Some x → P (word ∷ rest)) [
      | None ↦ λ read no. absurd cc
      | Some z ↦ λ read yes. then word rest z read (ap f (some_inj (z, rest) x yes) ∙ is')
    ] refl e)

pub on_read : {A : Type 0} (reads : List ℕ → Option A) (words : Words) (x : A) (rest : Words) (P : Words → Type 0)
    → field reads words ≡ Some (x, rest) → ((word : List ℕ) → reads word ≡ Some x → P (word ∷ rest)) → P words
on_read reads [] x rest P is then = absurd cc
on_read {A} reads (word ∷ words) x rest P is then =
    on_map (λ y. (y, words)) (reads word) (x, rest) (P (word ∷ words)) is (λ y read e.
    let same : y ≡ x = ap (λ (p : A × Words). p.0) e in
    let left : words ≡ rest = ap (λ (p : A × Words). p.1) e in
    subst (λ (ws : Words). P (word ∷ ws)) (sym left) (then word (read ∙ ap (λ (z : A). Some z) same)))

pub on_ends : {B : Type 0} (words : Words) (f : Words → Option B) (y : B) (P : Words → Type 0) → (ends words >>= f) ≡ Some y → (f [] ≡ Some y → P []) → P words
on_ends [] f y P is then = then is
on_ends (word ∷ rest) f y P is then = absurd cc

pub on_optional : {A B : Type 0} (missing : A) (reads : List ℕ → Option A) (words : Words) (f : A × Words → Option B) (y : B) (P : Words → Type 0)
    → (optional missing reads words >>= f) ≡ Some y → (f (missing, []) ≡ Some y → P [])
    → ((word : List ℕ) (rest : Words) (x : A) → reads word ≡ Some x → f (x, rest) ≡ Some y → P (word ∷ rest)) → P words
on_optional missing reads [] f y P is none then = none is
on_optional missing reads (word ∷ rest) f y P is none then = on_field reads (word ∷ rest) f y P is then

-- which side a test chose
pub on_cond : {A : Type 0} (b : Bool) (x y : Option A) (z : A) (P : Type 0) → cond b x y ≡ Some z → (b ≡ true → x ≡ Some z → P) → (b ≡ false → y ≡ Some z → P) → P
on_cond true x y z P is then other = then refl is
on_cond false x y z P is then other = other refl is
