-- Fields, names, lists and counted parts are read exactly where they stand, and so is what a first byte decides.
use Rattle.std.proofs.Common.{◌≡◌, ◌⊎◌, ℕ, zero, suc, ◌+◌, ◌*◌, ◌^◌, ◌<◌, ◌≤◌, ◌==◌, Bool, true, false, cond, ltb, List, [], ◌∷◌, ◌++◌, length, Some, None, refl, sym, ap, subst, ◌∙◌, append_assoc, arith, inl, inr}
use Rattle.std.specs.Int.{w32, w64, to_be_bytes, cast_signed}
use Rattle.std.proofs.lemmas.Bool.{le-ltb, eqb-true}
use Rattle.std.proofs.lemmas.Bool.Decides.{nat_tests}
use Rattle.std.proofs.lemmas.List.{length-append}
use Rattle.tab_key.specs.Names.{IsName}
use Rattle.tab_codec.specs.Parts.{IsBytes, IsByte, IsU32, IsU64, IsI64, IsField, IsNameField, AreParts, IsCounted, IsList}
use Rattle.tab_codec.specs.Reading.{◌>>=◌, Reader, only_if, is_name, u8_at, u32_at, u64_at, i64_at, bytes_at, field_at, name_at, parts_at, parts_within, counted_at, list_at, tagged}
use Rattle.tab_codec.specs.Exactness.{Takes, Exact}
use Rattle.tab_codec.proofs.NameLemmas.{name_is, name_passes}
use Rattle.tab_codec.proofs.Exact.{some_inj, bind_some, on_bind, exact_as, exact_then, exact_mapped, exact_picked, exact_u8, exact_u32, exact_u64, exact_bytes}

-- ---- fields and names
pub exact_field : Exact field_at IsField
unfolding field_at
exact_field = exact_as IsField (exact_then u32_at IsU32 bytes_at (λ n bytes text. (bytes ≡ text) × (length text ≡ n)) exact_u32 exact_bytes)
    (λ bytes text f. (
      f.parts ∙ ap (λ (z : List ℕ). z ++ f.back) f.says.0 ∙ ap (λ (z : List ℕ). to_be_bytes w32 f.first ++ z) f.next.0 ∙ ap (λ (n : ℕ). to_be_bytes w32 n ++ text) (sym f.next.1),
      subst (λ (n : ℕ). n < 2 ^ 32) (sym f.next.1) f.says.1,
    ))
    (λ bytes text is. record { first = length text; front = to_be_bytes w32 (length text); back = text; parts = is.0; says = (refl, is.1); next = (refl, refl) })

-- what passed a test
pub only_passed : {A : Type 0} (test : A → Bool) (x y : A) → only_if test x ≡ Some y → (test x ≡ true) × (x ≡ y)
only_passed test x y is = elim (test x) as (λ b. test x ≡ b → cond b (Some x) None ≡ Some y → (test x ≡ true) × (x ≡ y)) [
  | true ↦ λ yes e. (yes, some_inj x y e)
  | false ↦ λ no e. absurd cc
] refl is

pub only_passes : {A : Type 0} (test : A → Bool) (x : A) → test x ≡ true → only_if test x ≡ Some x
only_passes test x is = ap (λ b. cond b (Some x) None) is

pub exact_name : Exact name_at IsNameField
unfolding name_at
exact_name = exact_as IsNameField (exact_picked (only_if is_name) field_at IsField exact_field)
    (λ bytes name p. let e = only_passed is_name p.first name p.picks in (subst (λ (z : List ℕ). IsField bytes z) e.1 p.says, subst (λ (z : List ℕ). IsName z) e.1 (name_is p.first e.0)))
    (λ bytes name is. record { first = name; says = is.0; picks = only_passes is_name name (name_passes name is.1) })

pub exact_i64 : Exact i64_at IsI64
unfolding i64_at
exact_i64 = exact_as IsI64 (exact_mapped (cast_signed w64) u64_at IsU64 exact_u64)
    (λ bytes z p. (p.first, p.says, sym p.becomes))
    (λ bytes z is. record { first = is.0; says = is.1; becomes = sym is.2 })

-- ---- lists
pub parts_sound : {A : Type 0} (reads : Reader A) (Says : List ℕ → A → Type 0) → Exact reads Says → (n : ℕ) (bytes : List ℕ) (xs : List A) (rest : List ℕ) → IsBytes bytes → parts_at reads n bytes ≡ Some (xs, rest)
    → Takes (λ bs ys. AreParts Says bs ys × (length ys ≡ n)) bytes xs rest
parts_sound {A} reads Says e zero bytes xs rest fits is =
    let h = some_inj ([], bytes) (xs, rest) is in
    let xs_is : [] ≡ xs = ap (λ (p : List A × List ℕ). p.0) h in
    let rest_is : bytes ≡ rest = ap (λ (p : List A × List ℕ). p.1) h in
    subst (λ (p : List A × List ℕ). Takes (λ bs ys. AreParts Says bs ys × (length ys ≡ 0)) bytes p.0 p.1) h (record { front = []; parts = refl; says = (refl, refl); fits = fits })
parts_sound {A} reads Says e (suc n) bytes xs rest fits is =
    let Goal = Takes (λ bs ys. AreParts Says bs ys × (length ys ≡ suc n)) bytes xs rest in
    on_bind (reads bytes) (λ x. parts_at reads n x.1 >>= λ ys. Some (x.0 ∷ ys.0, ys.1)) (xs, rest) Goal is (λ x read more.
    on_bind (parts_at reads n x.1) (λ ys. Some (x.0 ∷ ys.0, ys.1)) (xs, rest) Goal more (λ ys read_more last.
    let t = e.sound bytes x.0 x.1 fits read in
    let u = parts_sound reads Says e n x.1 ys.0 ys.1 t.fits read_more in
    subst (λ (p : List A × List ℕ). Takes (λ bs zs. AreParts Says bs zs × (length zs ≡ suc n)) bytes p.0 p.1) (some_inj (x.0 ∷ ys.0, ys.1) (xs, rest) last)
    (record {
      front = t.front ++ u.front;
      parts = t.parts ∙ ap (λ (z : List ℕ). t.front ++ z) u.parts ∙ sym (append_assoc t.front u.front ys.1);
      says = ((t.front, u.front, refl, t.says, u.says.0), ap suc u.says.1);
      fits = u.fits;
    })))

pub parts_complete : {A : Type 0} (reads : Reader A) (Says : List ℕ → A → Type 0) → Exact reads Says → (xs : List A) (front rest : List ℕ) → AreParts Says front xs → parts_at reads (length xs) (front ++ rest) ≡ Some (xs, rest)
parts_complete reads Says e [] front rest is = ap (λ (z : List ℕ). Some ([], z ++ rest)) is
parts_complete {A} reads Says e (x ∷ xs) front rest is =
    ap (λ (z : List ℕ). parts_at reads (suc (length xs)) (z ++ rest)) is.2
    ∙ ap (λ (z : List ℕ). parts_at reads (suc (length xs)) z) (append_assoc is.0 is.1 rest)
    ∙ bind_some (reads (is.0 ++ (is.1 ++ rest))) (x, is.1 ++ rest) (λ y. parts_at reads (length xs) y.1 >>= λ ys. Some (y.0 ∷ ys.0, ys.1)) (Some (x ∷ xs, rest)) (e.complete is.0 (is.1 ++ rest) x is.3)
    (bind_some (parts_at reads (length xs) (is.1 ++ rest)) (xs, rest) (λ ys. Some (x ∷ ys.0, ys.1)) (Some (x ∷ xs, rest)) (parts_complete reads Says e xs is.1 rest is.4) refl)

-- the parts are as long as their count says at least
parts_long : {A : Type 0} (least : ℕ) (Says : List ℕ → A → Type 0) → ((bytes : List ℕ) (x : A) → Says bytes x → least ≤ length bytes) → (xs : List A) (bytes : List ℕ) → AreParts Says bytes xs → length xs * least ≤ length bytes
parts_long least Says long [] bytes is = omega arith
parts_long least Says long (x ∷ xs) bytes is =
    let one = long is.0 x is.3 in
    let more = parts_long least Says long xs is.1 is.4 in
    let len : length bytes ≡ length is.0 + length is.1 = ap (λ (z : List ℕ). length z) is.2 ∙ length-append is.0 is.1 in
    let times : suc (length xs) * least ≡ least + length xs * least = grind arith in
    omega (arith, one, more, len, times)

pub exact_within : {A : Type 0} (least : ℕ) (reads : Reader A) (Says : List ℕ → A → Type 0) → Exact reads Says → ((bytes : List ℕ) (x : A) → Says bytes x → least ≤ length bytes)
    → (n : ℕ) → Exact (parts_within least reads n) (λ bytes xs. AreParts Says bytes xs × (length xs ≡ n))
exact_within {A} least reads Says e long n = record {
  sound = λ bytes xs rest fits is.
      elim (ltb (length bytes) (n * least)) as (λ b. cond b None (parts_at reads n bytes) ≡ Some (xs, rest) → Takes (λ bs ys. AreParts Says bs ys × (length ys ≡ n)) bytes xs rest) [
        | true ↦ λ no. absurd cc
        | false ↦ λ yes. parts_sound reads Says e n bytes xs rest fits yes
      ] is;
  complete = λ front rest xs is.
      let enough : n * least ≤ length front = subst (λ (k : ℕ). k * least ≤ length front) is.1 (parts_long least Says long xs front is.0) in
      let fits : ltb (length (front ++ rest)) (n * least) ≡ false = le-ltb _ _ (omega (arith, length-append front rest, enough)) in
      ap (λ b. cond b None (parts_at reads n (front ++ rest))) fits
      ∙ subst (λ (k : ℕ). parts_at reads k (front ++ rest) ≡ Some (xs, rest)) is.1 (parts_complete reads Says e xs front rest is.0);
}

pub exact_counted : {A : Type 0} (count : Reader ℕ) (IsCount : List ℕ → ℕ → Type 0) (least : ℕ) (reads : Reader A) (Says : List ℕ → A → Type 0)
    → Exact count IsCount → Exact reads Says → ((bytes : List ℕ) (x : A) → Says bytes x → least ≤ length bytes) → Exact (counted_at count least reads) (IsCounted IsCount Says)
exact_counted {A} count IsCount least reads Says ec er long =
    exact_as (IsCounted IsCount Says) (exact_then count IsCount (λ n. parts_within least reads n) (λ n bytes xs. AreParts Says bytes xs × (length xs ≡ n)) ec (exact_within least reads Says er long))
    (λ bytes xs f. (f.front, f.back, f.parts, subst (λ (n : ℕ). IsCount f.front n) (sym f.next.1) f.says, f.next.0))
    (λ bytes xs is. record { first = length xs; front = is.0; back = is.1; parts = is.2; says = is.3; next = (is.4, refl) })

pub field_long : (bytes text : List ℕ) → IsField bytes text → 4 ≤ length bytes
field_long bytes text is = let len : length bytes ≡ 4 + length text = ap (λ (z : List ℕ). length z) is.0 ∙ length-append (to_be_bytes w32 (length text)) text in omega (arith, len)

pub exact_list : Exact list_at IsList
unfolding list_at
exact_list = exact_counted u32_at IsU32 4 field_at IsField exact_u32 exact_field field_long

-- ---- what a first byte decides
pub record Tagged {A : Type 0} (Q : ℕ → List ℕ → A → Type 0) (bytes : List ℕ) (y : A) : Type 0 where
  pub flag : ℕ
  pub back : List ℕ
  pub parts : bytes ≡ flag ∷ back
  pub next : Q flag back y

pub exact_tagged : {A : Type 0} (q : ℕ → Reader A) (Q : ℕ → List ℕ → A → Type 0) → ((flag : ℕ) → Exact (q flag) (Q flag)) → Exact (tagged q) (Tagged Q)
exact_tagged q Q e = exact_as (Tagged Q) (exact_then u8_at IsByte q Q exact_u8 e)
    (λ bytes y f. record { flag = f.first; back = f.back; parts = f.parts ∙ ap (λ (z : List ℕ). z ++ f.back) f.says; next = f.next })
    (λ bytes y t. record { first = t.flag; front = t.flag ∷ []; back = t.back; parts = t.parts; says = refl; next = t.next })

-- a test, as a fact
pub eq_is : (n k : ℕ) → (n == k) ≡ true → n ≡ k
eq_is n k is = eqb-true n k is

-- one of two readers, as a number is k or isn't
unfoldable pub Either : {A : Type 0} → ℕ → ℕ → (List ℕ → A → Type 0) → (List ℕ → A → Type 0) → List ℕ → A → Type 0
Either n k R Q bytes y = ((n ≡ k) × R bytes y) ⊎ (((n == k) ≡ false) × Q bytes y)

pub exact_either : {A : Type 0} (n k : ℕ) (r q : Reader A) (R Q : List ℕ → A → Type 0) → Exact r R → Exact q Q → Exact (cond (n == k) r q) (Either n k R Q)
unfolding Either
exact_either {A} n k r q R Q er eq =
    elim (n == k) as (λ b. (n == k) ≡ b → Exact (cond b r q) (λ bytes y. ((n ≡ k) × R bytes y) ⊎ (((n == k) ≡ false) × Q bytes y))) [
      | true ↦ λ is. exact_as (λ bytes y. ((n ≡ k) × R bytes y) ⊎ (((n == k) ≡ false) × Q bytes y)) er (λ bytes y h. inl (eq_is n k is, h)) (λ bytes y h. elim h [ inl g ↦ g.1 | inr g ↦ absurd (no is g.0) ])
      | false ↦ λ is. exact_as (λ bytes y. ((n ≡ k) × R bytes y) ⊎ (((n == k) ≡ false) × Q bytes y)) eq (λ bytes y h. inr (is, h)) (λ bytes y h. elim h [ inl g ↦ absurd (other is g.0) | inr g ↦ g.1 ])
    ] refl
  where
    no : (n == k) ≡ true → (n == k) ≡ false → ⊥
    no a b = cc

    other : (n == k) ≡ false → n ≡ k → ⊥
    other a e = grind (arith, nat_tests)
