-- What a first byte decides, ends of ranges, kinds and what tables are made with are read exactly where they stand.
use Rattle.std.proofs.Common.{◌≡◌, ℕ, ◌+◌, ◌<◌, ◌≤◌, ◌==◌, true, false, cond, List, [], ◌∷◌, length, Option, Some, None, refl, sym, ap, subst, ◌∙◌, arith, inl, inr}
use Rattle.std.specs.Prelude.{nat_lt}
use Rattle.std.proofs.lemmas.Bool.Decides.{nat_tests}
use Rattle.std.proofs.lemmas.List.{length-append}
use Rattle.tab_key.specs.declared.key.Kind.{Kind}
use Rattle.tab_key.specs.declared.key.Kind.TheVariants.{Delete, Put}
use Rattle.tab_key.specs.declared.range.Bound.{Bound}
use Rattle.tab_key.specs.declared.range.Bound.TheVariants.{Unbounded, Inclusive, Exclusive}
use Rattle.tab_key.specs.declared.range.Bounds.{Bounds}
use Rattle.tab_rules.specs.declared.constraint.Constraint.{Constraint}
use Rattle.tab_history.specs.Settings.{is_version_count}
use Rattle.tab_history.specs.declared.event.TimeMode.{TimeMode}
use Rattle.tab_history.specs.declared.event.TimeMode.TheVariants.{Any, Server}
use Rattle.tab_codec.specs.Parts.{IsByte, IsU32, IsField, IsOptional, IsBound, IsBounds, kind_byte, IsKind, time_byte, IsTime, IsVersions, constraints_in, IsConstraints}
use Rattle.tab_codec.specs.Reading.{Reader, mapped, given, nothing_at, only_if, u8_at, u32_at, field_at, optional_by, optional_at, bound_by, bound_at, bounds_at, kind_of, kind_at, time_of, time_at, versions_at, constraints_of, constraints_at}
use Rattle.tab_codec.specs.Exactness.{Exact}
use Rattle.tab_codec.proofs.Exact.{some_inj, exact_as, exact_then, Becomes, exact_mapped, exact_picked, exact_nothing, exact_given, exact_u8, exact_u32}
use Rattle.tab_codec.proofs.PartLaw.{exact_field, only_passed, only_passes, Tagged, exact_tagged, eq_is, Either, exact_either}

-- the bytes with the byte that decides
pub begins : (bytes back : List ℕ) (flag k : ℕ) → bytes ≡ flag ∷ back → flag ≡ k → bytes ≡ k ∷ back
begins bytes back flag k parts is = parts ∙ ap (λ (n : ℕ). n ∷ back) is

-- no bytes, and this
abbrev pub Given : {A : Type 0} → A → List ℕ → A → Type 0
Given x bytes y = (bytes ≡ []) × (x ≡ y)

abbrev pub Nothing : {A : Type 0} → List ℕ → A → Type 0
Nothing bytes y = ⊥

-- ---- what may be missing
module _ {A : Type 0} (reads : Reader A) (Says : List ℕ → A → Type 0) (e : Exact reads Says) where
  abbrev ByFlag : ℕ → List ℕ → Option A → Type 0
  ByFlag flag = Either flag 0 (Given None) (Either flag 1 (Becomes Says (λ x. Some x)) Nothing)

  by_flag : (flag : ℕ) → Exact (optional_by reads flag) (ByFlag flag)
  by_flag flag = exact_either flag 0 (given None) (cond (flag == 1) (mapped (λ x. Some x) reads) nothing_at) (Given None) (Either flag 1 (Becomes Says (λ x. Some x)) Nothing) (exact_given None)
      (exact_either flag 1 (mapped (λ x. Some x) reads) nothing_at (Becomes Says (λ x. Some x)) Nothing (exact_mapped (λ x. Some x) reads Says e) exact_nothing)

  optional_to : (bytes : List ℕ) (o : Option A) → Tagged ByFlag bytes o → IsOptional Says bytes o
  unfolding Either
  optional_to bytes o t = elim t.next [
    | inl h ↦ subst (λ (p : Option A). IsOptional Says bytes p) h.1.1 (begins bytes t.back t.flag 0 t.parts h.0 ∙ ap (λ (z : List ℕ). 0 ∷ z) h.1.0)
    | inr h ↦ elim h.1 [
      | inl g ↦ subst (λ (p : Option A). IsOptional Says bytes p) g.1.becomes (t.back, begins bytes t.back t.flag 1 t.parts g.0, g.1.says)
      | inr g ↦ absurd g.1
    ]
  ]

  optional_back : (bytes : List ℕ) (o : Option A) → IsOptional Says bytes o → Tagged ByFlag bytes o
  unfolding Either
  optional_back bytes None is = record { flag = 0; back = []; parts = is; next = inl (refl, (refl, refl)) }
  optional_back bytes (Some x) is = record { flag = 1; back = is.0; parts = is.1; next = inr (refl, inl (refl, record { first = x; says = is.2; becomes = refl })) }

  pub exact_optional : Exact (optional_at reads) (IsOptional Says)
  exact_optional = exact_as (IsOptional Says) (exact_tagged (optional_by reads) ByFlag by_flag) optional_to optional_back

-- ---- bounds
abbrev ByBound : ℕ → List ℕ → Bound → Type 0
ByBound flag = Either flag 0 (Given Unbounded) (Either flag 1 (Becomes IsField (λ row. Inclusive row)) (Either flag 2 (Becomes IsField (λ row. Exclusive row)) Nothing))

by_bound : (flag : ℕ) → Exact (bound_by flag) (ByBound flag)
by_bound flag =
    exact_either flag 0 (given Unbounded) (cond (flag == 1) (mapped (λ row. Inclusive row) field_at) (cond (flag == 2) (mapped (λ row. Exclusive row) field_at) nothing_at)) (Given Unbounded) (Either flag 1 (Becomes IsField (λ row. Inclusive row)) (Either flag 2 (Becomes IsField (λ row. Exclusive row)) Nothing)) (exact_given Unbounded)
    (exact_either flag 1 (mapped (λ row. Inclusive row) field_at) (cond (flag == 2) (mapped (λ row. Exclusive row) field_at) nothing_at) (Becomes IsField (λ row. Inclusive row)) (Either flag 2 (Becomes IsField (λ row. Exclusive row)) Nothing) (exact_mapped (λ row. Inclusive row) field_at IsField exact_field)
    (exact_either flag 2 (mapped (λ row. Exclusive row) field_at) nothing_at (Becomes IsField (λ row. Exclusive row)) Nothing (exact_mapped (λ row. Exclusive row) field_at IsField exact_field) exact_nothing))

bound_to : (bytes : List ℕ) (b : Bound) → Tagged ByBound bytes b → IsBound bytes b
unfolding Either
bound_to bytes b t = elim t.next [
  | inl h ↦ subst (λ (p : Bound). IsBound bytes p) h.1.1 (begins bytes t.back t.flag 0 t.parts h.0 ∙ ap (λ (z : List ℕ). 0 ∷ z) h.1.0)
  | inr h ↦ elim h.1 [
    | inl g ↦ subst (λ (p : Bound). IsBound bytes p) g.1.becomes (t.back, begins bytes t.back t.flag 1 t.parts g.0, g.1.says)
    | inr g ↦ elim g.1 [
      | inl k ↦ subst (λ (p : Bound). IsBound bytes p) k.1.becomes (t.back, begins bytes t.back t.flag 2 t.parts k.0, k.1.says)
      | inr k ↦ absurd k.1
    ]
  ]
]

bound_back : (bytes : List ℕ) (b : Bound) → IsBound bytes b → Tagged ByBound bytes b
unfolding Either
bound_back bytes Unbounded is = record { flag = 0; back = []; parts = is; next = inl (refl, (refl, refl)) }
bound_back bytes (Inclusive row) is = record { flag = 1; back = is.0; parts = is.1; next = inr (refl, inl (refl, record { first = row; says = is.2; becomes = refl })) }
bound_back bytes (Exclusive row) is = record { flag = 2; back = is.0; parts = is.1; next = inr (refl, inr (refl, inl (refl, record { first = row; says = is.2; becomes = refl }))) }

pub exact_bound : Exact bound_at IsBound
unfolding bound_at
exact_bound = exact_as IsBound (exact_tagged bound_by ByBound by_bound) bound_to bound_back

pub exact_bounds : Exact bounds_at IsBounds
unfolding bounds_at
exact_bounds = exact_as IsBounds
    (exact_then bound_at IsBound (λ low. mapped (λ high. record { low = low; high = high }) bound_at) (λ low. Becomes IsBound (λ high. record { low = low; high = high })) exact_bound
    (λ low. exact_mapped (λ high. record { low = low; high = high }) bound_at IsBound exact_bound))
    (λ bytes b f. (f.front, f.back, f.parts, subst (λ (p : Bounds). IsBound f.front p.low) f.next.becomes f.says, subst (λ (p : Bounds). IsBound f.back p.high) f.next.becomes f.next.says))
    (λ bytes b is. record { first = b.low; front = is.0; back = is.1; parts = is.2; says = is.3; next = record { first = b.high; says = is.4; becomes = refl } })

-- ---- kinds of records, and what tables are made with
kind_picks : (n : ℕ) (k : Kind) → kind_of n ≡ Some k → n ≡ kind_byte k
kind_picks n k is = elim (n == 0) as (λ b. (n == 0) ≡ b → cond b (Some Delete) (cond (n == 1) (Some Put) None) ≡ Some k → n ≡ kind_byte k) [
  | true ↦ λ zero_is e. eq_is n 0 zero_is ∙ ap kind_byte (some_inj Delete k e)
  | false ↦ λ not_zero e. elim (n == 1) as (λ b. (n == 1) ≡ b → cond b (Some Put) None ≡ Some k → n ≡ kind_byte k) [
    | true ↦ λ one_is e2. eq_is n 1 one_is ∙ ap kind_byte (some_inj Put k e2)
    | false ↦ λ not_one e2. absurd cc
  ] refl e
] refl is

kind_again : (k : Kind) → kind_of (kind_byte k) ≡ Some k
kind_again Delete = refl
kind_again Put = refl

pub exact_kind : Exact kind_at IsKind
unfolding kind_at
exact_kind = exact_as IsKind (exact_picked kind_of u8_at IsByte exact_u8)
    (λ bytes k p. p.says ∙ ap (λ (n : ℕ). n ∷ []) (kind_picks p.first k p.picks))
    (λ bytes k is. record { first = kind_byte k; says = is; picks = kind_again k })

time_picks : (n : ℕ) (t : TimeMode) → time_of n ≡ Some t → n ≡ time_byte t
time_picks n t is = elim (n == 0) as (λ b. (n == 0) ≡ b → cond b (Some Any) (cond (n == 1) (Some Server) None) ≡ Some t → n ≡ time_byte t) [
  | true ↦ λ z e. eq_is n 0 z ∙ ap time_byte (some_inj Any t e)
  | false ↦ λ z e. elim (n == 1) as (λ b. (n == 1) ≡ b → cond b (Some Server) None ≡ Some t → n ≡ time_byte t) [
    | true ↦ λ o e2. eq_is n 1 o ∙ ap time_byte (some_inj Server t e2)
    | false ↦ λ o e2. absurd cc
  ] refl e
] refl is

time_again : (t : TimeMode) → time_of (time_byte t) ≡ Some t
time_again Any = refl
time_again Server = refl

pub exact_time : Exact time_at IsTime
unfolding time_at
exact_time = exact_as IsTime (exact_picked time_of u8_at IsByte exact_u8)
    (λ bytes t p. p.says ∙ ap (λ (n : ℕ). n ∷ []) (time_picks p.first t p.picks))
    (λ bytes t is. record { first = time_byte t; says = is; picks = time_again t })

pub version_is : (n : ℕ) → is_version_count n ≡ true → (1 ≤ n) × (n ≤ 1000)
version_is n is = (grind (arith, nat_tests), grind (arith, nat_tests))

pub version_passes : (n : ℕ) → 1 ≤ n → n ≤ 1000 → is_version_count n ≡ true
version_passes n low high = grind (arith, nat_tests)

pub exact_versions : Exact versions_at IsVersions
unfolding versions_at
exact_versions = exact_as IsVersions (exact_picked (only_if is_version_count) u32_at IsU32 exact_u32)
    (λ bytes n p. let e = only_passed is_version_count p.first n p.picks in let v = version_is p.first e.0 in subst (λ (m : ℕ). IsVersions bytes m) e.1 (p.says, v.0, v.1))
    (λ bytes n is. record { first = n; says = is.0; picks = only_passes is_version_count n (version_passes n is.1 is.2) })

bits_below : (n : ℕ) → nat_lt n 16 ≡ true → n < 16
bits_below n is = grind (arith, nat_tests)

below_bits : (n : ℕ) → n < 16 → nat_lt n 16 ≡ true
below_bits n lt = grind (arith, nat_tests)

constraints_pick : (n : ℕ) (cs : List Constraint) → constraints_of n ≡ Some cs → (n < 16) × (cs ≡ constraints_in n)
constraints_pick n cs is = elim (nat_lt n 16) as (λ b. nat_lt n 16 ≡ b → cond b (Some (constraints_in n)) None ≡ Some cs → (n < 16) × (cs ≡ constraints_in n)) [
  | true ↦ λ few e. (bits_below n few, sym (some_inj (constraints_in n) cs e))
  | false ↦ λ many e. absurd cc
] refl is

pub exact_constraints : Exact constraints_at IsConstraints
unfolding constraints_at
exact_constraints = exact_as IsConstraints (exact_picked constraints_of u8_at IsByte exact_u8)
    (λ bytes cs p. let e = constraints_pick p.first cs p.picks in (p.first, p.says, e.0, e.1))
    (λ bytes cs is. record { first = is.0; says = is.1; picks = ap (λ b. cond b (Some (constraints_in is.0)) None) (below_bits is.0 is.2) ∙ ap (λ (z : List Constraint). Some z) (sym is.3) })

-- ---- how long a part is at least
pub optional_long : {A : Type 0} (Says : List ℕ → A → Type 0) (bytes : List ℕ) (o : Option A) → IsOptional Says bytes o → 1 ≤ length bytes
optional_long Says bytes None is = subst (λ (z : List ℕ). 1 ≤ length z) (sym is) (omega arith)
optional_long Says bytes (Some x) is = subst (λ (z : List ℕ). 1 ≤ length z) (sym is.1) (omega arith)

pub bound_long : (bytes : List ℕ) (b : Bound) → IsBound bytes b → 1 ≤ length bytes
bound_long bytes Unbounded is = subst (λ (z : List ℕ). 1 ≤ length z) (sym is) (omega arith)
bound_long bytes (Inclusive row) is = subst (λ (z : List ℕ). 1 ≤ length z) (sym is.1) (omega arith)
bound_long bytes (Exclusive row) is = subst (λ (z : List ℕ). 1 ≤ length z) (sym is.1) (omega arith)

pub bounds_long : (bytes : List ℕ) (b : Bounds) → IsBounds bytes b → 2 ≤ length bytes
bounds_long bytes b is =
    let len : length bytes ≡ length is.0 + length is.1 = ap (λ (z : List ℕ). length z) is.2 ∙ length-append is.0 is.1 in
    omega (arith, len, bound_long is.0 b.low is.3, bound_long is.1 b.high is.4)
