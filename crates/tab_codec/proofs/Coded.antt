-- Codecs: the law of each, of those of its parts.
use Rattle.std.proofs.Common.{◌≡◌, ◌≢◌, ℕ, ℤ, ◌^◌, ◌<◌, ◌≤◌, List, [], ◌∷◌, ◌++◌, length, Option, Some, None, FitsSigned, refl, sym, ap, subst, ◌∙◌, arith, append_assoc, append-nil}
use Rattle.std.specs.Int.{w64, to_be_bytes, cast_unsigned}
use Rattle.std.specs.List.{AllByRecursion, flat_map}
use Rattle.std.proofs.Math.Facts.{Fits-of_z, Fits-lt-pow, Fits-bits, sfits_to_z}
use Rattle.std.proofs.lemmas.Int.{to_z-of_z, of_z-to_z}
use Rattle.tab_key.specs.Names.{IsName}
use Rattle.tab_codec.specs.Parts.{IsBytes, AreParts, IsOptional}
use Rattle.tab_codec.specs.Reading.{Reader, and_then, mapped, picked, u16_at, u32_at, u64_at, i64_at, field_at, name_at, parts_at, counted_at, optional_at}
use Rattle.tab_codec.specs.Exactness.{Exact}
use Rattle.tab_codec.specs.Spelling.{Spells, u16, u32, u64, i64, field, optional, FitsOptional}
use Rattle.tab_codec.specs.Codes.{Codes}
use Rattle.tab_codec.proofs.Exact.{some_inj, exact_as, exact_then, exact_mapped, exact_picked, exact_u16, exact_u32, exact_u64}
use Rattle.tab_codec.proofs.PartLaw.{exact_i64, exact_field, exact_name, parts_sound, parts_complete, exact_counted}
use Rattle.tab_codec.proofs.TagLaw.{exact_optional}

-- ---- the law, of a reader that reads exactly the spellings
nothing_behind : (a b : List ℕ) → a ++ b ≡ [] → b ≡ []
nothing_behind [] b is = is
nothing_behind (x ∷ a) b is = absurd cc

-- nothing is read of a text that was cut off
pub cut_off : {A : Type 0} (reads : Reader A) (Says : List ℕ → A → Type 0) → Exact reads Says → (whole front back : List ℕ) (x : A) → Says whole x → whole ≡ front ++ back → back ≢ [] → IsBytes front → reads front ≡ None
cut_off {A} reads Says e whole front back x says parts some bytes = go (reads front) refl
  where
    go : (o : Option (A × List ℕ)) → reads front ≡ o → reads front ≡ None
    go None is = is
    go (Some y) is =
        let t = e.sound front y.0 y.1 bytes is in
        let all : whole ++ [] ≡ t.front ++ (y.1 ++ back) = append-nil whole ∙ parts ∙ ap (λ (z : List ℕ). z ++ back) t.parts ∙ append_assoc t.front y.1 back in
        let one : Some (x, []) ≡ Some (y.0, y.1 ++ back) = sym (e.complete whole [] x says) ∙ ap reads all ∙ e.complete t.front (y.1 ++ back) y.0 t.says in
        let none : [] ≡ y.1 ++ back = ap (λ (p : A × List ℕ). p.1) (some_inj (x, []) (y.0, y.1 ++ back) one) in
        absurd (some (nothing_behind y.1 back (sym none)))

pub codes : {A : Type 0} (reads : Reader A) (spell : A → List ℕ) (Fits : A → Type 0) → Exact reads (Spells spell Fits) → Codes reads spell Fits
codes {A} reads spell Fits e = record {
  again = λ x rest fits. e.complete (spell x) rest x (refl, fits);
  only = λ bytes x rest fits is. let t = e.sound bytes x rest fits is in (t.parts ∙ ap (λ (z : List ℕ). z ++ rest) t.says.0, t.says.1);
  cut = λ x front back fits bytes whole some. cut_off reads (Spells spell Fits) e (spell x) front back x (refl, fits) whole some bytes;
  apart = λ x y fx fy same.
      let one : Some (x, []) ≡ Some (y, []) = sym (e.complete (spell x) [] x (refl, fx)) ∙ e.complete (spell x) [] y (same, fy) in
      ap (λ (p : A × List ℕ). p.0) (some_inj (x, []) (y, []) one);
}

-- ---- codecs of codecs
-- the same spelling in other words
pub coded_as : {A : Type 0} {reads : Reader A} {spell : A → List ℕ} {Fits : A → Type 0} (other : A → List ℕ) (Others : A → Type 0) → Exact reads (Spells spell Fits)
    → ((x : A) → Fits x → (spell x ≡ other x) × Others x) → ((x : A) → Others x → (other x ≡ spell x) × Fits x) → Exact reads (Spells other Others)
coded_as other Others e to back = exact_as (Spells other Others) e
    (λ bytes x is. let t = to x is.1 in (is.0 ∙ t.0, t.1))
    (λ bytes x is. let t = back x is.1 in (is.0 ∙ t.0, t.1))

-- a part of a record, and what stands behind it; Keeps is known of the record by the parts before
pub coded_next : {A B : Type 0} (part : B → A) (Keeps : B → Type 0) (r : Reader A) (spell : A → List ℕ) (Fits : A → Type 0) (q : A → Reader B) (more : B → List ℕ) (Holds : B → Type 0)
    → Exact r (Spells spell Fits) → ((x : A) → Exact (q x) (Spells more (λ y. Holds y × (Keeps y × (part y ≡ x)))))
    → Exact (and_then r q) (Spells (λ y. spell (part y) ++ more y) (λ y. (Fits (part y) × Holds y) × Keeps y))
coded_next part Keeps r spell Fits q more Holds er eq = exact_as (Spells (λ y. spell (part y) ++ more y) (λ y. (Fits (part y) × Holds y) × Keeps y))
    (exact_then r (Spells spell Fits) q (λ x. Spells more (λ y. Holds y × (Keeps y × (part y ≡ x)))) er eq)
    (λ bytes y f.
    let is : f.first ≡ part y = sym f.next.1.1.1 in (
      f.parts ∙ ap (λ (z : List ℕ). z ++ f.back) (f.says.0 ∙ ap spell is) ∙ ap (λ (z : List ℕ). spell (part y) ++ z) f.next.0,
      ((subst Fits is f.says.1, f.next.1.0), f.next.1.1.0),
    ))
    (λ bytes y is. record { first = part y; front = spell (part y); back = more y; parts = is.0; says = (refl, is.1.0.0); next = (refl, (is.1.0.1, (is.1.1, refl))) })

-- the last part of a record
pub coded_last : {A B : Type 0} (f : A → B) (part : B → A) (Keeps : B → Type 0) (r : Reader A) (spell : A → List ℕ) (Fits : A → Type 0)
    → Exact r (Spells spell Fits) → ((x : A) → part (f x) ≡ x) → ((x : A) → Keeps (f x)) → ((y : B) → Keeps y → f (part y) ≡ y)
    → Exact (mapped f r) (Spells (λ y. spell (part y)) (λ y. Fits (part y) × Keeps y))
coded_last f part Keeps r spell Fits e known keeps whole = exact_as (Spells (λ y. spell (part y)) (λ y. Fits (part y) × Keeps y)) (exact_mapped f r (Spells spell Fits) e)
    (λ bytes y p. let is : p.first ≡ part y = sym (known p.first) ∙ ap part p.becomes in (p.says.0 ∙ ap spell is, (subst Fits is p.says.1, subst Keeps p.becomes (keeps p.first))))
    (λ bytes y is. record { first = part y; says = (is.0, is.1.0); becomes = whole y is.1.1 })

-- ---- numbers, fields and names
pub coded_u16 : Exact u16_at (Spells u16 (λ n. n < 2 ^ 16))
unfolding u16
coded_u16 = exact_u16

pub coded_u32 : Exact u32_at (Spells u32 (λ n. n < 2 ^ 32))
unfolding u32
coded_u32 = exact_u32

pub coded_u64 : Exact u64_at (Spells u64 (λ n. n < 2 ^ 64))
unfolding u64
coded_u64 = exact_u64

pub coded_i64 : Exact i64_at (Spells i64 (λ z. FitsSigned w64 z))
unfolding i64
coded_i64 = exact_as (Spells i64 (λ z. FitsSigned w64 z)) exact_i64
    (λ bytes z is. (
      is.1.0 ∙ ap (to_be_bytes w64) (sym (ap (cast_unsigned w64) is.2 ∙ of_z-to_z w64 is.0 is.1.1)),
      subst (λ (y : ℤ). FitsSigned w64 y) (sym is.2) (sfits_to_z {w = w64} {n = is.0} (Fits-bits {w = w64} {n = is.0} 64 tt is.1.1)),
    ))
    (λ bytes z is. (cast_unsigned w64 z, (is.0, Fits-lt-pow (Fits-of_z {w = w64} {z = z} is.1)), sym (to_z-of_z w64 z is.1)))

pub coded_field : Exact field_at (Spells field (λ text. length text < 2 ^ 32))
unfolding u32
coded_field = exact_field

pub coded_name : Exact name_at (Spells field (λ name. IsName name))
unfolding u32
coded_name = exact_as (Spells field (λ name. IsName name)) exact_name (λ bytes name is. (is.0.0, is.1)) (λ bytes name is. let short : length name ≤ 128 = is.1.1 in ((is.0, omega (arith, short)), is.1))

-- ---- lists
module _ {A : Type 0} (spell : A → List ℕ) (Fits : A → Type 0) where
  parts_to : (bytes : List ℕ) (xs : List A) → AreParts (Spells spell Fits) bytes xs → Spells (flat_map spell) (AllByRecursion Fits) bytes xs
  parts_to bytes [] is = (is, tt)
  parts_to bytes (x ∷ xs) is =
      let behind = parts_to is.1 xs is.4 in
      (is.2 ∙ ap (λ (z : List ℕ). z ++ is.1) is.3.0 ∙ ap (λ (z : List ℕ). spell x ++ z) behind.0, (is.3.1, behind.1))

  parts_back : (bytes : List ℕ) (xs : List A) → Spells (flat_map spell) (AllByRecursion Fits) bytes xs → AreParts (Spells spell Fits) bytes xs
  parts_back bytes [] is = is.0
  parts_back bytes (x ∷ xs) is = (spell x, flat_map spell xs, is.0, (refl, is.1.0), parts_back (flat_map spell xs) xs (refl, is.1.1))

  -- that many
  pub coded_parts : (reads : Reader A) → Exact reads (Spells spell Fits) → (n : ℕ) → Exact (parts_at reads n) (Spells (flat_map spell) (λ xs. AllByRecursion Fits xs × (length xs ≡ n)))
  coded_parts reads e n = record {
    sound = λ bytes xs rest fits is.
        let t = parts_sound reads (Spells spell Fits) e n bytes xs rest fits is in let s = parts_to t.front xs t.says.0 in
        record { front = t.front; parts = t.parts; says = (s.0, (s.1, t.says.1)); fits = t.fits };
    complete = λ front rest xs is. subst (λ (k : ℕ). parts_at reads k (front ++ rest) ≡ Some (xs, rest)) is.1.1 (parts_complete reads (Spells spell Fits) e xs front rest (parts_back front xs (is.0, is.1.0)));
  }

pub coded_counted : {A : Type 0} (count : Reader ℕ) (number : ℕ → List ℕ) (IsNumber : ℕ → Type 0) (least : ℕ) (reads : Reader A) (spell : A → List ℕ) (Fits : A → Type 0)
    → Exact count (Spells number IsNumber) → Exact reads (Spells spell Fits) → ((x : A) → Fits x → least ≤ length (spell x))
    → Exact (counted_at count least reads) (Spells (λ xs. number (length xs) ++ flat_map spell xs) (λ xs. IsNumber (length xs) × AllByRecursion Fits xs))
coded_counted count number IsNumber least reads spell Fits ec er long = exact_as (Spells (λ xs. number (length xs) ++ flat_map spell xs) (λ xs. IsNumber (length xs) × AllByRecursion Fits xs))
    (exact_counted count (Spells number IsNumber) least reads (Spells spell Fits) ec er (λ bytes x is. subst (λ (z : List ℕ). least ≤ length z) (sym is.0) (long x is.1)))
    (λ bytes xs is. let all = parts_to spell Fits is.1 xs is.4 in (is.2 ∙ ap (λ (z : List ℕ). z ++ is.1) is.3.0 ∙ ap (λ (z : List ℕ). number (length xs) ++ z) all.0, (is.3.1, all.1)))
    (λ bytes xs is. (number (length xs), flat_map spell xs, is.0, (refl, is.1.0), parts_back spell Fits (flat_map spell xs) xs (refl, is.1.1)))

-- ---- what may be missing
module _ {A : Type 0} (spell : A → List ℕ) (Fits : A → Type 0) where
  optional_to : (bytes : List ℕ) (o : Option A) → IsOptional (Spells spell Fits) bytes o → Spells (optional spell) (FitsOptional Fits) bytes o
  optional_to bytes None is = (is, tt)
  optional_to bytes (Some x) is = (is.1 ∙ ap (λ (z : List ℕ). 1 ∷ z) is.2.0, is.2.1)

  optional_back : (bytes : List ℕ) (o : Option A) → Spells (optional spell) (FitsOptional Fits) bytes o → IsOptional (Spells spell Fits) bytes o
  optional_back bytes None is = is.0
  optional_back bytes (Some x) is = (spell x, is.0, (refl, is.1))

pub coded_optional : {A : Type 0} (reads : Reader A) (spell : A → List ℕ) (Fits : A → Type 0) → Exact reads (Spells spell Fits) → Exact (optional_at reads) (Spells (optional spell) (FitsOptional Fits))
coded_optional reads spell Fits e = exact_as (Spells (optional spell) (FitsOptional Fits)) (exact_optional reads (Spells spell Fits) e) (optional_to spell Fits) (optional_back spell Fits)

-- ---- what is picked by a part, and back
pub coded_picked : {A B : Type 0} (pick : A → Option B) (part : B → A) (Holds : B → Type 0) (r : Reader A) (spell : A → List ℕ) (Fits : A → Type 0) → Exact r (Spells spell Fits)
    → ((x : A) (y : B) → Fits x → pick x ≡ Some y → (x ≡ part y) × Holds y) → ((y : B) → Holds y → (pick (part y) ≡ Some y) × Fits (part y))
    → Exact (picked pick r) (Spells (λ y. spell (part y)) Holds)
coded_picked pick part Holds r spell Fits e to back = exact_as (Spells (λ y. spell (part y)) Holds) (exact_picked pick r (Spells spell Fits) e)
    (λ bytes y p. let h = to p.first y p.says.1 p.picks in (p.says.0 ∙ ap spell h.0, h.1))
    (λ bytes y is. let h = back y is.1 in record { first = part y; says = (is.0, h.1); picks = h.0 })
