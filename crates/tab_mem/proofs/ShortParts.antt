-- The parts of the records of an accepted mutation are short.
use Rattle.std.proofs.Common.{◌≡◌, ◌⊎◌, inl, inr, ℕ, zero, suc, ◌+◌, ◌<◌, ◌≤◌, List, [], ◌∷◌, ◌++◌, false, sym, subst, length, arith, get_or}
use Rattle.std.specs.Prelude.{ℤ, None, nat_lt}
use Rattle.std.specs.List.{AllByRecursion}
use Rattle.std.proofs.lemmas.Bool.Decides.{nat_tests}
use Rattle.tab_key.specs.Encoding.{IsShort, AreAt, records_at}
use Rattle.tab_key.specs.Records.{Record}
use Rattle.tab_key.specs.Sorted.{IsIn}
use Rattle.tab_key.specs.declared.limited_part.LimitedPart.TheVariants as part
use Rattle.tab_key.specs.declared.limited_part.TheConstants.{MAX_PART_LEN}
use Rattle.tab_mutation.specs.Mutations.{Update, Mutation}
use Rattle.tab_mutation.specs.declared.shape_error.ShapeError.TheVariants.{TooLarge}
use Rattle.tab_mutation.specs.Shape.{first_some, when, first_found, is_too_long, long_name, long_value, empty, oversize, shape_error}
use Rattle.tab_mutation.proofs.Shapes.{none_left, none_right, unmet}
use Rattle.tab_cells.specs.Written.{timed, record_of}
use Rattle.tab_cells.proofs.Lists.{in_append}
use Rattle.tab_mem.specs.Lists.{HasShortParts}

pub short_both : (xs ys : List Record) → HasShortParts xs → HasShortParts ys → HasShortParts (xs ++ ys)
short_both xs ys a b u h = go (in_append xs ys u h)
  where
    go : IsIn xs u ⊎ IsIn ys u → IsShort u
    go (inl k) = a u k
    go (inr k) = b u k

-- what lies in a body is short
pub all_short : (body places : List ℕ) → AreAt body places → HasShortParts (records_at body places)
all_short body [] w u h = absurd h
all_short body (p ∷ ps) w u (inl is) = subst IsShort is w.0.short
all_short body (p ∷ ps) w u (inr h) = all_short body ps w.1 u h

-- ---- an update of an accepted mutation
record IsShortUpdate (family qualifier label value : List ℕ) : Type 0 where
  family_short : length family ≤ MAX_PART_LEN
  qualifier_short : length qualifier ≤ MAX_PART_LEN
  label_short : length label ≤ MAX_PART_LEN
  value_short : length value ≤ MAX_PART_LEN

abbrev AreShort : List Update → Type 0
AreShort us = AllByRecursion (λ (u : Update). IsShortUpdate u.family u.qualifier u.label u.value) us

fits : (text : List ℕ) → is_too_long text ≡ false → length text ≤ MAX_PART_LEN
fits text e = grind (arith, nat_tests)

update_short : (k j : ℕ) (u : Update) → long_name k u ≡ None → long_value j u ≡ None → IsShortUpdate u.family u.qualifier u.label u.value
update_short k j u e v =
    let family = when (is_too_long u.family) (TooLarge part.Family) in
    let qualifier = when (is_too_long u.qualifier) (TooLarge part.Qualifier) in
    let label = when (is_too_long u.label) (TooLarge part.Label) in
    let second = none_right family (first_some (qualifier ∷ label ∷ [])) e in
    let third = none_right qualifier (first_some (label ∷ [])) second in
    record {
      family_short = fits u.family (unmet (is_too_long u.family) (TooLarge part.Family) (none_left family (first_some (qualifier ∷ label ∷ [])) e));
      qualifier_short = fits u.qualifier (unmet (is_too_long u.qualifier) (TooLarge part.Qualifier) (none_left qualifier (first_some (label ∷ [])) second));
      label_short = fits u.label (unmet (is_too_long u.label) (TooLarge part.Label) (none_left label (first_some []) third));
      value_short = fits u.value (unmet (is_too_long u.value) (TooLarge part.Value) v);
    }

updates_short : (us : List Update) (k : ℕ) → first_found long_name k us ≡ None → first_found long_value k us ≡ None → AreShort us
updates_short [] k e v = tt
updates_short (u ∷ us) k e v = (
  update_short k k u (none_left (long_name k u) (first_found long_name (k + 1) us) e) (none_left (long_value k u) (first_found long_value (k + 1) us) v),
  updates_short us (k + 1) (none_right (long_name k u) (first_found long_name (k + 1) us) e) (none_right (long_value k u) (first_found long_value (k + 1) us) v),
)

short_there : (us : List Update) (i : ℕ) (u : Update) → AreShort us → i < length us → u ≡ get_or us i u → IsShortUpdate u.family u.qualifier u.label u.value
short_there [] i u a low e = absurd (omega (arith, low))
short_there (x ∷ us) zero u a low e = subst (λ (v : Update). IsShortUpdate v.family v.qualifier v.label v.value) (sym e) a.0
short_there (x ∷ us) (suc i) u a low e = short_there us i u a.1 (omega (arith, low)) e

-- ---- its record
pub record_short : (seq : ℕ) (clock : ℤ) (m : Mutation) (i : ℕ) (u : Update) → shape_error m ≡ None → i < length m.updates → u ≡ get_or m.updates i u → IsShort (record_of seq m.row i (timed clock u))
unfolding shape_error
record_short seq clock m i u e low is =
    let many = when (nat_lt 1000 (length m.updates)) (TooLarge part.Updates) in
    let row = when (is_too_long m.row) (TooLarge part.Row) in
    let names = first_found long_name 0 m.updates in
    let values = first_found long_value 0 m.updates in
    let sizes = none_right (empty m.updates) (oversize m) e in
    let parts = none_right many (first_some (row ∷ names ∷ values ∷ [])) sizes in
    let texts = none_right row (first_some (names ∷ values ∷ [])) parts in
    let last = none_right names (first_some (values ∷ [])) texts in
    let short = short_there m.updates i u (updates_short m.updates 0 (none_left names (first_some (values ∷ [])) texts) (none_left values (first_some []) last)) low is in
    record {
      row = fits m.row (unmet (is_too_long m.row) (TooLarge part.Row) (none_left row (first_some (names ∷ values ∷ [])) parts));
      family = short.family_short;
      qualifier = short.qualifier_short;
      label = short.label_short;
      value = short.value_short;
    }
