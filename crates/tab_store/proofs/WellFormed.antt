-- The records of a mutation that is accepted are well formed.
use Rattle.std.proofs.Common.{◌≡◌, inl, inr, ℕ, ◌+◌, ◌≤◌, List, [], ◌∷◌, ◌++◌, false, refl, sym, ◌∙◌, subst, length, arith}
use Rattle.std.specs.Prelude.{ℤ, Option, None, Result, Ok, Err, IsOk, map, reverse, nat_lt}
use Rattle.std.specs.List.{AllByRecursion}
use Rattle.std.proofs.lemmas.List.{length-map, length-reverse}
use Rattle.std.proofs.lemmas.Grind.{reverse_onto}
use Rattle.std.proofs.lemmas.Bool.Decides.{nat_tests}
use Rattle.tab_key.specs.Records.{Record}
use Rattle.tab_key.specs.Sorted.{IsIn}
use Rattle.tab_key.specs.declared.limited_part.LimitedPart.TheVariants as part
use Rattle.tab_key.specs.declared.limited_part.TheConstants.{MAX_PART_LEN, MAX_UPDATES}
use Rattle.tab_label.specs.Grammar.{Label}
use Rattle.tab_label.specs.Reading.{label_of}
use Rattle.tab_mutation.specs.Mutations.{Update, Mutation}
use Rattle.tab_mutation.specs.Shape.{first_some, when, first_found, is_too_long, long_name, long_value, empty, oversize, shape_error}
use Rattle.tab_mutation.specs.declared.shape_error.ShapeError.{ShapeError}
use Rattle.tab_mutation.specs.declared.shape_error.ShapeError.TheVariants.{TooLarge}
use Rattle.tab_mutation.proofs.Shapes.{none_left, none_right, unmet, shaped_few}
use Rattle.tab_cells.specs.Written.{TimedUpdate, timed, records_of, mutation_records}
use Rattle.tab_history.specs.Checks.{malformed_at, malformed}
use Rattle.tab_store.specs.Limits.{IsWellFormed}

-- ---- lists
all_append : {X : Type 0} (P : X → Type 0) (xs ys : List X) → AllByRecursion P xs → AllByRecursion P ys → AllByRecursion P (xs ++ ys)
all_append P [] ys a b = b
all_append P (x ∷ xs) ys a b = (a.0, all_append P xs ys a.1 b)

pub all_reverse : {X : Type 0} (P : X → Type 0) (xs : List X) → AllByRecursion P xs → AllByRecursion P (reverse xs)
all_reverse P [] a = tt
all_reverse P (x ∷ xs) a = subst (AllByRecursion P) (sym (reverse_onto xs x [])) (all_append P (reverse xs) (x ∷ []) (all_reverse P xs a.1) (a.0, tt))

-- ---- an update
-- no part of an update is too long, and its label is one
record IsGood (family qualifier label value : List ℕ) : Type 0 where
  family_short : length family ≤ MAX_PART_LEN
  qualifier_short : length qualifier ≤ MAX_PART_LEN
  label_short : length label ≤ MAX_PART_LEN
  value_short : length value ≤ MAX_PART_LEN
  label_read : IsOk (label_of label)

abbrev IsGoodTimed : TimedUpdate → Type 0
IsGoodTimed p = IsGood p.family p.qualifier p.label p.value

pub short : (text : List ℕ) → is_too_long text ≡ false → length text ≤ MAX_PART_LEN
short text e = grind (arith, nat_tests)

read : (i : ℕ) (r : Result Label ℕ) → malformed_at i r ≡ None → IsOk r
read i (Ok label) e = refl
read i (Err offset) e = absurd (cc)

good_update : (k : ℕ) (u : Update) → long_name k u ≡ None → long_value k u ≡ None → malformed_at k (label_of u.label) ≡ None → IsGood u.family u.qualifier u.label u.value
good_update k u e v m =
    let family : Option ShapeError = when (is_too_long u.family) (TooLarge part.Family) in
    let qualifier : Option ShapeError = when (is_too_long u.qualifier) (TooLarge part.Qualifier) in
    let label : Option ShapeError = when (is_too_long u.label) (TooLarge part.Label) in
    let second = none_right family (first_some (qualifier ∷ label ∷ [])) e in
    let third = none_right qualifier (first_some (label ∷ [])) second in
    record {
      family_short = short u.family (unmet (is_too_long u.family) (TooLarge part.Family) (none_left family (first_some (qualifier ∷ label ∷ [])) e));
      qualifier_short = short u.qualifier (unmet (is_too_long u.qualifier) (TooLarge part.Qualifier) (none_left qualifier (first_some (label ∷ [])) second));
      label_short = short u.label (unmet (is_too_long u.label) (TooLarge part.Label) (none_left label (first_some []) third));
      value_short = short u.value (unmet (is_too_long u.value) (TooLarge part.Value) v);
      label_read = read k (label_of u.label) m;
    }

good_updates : (clock : ℤ) (us : List Update) (k : ℕ) → first_found long_name k us ≡ None → first_found long_value k us ≡ None → first_found (λ i u. malformed_at i (label_of u.label)) k us ≡ None → AllByRecursion IsGoodTimed (map (timed clock) us)
good_updates clock [] k e v m = tt
good_updates clock (u ∷ us) k e v m = (
  good_update k u (none_left (long_name k u) (first_found long_name (k + 1) us) e) (none_left (long_value k u) (first_found long_value (k + 1) us) v) (none_left (malformed_at k (label_of u.label)) _ m),
  good_updates clock us (k + 1) (none_right (long_name k u) (first_found long_name (k + 1) us) e) (none_right (long_value k u) (first_found long_value (k + 1) us) v) (none_right (malformed_at k (label_of u.label)) _ m),
)

-- ---- their records
good_records : (seq : ℕ) (row : List ℕ) (ps : List TimedUpdate) → length row ≤ MAX_PART_LEN → length ps ≤ MAX_UPDATES → AllByRecursion IsGoodTimed ps → (u : Record) → IsIn (records_of seq row ps) u → IsWellFormed u
unfolding records_of
good_records seq row [] r few a u h = absurd h
good_records seq row (p ∷ ps) r few a u (inl e) = subst IsWellFormed e (record {
  short = record { row = r; family = a.0.family_short; qualifier = a.0.qualifier_short; label = a.0.label_short; value = a.0.value_short };
  place = omega (arith, few);
  label = a.0.label_read;
})
good_records seq row (p ∷ ps) r few a u (inr h) = good_records seq row ps r (omega (arith, few)) a.1 u h

pub well_formed : (seq : ℕ) (clock : ℤ) (m : Mutation) → shape_error m ≡ None → malformed m ≡ None → (u : Record) → IsIn (mutation_records seq clock m) u → IsWellFormed u
unfolding shape_error malformed
well_formed seq clock m e labels u h =
    let row = when (is_too_long m.row) (TooLarge part.Row) in
    let names = first_found long_name 0 m.updates in
    let values = first_found long_value 0 m.updates in
    let sizes = none_right (empty m.updates) (oversize m) e in
    let parts = none_right (when (nat_lt MAX_UPDATES (length m.updates)) (TooLarge part.Updates)) (first_some (row ∷ names ∷ values ∷ [])) sizes in
    let texts = none_right row (first_some (names ∷ values ∷ [])) parts in
    let last = none_right names (first_some (values ∷ [])) texts in
    let many : length (reverse (map (timed clock) m.updates)) ≡ length m.updates = length-reverse (map (timed clock) m.updates) ∙ length-map m.updates (timed clock) in
    let few : length m.updates ≤ MAX_UPDATES = shaped_few m e in
    good_records seq m.row (reverse (map (timed clock) m.updates)) (short m.row (unmet (is_too_long m.row) (TooLarge part.Row) (none_left row (first_some (names ∷ values ∷ [])) parts)))
    (omega (arith, many, few))
    (all_reverse IsGoodTimed (map (timed clock) m.updates) (good_updates clock m.updates 0 (none_left names (first_some (values ∷ [])) texts) (none_left values (first_some []) last) labels)) u h
