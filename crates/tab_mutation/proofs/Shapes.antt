-- What an accepted shape says of a mutation.
use Rattle.std.proofs.Common.{◌≡◌, ℕ, zero, suc, ◌+◌, ◌<◌, ◌≤◌, List, [], ◌∷◌, Bool, true, false, length, refl, arith, Option, Some, None}
use Rattle.std.specs.Prelude.{nat_lt}
use Rattle.std.specs.List.{slice_index_or}
use Rattle.std.proofs.lemmas.Bool.Decides.{nat_tests}
use Rattle.tab_key.specs.declared.limited_part.LimitedPart.TheVariants as part
use Rattle.tab_mutation.specs.Mutations.{Update, Mutation}
use Rattle.tab_mutation.specs.declared.shape_error.ShapeError.{ShapeError}
use Rattle.tab_mutation.specs.declared.shape_error.ShapeError.TheVariants.{TooLarge}
use Rattle.tab_mutation.specs.Shape.{or_else, first_some, when, first_found, is_too_long, long_name, long_value, empty, oversize, shape_error}

-- ---- neither of two answers is there
pub none_left : {X : Type 0} (a b : Option X) → or_else a b ≡ None → a ≡ None
none_left None b e = refl
none_left (Some x) b e = absurd (cc)

pub none_right : {X : Type 0} (a b : Option X) → or_else a b ≡ None → b ≡ None
none_right None b e = e
none_right (Some x) b e = absurd (cc)

pub unmet : {X : Type 0} (b : Bool) (x : X) → when b x ≡ None → b ≡ false
unmet true x e = absurd (cc)
unmet false x e = refl

-- ---- names
short : (text : List ℕ) → is_too_long text ≡ false → length text ≤ 1048576
short text e = grind (arith, nat_tests)

label_short : (k : ℕ) (u : Update) → long_name k u ≡ None → length u.label ≤ 1048576
label_short k u e =
    let family : Option ShapeError = when (is_too_long u.family) (TooLarge part.Family) in
    let qualifier : Option ShapeError = when (is_too_long u.qualifier) (TooLarge part.Qualifier) in
    let label : Option ShapeError = when (is_too_long u.label) (TooLarge part.Label) in
    let rest = none_right family (or_else qualifier (or_else label None)) e in
    let last = none_right qualifier (or_else label None) rest in
    short u.label (unmet (is_too_long u.label) (TooLarge part.Label) (none_left label None last))

names_short : (us : List Update) (k i : ℕ) (d : Update) → first_found long_name k us ≡ None → i < length us → length (slice_index_or us i d).label ≤ 1048576
names_short [] k i d e lt = absurd (omega (arith, lt))
names_short (u ∷ us) k zero d e lt = label_short k u (none_left (long_name k u) (first_found long_name (k + 1) us) e)
names_short (u ∷ us) k (suc i) d e lt = names_short us (k + 1) i d (none_right (long_name k u) (first_found long_name (k + 1) us) e) (omega (arith, lt))

pub shaped_labels : (m : Mutation) (i : ℕ) (d : Update) → shape_error m ≡ None → i < length m.updates → length (slice_index_or m.updates i d).label ≤ 1048576
unfolding shape_error
shaped_labels m i d e lt =
    let size = none_right (empty m.updates) (oversize m) e in
    let rows = none_right (when (nat_lt 1000 (length m.updates)) (TooLarge part.Updates)) (first_some (when (is_too_long m.row) (TooLarge part.Row) ∷ first_found long_name 0 m.updates ∷ first_found long_value 0 m.updates ∷ [])) size in
    let names = none_right (when (is_too_long m.row) (TooLarge part.Row)) (first_some (first_found long_name 0 m.updates ∷ first_found long_value 0 m.updates ∷ [])) rows in
    names_short m.updates 0 i d (none_left (first_found long_name 0 m.updates) (first_some (first_found long_value 0 m.updates ∷ [])) names) lt

-- ---- the number of updates
pub shaped_few : (m : Mutation) → shape_error m ≡ None → length m.updates ≤ 1000
unfolding shape_error
shaped_few m e =
    let size = none_right (empty m.updates) (oversize m) e in
    let many : nat_lt 1000 (length m.updates) ≡ false = unmet (nat_lt 1000 (length m.updates)) (TooLarge part.Updates)
    (none_left (when (nat_lt 1000 (length m.updates)) (TooLarge part.Updates)) (first_some (when (is_too_long m.row) (TooLarge part.Row) ∷ first_found long_name 0 m.updates ∷ first_found long_value 0 m.updates ∷ [])) size) in
    grind (arith, nat_tests)

has_update : (us : List Update) → empty us ≡ None → 0 < length us
has_update [] e = absurd (cc)
has_update (u ∷ us) e = omega (arith)

pub shaped_some : (m : Mutation) → shape_error m ≡ None → 0 < length m.updates
unfolding shape_error
shaped_some m e = has_update m.updates (none_left (empty m.updates) (oversize m) e)
