-- What fits is asked by the frame that is written of it.
use Rattle.std.proofs.Common.{◌≡◌, ℕ, ℤ, suc, ◌+◌, ◌≤◌, ◌<◌, ◌^◌, List, [], ◌∷◌, ◌++◌, length, Option, Some, None, FitsSigned, refl, sym, subst, arith}
use Rattle.std.specs.Int.{w32, w64, to_be_bytes}
use Rattle.std.specs.List.{AllByRecursion, flat_map, slice_index_or}
use Rattle.std.proofs.lemmas.List.{length-append}
use Rattle.tab_key.specs.Names.{IsName}
use Rattle.tab_key.specs.declared.key.Kind.{Kind}
use Rattle.tab_key.specs.declared.key.Kind.TheVariants.{Delete, Put}
use Rattle.tab_key.specs.declared.range.Bound.{Bound}
use Rattle.tab_key.specs.declared.range.Bound.TheVariants.{Unbounded, Inclusive, Exclusive}
use Rattle.tab_key.specs.declared.range.Bounds.{Bounds}
use Rattle.tab_key.specs.declared.column.Column.{Column}
use Rattle.tab_key.specs.declared.column.Column.TheVariants.{Family, Qualified}
use Rattle.tab_label.specs.Sets.{set_of}
use Rattle.tab_label.proofs.SetLemmas.{set_is}
use Rattle.tab_mutation.specs.Mutations.{Update, Mutation, IsBare}
use Rattle.tab_policy.specs.declared.permission.Permission.{Permission}
use Rattle.tab_policy.specs.declared.permission.Permission.TheVariants.{OfSystem, OfTable}
use Rattle.tab_rules.specs.Constraints.{constraint_set_of}
use Rattle.tab_rules.specs.declared.constraint.Constraint.{Constraint}
use Rattle.tab_history.specs.declared.event.Act.{Act}
use Rattle.tab_history.specs.declared.event.Act.TheVariants as act
use Rattle.tab_history.specs.declared.event.Scan.{Scan}
use Rattle.tab_codec.specs.Parts.{IsU32, IsField, AreParts, IsCounted, IsList, IsBound, IsBounds, IsVersions, IsConstraints, constraint_bits}
use Rattle.tab_codec.specs.Spelling.{FitsOptional, bound_bytes, bounds_bytes}
use Rattle.tab_codec.proofs.BitLaw.{bits_are_sets}
use Rattle.tab_codec.proofs.Written.{u32_written, i64_written, field_written, name_written}
use Rattle.tab_wire.specs.FrameParts.{IsColumn, IsPermission, IsMutation, FitsValue, FitsUpdate}
use Rattle.tab_wire.specs.Forms.{IsRequest}
use Rattle.tab_wire.specs.Forms.{create_table, drop_table, create_user, drop_user, set_auths, grant, revoke, set_constraints, write, opens, flush, compact, add_split, splits, status, rights, set_versions, set_horizon, rotate}
use Rattle.tab_wire.specs.Replies.{u32, i64, field, list, permission_bytes}
use Rattle.tab_wire.specs.Sending.{timestamp_bytes, value_part, column_bytes, update_bytes, counted, mutation_bytes, scan_bytes, act_bytes}
use Rattle.tab_wire.specs.declared.request.Request.TheVariants as asks
use Rattle.tab_event_record.specs.Fitting.{FitsTime, FitsMutation, FitsVersions, FitsPermission, FitsAct}

-- ---- what is short has short parts
pub field_long : (text : List ℕ) → length (field text) ≡ 4 + length text
unfolding u32
field_long text = length-append (to_be_bytes w32 (length text)) text

first_short : (a b : List ℕ) (n : ℕ) → length (a ++ b) < n → length a < n
first_short a b n low = omega (arith, low, length-append a b)

rest_short : (a b : List ℕ) (n : ℕ) → length (a ++ b) < n → length b < n
rest_short a b n low = omega (arith, low, length-append a b)

short_field : (text : List ℕ) → length (field text) < 2 ^ 32 → IsField (field text) text
short_field text low = field_written text (omega (arith, low, field_long text))

-- ---- lists
module _ {A : Type 0} (spell : A → List ℕ) (some : (x : A) → 1 ≤ length (spell x)) where
  few : (xs : List A) → length xs ≤ length (flat_map spell xs)
  few [] = omega arith
  few (x ∷ xs) = omega (arith, length-append (spell x) (flat_map spell xs), some x, few xs)

  module _ (Is : List ℕ → A → Type 0) (one : (x : A) → length (spell x) < 2 ^ 32 → Is (spell x) x) where
    parts : (xs : List A) → length (flat_map spell xs) < 2 ^ 32 → AreParts Is (flat_map spell xs) xs
    parts [] low = refl
    parts (x ∷ xs) low = (
      spell x,
      flat_map spell xs,
      refl,
      one x (first_short (spell x) (flat_map spell xs) (2 ^ 32) low),
      parts xs (rest_short (spell x) (flat_map spell xs) (2 ^ 32) low),
    )

    counted_written : (xs : List A) → length (counted spell xs) < 2 ^ 32 → IsCounted IsU32 Is (counted spell xs) xs
    counted_written xs low =
        let all : length (flat_map spell xs) < 2 ^ 32 = rest_short (u32 (length xs)) (flat_map spell xs) (2 ^ 32) low in
        (u32 (length xs), flat_map spell xs, refl, u32_written (length xs) (omega (arith, all, few xs)), parts xs all)

list_written : (texts : List (List ℕ)) → length (list texts) < 2 ^ 32 → IsList (list texts) texts
list_written texts low = counted_written field (λ t. omega (arith, field_long t)) IsField short_field texts low

-- ---- mutations
time_fits : (o : Option ℤ) → ((t : ℤ) → o ≡ Some t → FitsSigned w64 t) → FitsOptional (λ t. FitsSigned w64 t) o
time_fits None fits = tt
time_fits (Some t) fits = fits t refl

value_fits : (kind : Kind) (value : List ℕ) → (kind ≡ Delete → value ≡ []) → length (value_part kind value) < 2 ^ 32 → FitsValue kind value
value_fits Delete value bare low = bare refl
value_fits Put value bare low = omega (arith, low, field_long value)

module _ (u : Update) where
  abbrev t : List ℕ
  t = timestamp_bytes u.timestamp

  abbrev v : List ℕ
  v = value_part u.kind u.value

  update_long : length (update_bytes u) ≡ suc ((4 + length u.family) + ((4 + length u.qualifier) + ((4 + length u.label) + (length t + length v))))
  update_long =
      let a : length (field u.family ++ (field u.qualifier ++ (field u.label ++ (t ++ v)))) ≡ length (field u.family) + length (field u.qualifier ++ (field u.label ++ (t ++ v))) = length-append (field u.family) (field u.qualifier ++ (field u.label ++ (t ++ v))) in
      let b : length (field u.qualifier ++ (field u.label ++ (t ++ v))) ≡ length (field u.qualifier) + length (field u.label ++ (t ++ v)) = length-append (field u.qualifier) (field u.label ++ (t ++ v)) in
      let c : length (field u.label ++ (t ++ v)) ≡ length (field u.label) + length (t ++ v) = length-append (field u.label) (t ++ v) in
      let d : length (t ++ v) ≡ length t + length v = length-append t v in
      let f = field_long u.family in
      let g = field_long u.qualifier in
      let h = field_long u.label in
      omega (arith, a, b, c, d, f, g, h)

  update_fits : IsBare u → FitsTime u → length (update_bytes u) < 2 ^ 32 → FitsUpdate u
  update_fits bare time low = record {
    family = omega (arith, low, update_long);
    qualifier = omega (arith, low, update_long);
    label = omega (arith, low, update_long);
    timestamp = time_fits u.timestamp time;
    value = value_fits u.kind u.value bare (omega (arith, low, update_long));
  }

updates_long : (u : Update) (us : List Update) → length (flat_map update_bytes (u ∷ us)) ≡ length (update_bytes u) + length (flat_map update_bytes us)
updates_long u us = length-append (update_bytes u) (flat_map update_bytes us)

updates_fit : (us : List Update) → AllByRecursion IsBare us → ((k : ℕ) (d : Update) → k < length us → FitsTime (slice_index_or us k d)) → length (flat_map update_bytes us) < 2 ^ 32 → AllByRecursion FitsUpdate us
updates_fit [] bare times low = tt
updates_fit (u ∷ us) bare times low = (
  update_fits u bare.0 (times 0 u (omega arith)) (omega (arith, low, updates_long u us)),
  updates_fit us bare.1 (λ k d less. times (suc k) d (omega (arith, less))) (omega (arith, low, updates_long u us)),
)

mutation_written : (m : Mutation) → FitsMutation m → length (mutation_bytes m) < 2 ^ 32 → IsMutation (mutation_bytes m) m
mutation_written m fits low =
    let both : length (mutation_bytes m) ≡ length (field m.row) + length (counted update_bytes m.updates) = length-append (field m.row) (counted update_bytes m.updates) in
    let all : length (counted update_bytes m.updates) ≡ length (u32 (length m.updates)) + length (flat_map update_bytes m.updates) = length-append (u32 (length m.updates)) (flat_map update_bytes m.updates) in
    (refl, record { row = omega (arith, low, both, field_long m.row); few = omega (arith, low, both, all, few update_bytes (λ u. omega (arith, update_long u)) m.updates); updates = updates_fit m.updates fits.bare fits.times (omega (arith, low, both, all)) })

-- ---- numbers of versions, sets and permissions
versions_written : (n : ℕ) → FitsVersions n → IsVersions (u32 n) n
versions_written n fits = let most : n ≤ 1000 = fits.1 in (u32_written n (omega (arith, most)), fits.0, fits.1)

constraints_written : (cs : List Constraint) → constraint_set_of cs ≡ cs → IsConstraints (constraint_bits cs ∷ []) cs
constraints_written cs is = (constraint_bits cs, refl, bits_are_sets.constraint_small cs, sym (bits_are_sets.constraint_back cs is))

permission_written : (p : Permission) → FitsPermission p → IsPermission (permission_bytes p) p
permission_written (OfSystem p) fits = refl
permission_written (OfTable p t) fits = (field t, refl, name_written t fits)

-- ---- scans
bound_written : (b : Bound) → length (bound_bytes b) < 2 ^ 32 → IsBound (bound_bytes b) b
bound_written Unbounded low = refl
bound_written (Inclusive row) low = (field row, refl, short_field row (omega (arith, low)))
bound_written (Exclusive row) low = (field row, refl, short_field row (omega (arith, low)))

bounds_written : (b : Bounds) → length (bounds_bytes b) < 2 ^ 32 → IsBounds (bounds_bytes b) b
bounds_written b low = (bound_bytes b.low, bound_bytes b.high, refl, bound_written b.low (first_short (bound_bytes b.low) (bound_bytes b.high) (2 ^ 32) low), bound_written b.high (rest_short (bound_bytes b.low) (bound_bytes b.high) (2 ^ 32) low))

column_written : (c : Column) → length (column_bytes c) < 2 ^ 32 → IsColumn (column_bytes c) c
column_written (Family f) low = (field f, refl, short_field f (first_short (field f) (0 ∷ []) (2 ^ 32) low))
column_written (Qualified f q) low =
    let behind : length (1 ∷ field q) < 2 ^ 32 = rest_short (field f) (1 ∷ field q) (2 ^ 32) low in
    (field f, field q, refl, short_field f (first_short (field f) (1 ∷ field q) (2 ^ 32) low), short_field q (omega (arith, behind)))

column_some : (c : Column) → 1 ≤ length (column_bytes c)
column_some (Family f) = omega (arith, length-append (field f) (0 ∷ []))
column_some (Qualified f q) = omega (arith, length-append (field f) (1 ∷ field q))

scan_written : (s : Scan) → IsName s.table → set_of s.authorizations ≡ s.authorizations → length (scan_bytes s) < 2 ^ 32 → IsRequest (11 ∷ scan_bytes s) (asks.Act (act.Open s))
scan_written s name same low =
    let b : length (bounds_bytes s.bounds ++ (counted column_bytes s.columns ++ list s.authorizations)) < 2 ^ 32 = rest_short (field s.table) (bounds_bytes s.bounds ++ (counted column_bytes s.columns ++ list s.authorizations)) (2 ^ 32) low in
    let c : length (counted column_bytes s.columns ++ list s.authorizations) < 2 ^ 32 = rest_short (bounds_bytes s.bounds) (counted column_bytes s.columns ++ list s.authorizations) (2 ^ 32) b in
    subst (λ (xs : List (List ℕ)). IsRequest (11 ∷ scan_bytes s) (asks.Act (act.Open (record s { authorizations = xs })))) same
    (opens (field s.table) (bounds_bytes s.bounds) (counted column_bytes s.columns) (list s.authorizations) s.table s.bounds s.columns s.authorizations (name_written s.table name)
    (bounds_written s.bounds (first_short (bounds_bytes s.bounds) (counted column_bytes s.columns ++ list s.authorizations) (2 ^ 32) b))
    (counted_written column_bytes column_some IsColumn column_written s.columns (first_short (counted column_bytes s.columns) (list s.authorizations) (2 ^ 32) c))
    (list_written s.authorizations (rest_short (counted column_bytes s.columns) (list s.authorizations) (2 ^ 32) c)))

-- ---- acts
behind_name : (name more : List ℕ) → length (field name ++ more) ≡ 4 + length name + length more
behind_name name more = let both : length (field name ++ more) ≡ length (field name) + length more = length-append (field name) more in omega (arith, both, field_long name)

-- the act is one that a frame asks
abbrev pub IsAsked : Act → Type 0
IsAsked act.Save = ⊥
IsAsked act.Load = ⊥
IsAsked (act.SplitBySize t row limit) = ⊥
IsAsked (act.Begin t row kind) = ⊥
IsAsked (act.Install t source) = ⊥
IsAsked a = Unit {0}

pub spelled : (a : Act) → IsAsked a → FitsAct a → length (act_bytes a) < 2 ^ 32 → IsRequest (act_bytes a) (asks.Act a)
spelled (act.Write t m) asked fits low = write (field t) (mutation_bytes m) t m (name_written t fits.0) (mutation_written m fits.1 (omega (arith, low, behind_name t (mutation_bytes m))))
spelled (act.CreateTable t time n) asked fits low = create_table (field t) (u32 n) t time n (name_written t fits.0) (versions_written n fits.1)
spelled (act.DropTable t) asked fits low = drop_table (field t) t (name_written t fits)
spelled (act.SetConstraints t cs) asked fits low = set_constraints (field t) (constraint_bits cs ∷ []) t cs (name_written t fits.0) (constraints_written cs fits.1)
spelled (act.SetVersions t n) asked fits low = set_versions (field t) (u32 n) t n (name_written t fits.0) (versions_written n fits.1)
spelled (act.SetHorizon t z) asked fits low = set_horizon (field t) (i64 z) t z (name_written t fits.0) (i64_written z fits.1)
spelled (act.CreateUser n) asked fits low = create_user (field n) n (name_written n fits)
spelled (act.DropUser n) asked fits low = drop_user (field n) n (name_written n fits)
spelled (act.SetAuths n auths) asked fits low =
    let same : auths ≡ set_of auths = set_is auths auths fits.1 (λ t. (λ h. h, λ h. h)) in
    subst (λ (xs : List (List ℕ)). IsRequest (6 ∷ (field n ++ list auths)) (asks.Act (act.SetAuths n xs))) (sym same)
    (set_auths (field n) (list auths) n auths (name_written n fits.0) (list_written auths (omega (arith, low, behind_name n (list auths)))))
spelled (act.Grant n p) asked fits low = grant (field n) (permission_bytes p) n p (name_written n fits.0) (permission_written p fits.1)
spelled (act.Revoke n p) asked fits low = revoke (field n) (permission_bytes p) n p (name_written n fits.0) (permission_written p fits.1)
spelled (act.AddSplit t row) asked fits low = add_split (field t) (field row) t row (name_written t fits) (field_written row (omega (arith, low, behind_name t (field row), field_long row)))
spelled (act.Open s) asked fits low = scan_written s fits.0 (sym (set_is s.authorizations s.authorizations fits.1 (λ t. (λ h. h, λ h. h)))) (omega (arith, low))
spelled (act.Rights t) asked fits low = rights (field t) t (name_written t fits)
spelled (act.Status t) asked fits low = status (field t) t (name_written t fits)
spelled (act.Flush t) asked fits low = flush (field t) t (name_written t fits)
spelled (act.Compact t extent) asked fits low = compact (field t) t extent (name_written t fits)
spelled (act.Splits t) asked fits low = splits (field t) t (name_written t fits)
spelled act.Rotate asked fits low = rotate
spelled act.Save asked fits low = absurd asked
spelled act.Load asked fits low = absurd asked
spelled (act.SplitBySize t row limit) asked fits low = absurd asked
spelled (act.Begin t row kind) asked fits low = absurd asked
spelled (act.Install t source) asked fits low = absurd asked
