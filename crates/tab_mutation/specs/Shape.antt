-- To be believed. The limits on the shape of a mutation.
use Rattle.std.specs.Prelude.{ℕ, List, [], ◌∷◌, ◌+◌, Bool, true, false, nat_lt, cond, Option, Some, None, length}
use Rattle.tab_key.specs.declared.limited_part.LimitedPart.TheVariants.{Updates, Row, Family, Qualifier, Label, Value}
use Rattle.tab_key.specs.declared.limited_part.TheConstants.{MAX_PART_LEN, MAX_UPDATES}
use Rattle.tab_mutation.specs.Mutations.{Update, Mutation}
use Rattle.tab_mutation.specs.declared.shape_error.ShapeError.{ShapeError}
use Rattle.tab_mutation.specs.declared.shape_error.ShapeError.TheVariants.{Empty, TooLarge}

-- the first of two answers that is there
abbrev pub or_else : {X : Type 0} → Option X → Option X → Option X
or_else None other = other
or_else (Some x) other = Some x

-- the first of several answers that is there
abbrev pub first_some : {X : Type 0} → List (Option X) → Option X
first_some [] = None
first_some (o ∷ os) = or_else o (first_some os)

-- the answer x where the test holds
abbrev pub when : {X : Type 0} → Bool → X → Option X
when true x = Some x
when false x = None

-- the first index, counted from i, at which the element passes
abbrev pub first_index : {X : Type 0} → (X → Bool) → ℕ → List X → Option ℕ
first_index p i [] = None
first_index p i (x ∷ xs) = cond (p x) (Some i) (first_index p (i + 1) xs)

-- what f gives first, of the index, counted from i, and the element
abbrev pub first_found : {X Y : Type 0} → (ℕ → X → Option Y) → ℕ → List X → Option Y
first_found f i [] = None
first_found f i (x ∷ xs) = or_else (f i x) (first_found f (i + 1) xs)

-- over 1,048,576 bytes
abbrev pub is_too_long : List ℕ → Bool
is_too_long bytes = nat_lt MAX_PART_LEN (length bytes)

-- the first of an update's family, qualifier and label that is too long
abbrev pub long_name : ℕ → Update → Option ShapeError
long_name i u = first_some (when (is_too_long u.family) (TooLarge Family) ∷ when (is_too_long u.qualifier) (TooLarge Qualifier) ∷ when (is_too_long u.label) (TooLarge Label) ∷ [])

-- an update's value, where it is too long
abbrev pub long_value : ℕ → Update → Option ShapeError
long_value i u = when (is_too_long u.value) (TooLarge Value)

-- over 1,000 updates; then the row, the names update by update, and then the values
abbrev pub oversize : Mutation → Option ShapeError
oversize m = first_some (when (nat_lt MAX_UPDATES (length m.updates)) (TooLarge Updates) ∷ when (is_too_long m.row) (TooLarge Row) ∷ first_found long_name 0 m.updates ∷ first_found long_value 0 m.updates ∷ [])

-- a mutation has at least one update
abbrev pub empty : List Update → Option ShapeError
empty [] = Some Empty
empty (u ∷ us) = None

-- what is wrong with a mutation's shape: no update, or the first part that is too large
unfoldable pub shape_error : Mutation → Option ShapeError
shape_error m = or_else (empty m.updates) (oversize m)
