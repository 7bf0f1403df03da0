-- To be believed. What a mutation fails of a table's constraints. (Accumulo user manual: constraints)
use Rattle.std.specs.Prelude.{ℕ, List, [], ◌∷◌, ◌+◌, Bool, false, not, ◌&&◌, ◌==◌, nat_lt, cond, Option, Some, None, length}
use Rattle.std.specs.Char.{is_ascii_digit, is_ascii_alphanumeric}
use Rattle.std.specs.List.{list_all, filter_map}
use Rattle.tab_key.specs.Kept.{is_put}
use Rattle.tab_key.specs.declared.limited_part.TheConstants.{MAX_PART_LEN}
use Rattle.tab_label.specs.Holding.{label_holds}
use Rattle.tab_mutation.specs.Mutations.{Update, Mutation}
use Rattle.tab_mutation.specs.Shape.{first_index}
use Rattle.tab_rules.specs.Constraints.{is_set}
use Rattle.tab_rules.specs.declared.constraint.Constraint.{Constraint}
use Rattle.tab_rules.specs.declared.constraint.Constraint.TheVariants.{KeySize, Alphanumeric, Numeric, Visibility}
use Rattle.tab_rules.specs.declared.violation.Violation.{Violation}
use Rattle.tab_rules.specs.declared.violation.Test.{Test}

-- one or more ASCII digits
abbrev pub is_digits : List ℕ → Bool
is_digits [] = false
is_digits (b ∷ bs) = list_all is_ascii_digit (b ∷ bs)

-- an optional minus, and then one or more digits
abbrev pub is_numeral : List ℕ → Bool
is_numeral [] = false
is_numeral (b ∷ bs) = cond (b == 45) (is_digits bs) (is_digits (b ∷ bs))

-- whether the update fails the constraint in the way of this code
abbrev pub fails : List (List ℕ) → List ℕ → Constraint → ℕ → Update → Bool
fails auths row KeySize code u = nat_lt MAX_PART_LEN (length row + length u.family + length u.qualifier + length u.label)
fails auths row Alphanumeric code u = not (list_all is_ascii_alphanumeric (cond (code == 1) row (cond (code == 2) u.family u.qualifier)))
fails auths row Numeric code u = is_put u.kind && not (is_numeral u.value)
fails auths row Visibility code u = not (label_holds u.label auths)

-- all tests: the pairs of constraint and code, rising
abbrev pub tests : List Test
tests = record { constraint = KeySize; code = 1 } ∷ record { constraint = Alphanumeric; code = 1 } ∷ record { constraint = Alphanumeric; code = 2 } ∷ record { constraint = Alphanumeric; code = 3 } ∷ record { constraint = Numeric; code = 1 } ∷ record { constraint = Visibility; code = 2 } ∷ []

-- the violation of a test that fails first at this update
abbrev pub violation_at : Test → Option ℕ → Option Violation
violation_at t None = None
violation_at t (Some i) = Some (record { constraint = t.constraint; code = t.code; update = i })

-- the violation of a test whose constraint is set, where some update fails it
abbrev pub violation : List Constraint → List (List ℕ) → Mutation → Test → Option Violation
violation set auths m t = cond (is_set set t.constraint) (violation_at t (first_index (fails auths m.row t.constraint t.code) 0 m.updates)) None

-- every violation of the table's constraints, rising by constraint and code, each with the first update that fails so
unfoldable pub violations : List Constraint → List (List ℕ) → Mutation → List Violation
violations set auths m = filter_map (violation set auths m) tests
