-- To be believed. The constraints that a table can have: their numbers, names and texts. (Accumulo user manual: constraints)
use Rattle.std.specs.Prelude.{ℕ, ◌≡◌, refl, List, [], ◌∷◌, Bool, ◌&&◌, ◌==◌, cond, Option, Some, None, bytes_eq, codes, filter}
use Rattle.std.specs.List.{list_any}
use Rattle.tab_rules.specs.declared.constraint.Constraint.{Constraint}
use Rattle.tab_rules.specs.declared.constraint.Constraint.TheVariants.{KeySize, Alphanumeric, Numeric, Visibility}

-- each constraint has a number
abbrev pub constraint_number : Constraint → ℕ
constraint_number KeySize = 1
constraint_number Alphanumeric = 2
constraint_number Numeric = 3
constraint_number Visibility = 4

-- and a name
abbrev pub constraint_name : Constraint → List ℕ
constraint_name KeySize = codes "keysize"
constraint_name Alphanumeric = codes "alphanum"
constraint_name Numeric = codes "numeric"
constraint_name Visibility = codes "visibility"

-- the constraint of this name
abbrev pub constraint_named : List ℕ → Option Constraint
constraint_named name = cond (bytes_eq name (codes "keysize")) (Some KeySize) (cond (bytes_eq name (codes "alphanum")) (Some Alphanumeric) (cond (bytes_eq name (codes "numeric")) (Some Numeric) (cond (bytes_eq name (codes "visibility")) (Some Visibility) None)))

-- the constraint of this number
abbrev pub constraint_numbered : ℕ → Option Constraint
constraint_numbered n = cond (n == 1) (Some KeySize) (cond (n == 2) (Some Alphanumeric) (cond (n == 3) (Some Numeric) (cond (n == 4) (Some Visibility) None)))

-- the name of the constraint, if there is one
abbrev pub name_or_nothing : Option Constraint → List ℕ
name_or_nothing None = []
name_or_nothing (Some c) = constraint_name c

-- the text of a violation's number and code: the name, but for the one pair that has a sentence
abbrev pub text_of : ℕ → ℕ → List ℕ
text_of number code = cond (number == 4 && code == 2) (codes "User does not have authorization on column visibility") (name_or_nothing (constraint_numbered number))

-- ---- sets
-- all constraints, rising by their numbers
abbrev pub all_constraints : List Constraint
all_constraints = KeySize ∷ Alphanumeric ∷ Numeric ∷ Visibility ∷ []

-- whether the constraint is one of these
abbrev pub is_set : List Constraint → Constraint → Bool
is_set set c = list_any (λ d. constraint_number c == constraint_number d) set

-- these constraints, rising and each once: the one form of their set
abbrev pub constraint_set_of : List Constraint → List Constraint
constraint_set_of cs = filter (is_set cs) all_constraints

-- each order of the same constraints is one set
one_form : constraint_set_of (Visibility ∷ KeySize ∷ Visibility ∷ []) ≡ constraint_set_of (KeySize ∷ Visibility ∷ [])
one_form = refl
