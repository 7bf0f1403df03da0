-- For proofs. A set of constraints as it is kept: one flag for each.
use Rattle.std.specs.Prelude.{List, Bool, filter}
use Rattle.tab_rules.specs.Constraints.{all_constraints}
use Rattle.tab_rules.specs.declared.constraint.Constraint.{Constraint}
use Rattle.tab_rules.specs.declared.constraint.Constraint.TheVariants.{KeySize, Alphanumeric, Numeric, Visibility}
use Rattle.tab_rules.specs.declared.constraint_set.ConstraintSet.TheInside.{Inside}

-- whether the constraint's flag is up
abbrev pub is_up : Inside → Constraint → Bool
is_up s KeySize = s.key_size
is_up s Alphanumeric = s.alphanumeric
is_up s Numeric = s.numeric
is_up s Visibility = s.visibility

-- the constraints whose flags are up, rising
abbrev pub members : Inside → List Constraint
members s = filter (is_up s) all_constraints
