-- Constraints by their numbers.
use Rattle.std.proofs.Common.{◌≤◌, arith}
use Rattle.tab_rules.specs.Constraints.{constraint_number}
use Rattle.tab_rules.specs.declared.constraint.Constraint.{Constraint}
use Rattle.tab_rules.specs.declared.constraint.Constraint.TheVariants.{KeySize}

-- the numbers are 1 to 4
pub number_few : (c : Constraint) → (1 ≤ constraint_number c) × (constraint_number c ≤ 4)
number_few KeySize = (omega arith, omega arith)
number_few c = (omega arith, omega arith)
