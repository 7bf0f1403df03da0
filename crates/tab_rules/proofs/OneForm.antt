-- Constraints that pass a test, rising, are the one form of their set.
use Rattle.std.proofs.Common.{◌≡◌, Bool, true, false, cond, List, [], ◌∷◌, refl}
use Rattle.std.specs.Prelude.{filter}
use Rattle.tab_rules.specs.Constraints.{all_constraints, constraint_set_of}
use Rattle.tab_rules.specs.declared.constraint.Constraint.{Constraint}
use Rattle.tab_rules.specs.declared.constraint.Constraint.TheVariants.{KeySize, Alphanumeric, Numeric, Visibility}

-- one more, where it is kept
abbrev with_if : Bool → Constraint → List Constraint → List Constraint
with_if keep c cs = cond keep (c ∷ cs) cs

-- those of the four that are kept
abbrev kept : Bool → Bool → Bool → Bool → List Constraint
kept a b c d = with_if a KeySize (with_if b Alphanumeric (with_if c Numeric (with_if d Visibility [])))

pub one_form : (test : Constraint → Bool) → constraint_set_of (filter test all_constraints) ≡ filter test all_constraints
one_form test = by (test KeySize) (test Alphanumeric) (test Numeric) (test Visibility)
  where
    by : (a b c d : Bool) → constraint_set_of (kept a b c d) ≡ kept a b c d
    by true true true true = refl
    by true true true false = refl
    by true true false true = refl
    by true true false false = refl
    by true false true true = refl
    by true false true false = refl
    by true false false true = refl
    by true false false false = refl
    by false true true true = refl
    by false true true false = refl
    by false true false true = refl
    by false true false false = refl
    by false false true true = refl
    by false false true false = refl
    by false false false true = refl
    by false false false false = refl
