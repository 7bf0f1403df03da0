-- For proofs. A member of a list, in the code.
use Rattle.std.specs.Prelude.{ℕ, List, [], ◌∷◌, ◌++◌, codes, cond}
use Rattle.tab_mutation.specs.Mutations.{Update}
use Rattle.tab_rules.specs.Constraints.{constraint_name, is_set}
use Rattle.tab_rules.specs.declared.constraint.Constraint.{Constraint}
use Rattle.tab_text.specs.Lines.{after_spaces}
use Rattle.tab_audit.specs.Words.{update_words}

-- the constraint's name behind a comma, where it is a member
abbrev pub later_constraint : List Constraint → Constraint → List ℕ
later_constraint set c = cond (is_set set c) (44 ∷ constraint_name c) []

-- the update behind the word ;
abbrev pub later_update : Update → List ℕ
later_update u = codes " ;" ++ after_spaces (update_words u)
