-- To be believed. Lists of what stands under a name, or under the life of a user.
use Rattle.std.specs.Prelude.{ℕ, List, Bool, Option, bytes_eq, if◌then◌else◌}
use Rattle.std.specs.Option.{option_map}
use Rattle.std.specs.Map.{lookup}
use Rattle.std.specs.Ordering.{is_eq, nat_cmp}
use Rattle.tab_key.specs.Bytes.{bytes_cmp}

-- what stands under the name
abbrev pub at_name : {X : Type 0} → List ℕ → List (List ℕ × X) → Option X
at_name n entries = lookup (λ m. is_eq (bytes_cmp n m)) entries

-- what stands under the name q once f has changed what stands under n, if anything does
abbrev pub changed_at : {X : Type 0} → List ℕ → (X → X) → List (List ℕ × X) → List ℕ → Option X
changed_at n f entries q = if bytes_eq n q then option_map f (at_name q entries) else at_name q entries

-- whether the two lives are one
abbrev pub same_life : ℕ → ℕ → Bool
same_life a b = is_eq (nat_cmp a b)

-- what stands under the life
abbrev pub at_life : {X : Type 0} → ℕ → List (ℕ × X) → Option X
at_life l entries = lookup (same_life l) entries

-- what stands under the life l once f has changed what stands under k, if anything does
abbrev pub changed_at_life : {X : Type 0} → ℕ → (X → X) → List (ℕ × X) → ℕ → Option X
changed_at_life k f entries l = if same_life k l then option_map f (at_life l entries) else at_life l entries
