-- For proofs. The row and the updates of a mutation, in its body.
use Rattle.std.specs.Prelude.{◌≤◌, map, length}
use Rattle.std.specs.List.{AllByRecursion, slice_range}
use Rattle.tab_mutation.specs.Mutations as view
use Rattle.tab_mutation.specs.UpdateSpans.{update_in, IsWithin}
use Rattle.tab_mutation.specs.declared.mutation.Mutation.TheInside.{Inside}

-- the row stands first in the body
abbrev pub mutation_in : Inside → view.Mutation
mutation_in m = record { row = slice_range m.body.items 0 m.row_end; updates = map (update_in m.body.items) m.spans.items }

-- row and updates lie in the body, and no marker has a value
pub record IsMutation (m : Inside) : Type 0 where
  pub row : m.row_end ≤ length m.body.items
  pub updates : AllByRecursion (IsWithin m.body.items) m.spans.items
  pub markers : AllByRecursion view.IsBare (map (update_in m.body.items) m.spans.items)
