use Rattle.std.proofs.Common.{◌≡◌, drop}
use Rattle.std.specs.Prelude.{is_some}
use Rattle.tab_mutation.specs.Mutations.{Update}
use Rattle.tab_mutation.specs.Shape.{first_index}
use Rattle.tab_core.proofs.checking.stamped.Given as goal

abbrev pub invariant-loop-index : goal.invariant-loop-index
invariant-loop-index l = first_index (λ (u : Update). is_some u.timestamp) 0 l.mutation.updates ≡ first_index (λ (u : Update). is_some u.timestamp) l.index (drop l.index l.mutation.updates)
