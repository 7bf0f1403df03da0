use Rattle.std.proofs.Common.{◌≡◌, drop}
use Rattle.std.specs.Prelude.{unwrap_or, int_lt}
use Rattle.tab_mutation.specs.Mutations.{Update}
use Rattle.tab_mutation.specs.Shape.{first_index}
use Rattle.tab_core.proofs.checking.outdated.Given as goal

abbrev pub invariant-loop-index : goal.invariant-loop-index
invariant-loop-index l = first_index (λ (u : Update). int_lt (unwrap_or u.timestamp l.now) l.horizon) 0 l.mutation.updates ≡ first_index (λ (u : Update). int_lt (unwrap_or u.timestamp l.now) l.horizon) l.index (drop l.index l.mutation.updates)
