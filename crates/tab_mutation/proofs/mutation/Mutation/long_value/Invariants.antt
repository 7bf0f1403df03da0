use Rattle.tab_mutation.specs.Shape.{long_value}
use Rattle.tab_mutation.proofs.Firsts.{IsLater}
use Rattle.tab_mutation.proofs.mutation.Mutation.long_value.Given as goal

abbrev pub invariant-loop-index : goal.invariant-loop-index
invariant-loop-index l = IsLater long_value l.index l.self.updates
