use Rattle.tab_mutation.specs.Shape.{long_name}
use Rattle.tab_mutation.proofs.Firsts.{IsLater}
use Rattle.tab_mutation.proofs.mutation.Mutation.long_name.Given as goal

abbrev pub invariant-loop-index : goal.invariant-loop-index
invariant-loop-index l = IsLater long_name l.index l.self.updates
