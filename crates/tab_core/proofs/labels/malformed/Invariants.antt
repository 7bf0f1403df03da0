use Rattle.tab_label.specs.Reading.{label_of}
use Rattle.tab_mutation.proofs.Firsts.{IsLater}
use Rattle.tab_history.specs.Checks.{malformed_at}
use Rattle.tab_core.proofs.labels.malformed.Given as goal

abbrev pub invariant-loop-index : goal.invariant-loop-index
invariant-loop-index l = IsLater (λ i u. malformed_at i (label_of u.label)) l.index l.mutation.updates
