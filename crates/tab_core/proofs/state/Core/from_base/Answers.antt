use Rattle.std.proofs.Common.{[], subst}
use Rattle.tab_core.specs.Holding.{held}
use Rattle.tab_core.specs.Recording.{RefinesHistory}
use Rattle.tab_core.proofs.Recorded.{begun}
use Rattle.tab_core.proofs.state.Core.from_base.Goals as goal

pub invariant_of-result : goal.invariant_of-result
invariant_of-result c = c.into_store.ensures.core

pub returns-clause-same : goal.returns-clause-same
returns-clause-same c = c.into_store.ensures.same

pub returns-clause-refines : goal.returns-clause-refines
returns-clause-refines c = subst (λ b. RefinesHistory (held c.into_store.result) b []) c.into_store.ensures.same (begun (held c.into_store.result) c.into_store.ensures.core)
