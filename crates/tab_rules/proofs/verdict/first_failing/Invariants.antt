use Rattle.tab_rules.specs.Verdict.{fails}
use Rattle.tab_rules.proofs.FirstIndex.{IsLater}
use Rattle.tab_rules.proofs.verdict.first_failing.Given as goal

abbrev pub invariant-loop-index : goal.invariant-loop-index
invariant-loop-index l =
    IsLater (fails l.auths l.mutation.row l.test.constraint l.test.code) l.index l.mutation.updates
