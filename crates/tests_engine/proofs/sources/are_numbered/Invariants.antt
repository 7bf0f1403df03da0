use Rattle.std.proofs.Common.{◌≡◌, All, take}
use Rattle.tests_engine.proofs.sources.are_numbered.Given as goal

abbrev pub invariant-loop-index : goal.invariant-loop-index
invariant-loop-index l = All (λ u. u.seq ≡ l.seq) (take l.index l.run)
