-- The steps up to here rise.
use Rattle.std.proofs.Common.{ℕ, ◌<◌}
use Rattle.tab_iter.proofs.Steps.{IsStep}
use Rattle.tab_iter.proofs.list_source.is_rising.Given as goal

abbrev pub invariant-loop-i : goal.invariant-loop-i
invariant-loop-i l = (j : ℕ) → j < l.i → 0 < j → IsStep l.records j
