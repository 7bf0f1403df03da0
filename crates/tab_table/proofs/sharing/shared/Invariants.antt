-- The bytes so far are shared.
use Rattle.std.proofs.Common.{◌≡◌, ◌+◌, drop}
use Rattle.tab_table.specs.Sizes.{shared}
use Rattle.tab_table.proofs.sharing.shared.Given as goal

abbrev pub invariant-loop-index : goal.invariant-loop-index
invariant-loop-index l = shared l.first l.second ≡ l.index + shared (drop l.index l.first) (drop l.index l.second)
