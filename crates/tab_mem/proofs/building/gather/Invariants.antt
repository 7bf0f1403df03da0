-- What was copied, and what is left.
use Rattle.std.proofs.Common.{◌≡◌, ◌++◌, length}
use Rattle.tab_mem.proofs.building.gather.Given as goal

abbrev pub invariant-loop-next : goal.invariant-loop-next
invariant-loop-next g l = l.records ++ g.S.Source.rest l.source ≡ g.S.Source.rest l.initial.source

abbrev pub decreases-loop-next : goal.decreases-loop-next
decreases-loop-next g l = length (g.S.Source.rest l.source)
