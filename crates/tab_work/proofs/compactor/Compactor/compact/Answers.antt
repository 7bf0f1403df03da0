use Rattle.std.proofs.Common.{rules}
use Rattle.tab_work.proofs.Following.{joined}
use Rattle.tab_work.proofs.compactor.Compactor.compact.Goals as goal

pub returns-then-not-compact_first : goal.returns-then-not-compact_first
returns-then-not-compact_first g c = joined _ _ _ c.loop.invariant.2 c.compact_first.ensures

pub loop-preserved : goal.loop-preserved
loop-preserved g c = (search rules, search rules, joined _ _ _ c.loop.invariant.2 c.compact_first.ensures)
