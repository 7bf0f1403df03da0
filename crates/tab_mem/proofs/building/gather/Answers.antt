-- One record more was copied.
use Rattle.tab_mem.proofs.Copied.{copied_one}
use Rattle.tab_mem.proofs.building.gather.Goals as goal

pub loop-next-preserved : goal.loop-next-preserved
loop-next-preserved g c = copied_one c.loop-next.records c.push_copy.new.self (g.S.Source.rest c.loop-next.source) (g.S.Source.rest c.advance.new.self) (g.S.Source.rest c.args.source.now) c.in-Some.next c.loop-next.invariant c.in-Some.ensures c.in_ok-push_copy.ensures.ok c.in_ok-advance.ensures.rest
