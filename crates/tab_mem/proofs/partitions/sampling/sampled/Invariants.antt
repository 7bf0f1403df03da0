use Rattle.tab_key.specs.Encoding.{places_from, AreAt}
use Rattle.tab_mem.proofs.partitions.sampling.sampled.Given as goal

abbrev pub invariant-loop-left : goal.invariant-loop-left
invariant-loop-left l = AreAt l.body (places_from l.body l.place l.left)

abbrev pub decreases-loop-left : goal.decreases-loop-left
decreases-loop-left l = l.left
