use Rattle.std.proofs.Common.{ℕ, ◌≡◌, ◌+◌, List, length}
use Rattle.tab_wire.specs.Taking.{Took, CostsNoLess}
use Rattle.tab_wire.proofs.frame.FrameBuffer.gather.Given as goal

abbrev pub invariant-loop-need : goal.invariant-loop-need
invariant-loop-need g l =
    ((bytes : List ℕ) × (length bytes + l.need ≡ l.count) × Took (g.R.Input.remaining l.fn.input) (g.R.Input.remaining l.input) l.fn.self l.self bytes)
    × (g.R.Input.faults l.input ≡ g.R.Input.faults l.fn.input)
    × CostsNoLess g.R.Input l.fn.input l.input

abbrev pub decreases-loop-need : goal.decreases-loop-need
decreases-loop-need g l = l.need
