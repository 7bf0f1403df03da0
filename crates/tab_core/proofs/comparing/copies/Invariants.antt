use Rattle.std.proofs.Common.{◌≡◌, take}
use Rattle.tab_core.proofs.comparing.copies.Given as goal

-- the steps so far are copied
abbrev pub invariant-loop-step : goal.invariant-loop-step
invariant-loop-step l = l.copies.items ≡ take l.step-index l.steps
