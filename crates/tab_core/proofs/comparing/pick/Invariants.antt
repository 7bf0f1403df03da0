use Rattle.std.proofs.Common.{◌≡◌, ◌++◌, drop}
use Rattle.std.specs.Prelude.{reverse}
use Rattle.tab_history.specs.Histories.{is_by}
use Rattle.tab_core.specs.Comparing.{those_of}
use Rattle.tab_core.proofs.comparing.pick.Given as goal

-- those told so far and those of what is left are those of all
abbrev pub invariant-loop-step : goal.invariant-loop-step
invariant-loop-step l = l.told.items ++ those_of (is_by l.user) (drop l.step-index l.steps) (reverse l.rest.items) ≡ those_of (is_by l.user) l.steps l.fn.replies.items
