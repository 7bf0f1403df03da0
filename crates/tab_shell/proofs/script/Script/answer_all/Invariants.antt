use Rattle.std.proofs.Common.{◌≡◌, ◌<◌, ◌⊎◌}
use Rattle.tab_shell.specs.Progress.{HasAnswered}
use Rattle.tab_shell.proofs.script.Script.answer_all.Given as goal

abbrev pub invariant-loop-accepted : goal.invariant-loop-accepted
invariant-loop-accepted g l = record {
  goes : HasAnswered g.W.Output l.fn.self (g.R.Input.remaining l.fn.input) l.fn.pending l.fn.output l.self (g.R.Input.remaining l.input) l.pending l.output;
  further : (g.R.Input.budget l.input < g.R.Input.budget l.fn.input) ⊎ (l.input ≡ l.fn.input);
  reads : g.R.Input.faults l.input ≡ g.R.Input.faults l.fn.input;
  writes : g.W.Output.faults l.output ≡ g.W.Output.faults l.fn.output;
}

abbrev pub decreases-loop-accepted : goal.decreases-loop-accepted
decreases-loop-accepted g l = g.R.Input.budget l.input
