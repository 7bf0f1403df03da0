use Rattle.std.proofs.Common.{◌≡◌, ◌≤◌, length}
use Rattle.tab_shell.specs.Progress.{HasAnswered}
use Rattle.tab_shell.proofs.script.Script.answer_front.Given as goal

abbrev pub invariant-loop-at : goal.invariant-loop-at
invariant-loop-at g l = record {
  goes : HasAnswered g.W.Output l.fn.self (g.R.Input.remaining l.fn.input) l.fn.pending l.fn.output l.self (g.R.Input.remaining l.input) l.pending l.output;
  shorter : length (g.R.Input.front l.input) ≤ length (g.R.Input.front l.fn.input);
  reads : g.R.Input.faults l.input ≡ g.R.Input.faults l.fn.input;
  budget : g.R.Input.budget l.input ≡ g.R.Input.budget l.fn.input;
  writes : g.W.Output.faults l.output ≡ g.W.Output.faults l.fn.output;
}

abbrev pub decreases-loop-at : goal.decreases-loop-at
decreases-loop-at g l = length (g.R.Input.front l.input)
