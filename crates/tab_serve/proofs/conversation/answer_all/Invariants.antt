use Rattle.std.proofs.Common.{◌≡◌}
use Rattle.tab_io.specs.Writing.{HasPut}
use Rattle.tab_serve.specs.Progress.{side, AnswersFront, IsLeft}
use Rattle.tab_serve.proofs.conversation.answer_all.Given as goal

abbrev pub invariant-loop-fault : goal.invariant-loop-fault
invariant-loop-fault g l = record {
  goes : AnswersFront g.S.Service (side l.fn.conn l.fn.service) (g.R.Input.remaining l.fn.input) (side l.conn l.service) (IsLeft (g.R.Input.remaining l.input)) (HasPut g.W.Output l.fn.output l.output);
  opened : l.conn.opened ≡ g.S.Service.opened l.service;
  reads : g.R.Input.faults l.input ≡ g.R.Input.faults l.fn.input;
  writes : g.W.Output.faults l.output ≡ g.W.Output.faults l.fn.output;
}

abbrev pub decreases-loop-fault : goal.decreases-loop-fault
decreases-loop-fault g l = g.R.Input.budget l.input
