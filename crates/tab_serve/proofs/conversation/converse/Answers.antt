use Rattle.std.proofs.Common.{subst}
use Rattle.tab_wire.specs.Asking.{ConnState}
use Rattle.tab_serve.specs.Progress.{side, GoesAll}
use Rattle.tab_serve.proofs.ProgressLemmas.{all_done, all_blamed}
use Rattle.tab_serve.proofs.conversation.converse.Goals as goal

pub returns-clause-answers : goal.returns-clause-answers
returns-clause-answers g c =
    let goes = subst (λ (k : ConnState). GoesAll g.R.Input g.W.Output g.S.Service (side k c.args.service.now) c.args.input.now c.args.output.now (side c.answer_all-answered.new.conn c.answer_all-answered.new.service) c.answer_all-answered.new.input c.answer_all-answered.new.output c.answer_all-answered.result)
    c.new-conn.ensures c.answer_all-answered.ensures.goes in
    all_done g.R.Input g.W.Output g.S.Service c.args.service.now c.answer_all-answered.new.service c.answer_all-answered.new.conn.user c.args.input.now c.answer_all-answered.new.input c.args.output.now c.answer_all-answered.new.output c.finish.new.output
    c.answer_all-answered.result c.finish.result goes c.finish.ensures

pub returns-clause-faults : goal.returns-clause-faults
returns-clause-faults g c =
    all_blamed g.R.Input g.W.Output c.args.input.now c.answer_all-answered.new.input c.args.output.now c.answer_all-answered.new.output c.finish.new.output c.answer_all-answered.result c.finish.result c.answer_all-answered.ensures.faults c.finish.ensures
