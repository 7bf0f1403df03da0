use Rattle.std.proofs.Common.{Bool, Ok, Err, refl, subst, ◌∙◌}
use Rattle.tab_io.proofs.Putting.{put_none}
use Rattle.tab_io.specs.Writing.{HasPut}
use Rattle.tab_serve.specs.Progress.{side, Goes}
use Rattle.tab_serve.proofs.TurnLemmas.{none_on}
use Rattle.tab_serve.proofs.ProgressLemmas.{goes_then, goes_stopped}
use Rattle.tab_serve.proofs.conversation.answer_all.Goals as goal

pub loop-fault-init : goal.loop-fault-init
loop-fault-init g c =
    let out = c.args.output.now in record {
      goes = none_on g.S.Service (side c.args.conn.now c.args.service.now) (HasPut g.W.Output out out) (put_none g.W.Output out) (g.R.Input.remaining c.args.input.now);
      opened = c.requires.opened;
      reads = refl;
      writes = refl;
    }

pub returns-in-Ok-false-clause-goes : goal.returns-in-Ok-false-clause-goes
returns-in-Ok-false-clause-goes g c =
    let all = goes_then g.R.Input g.W.Output g.S.Service (side c.args.conn.now c.args.service.now) (side c.loop-fault.conn c.loop-fault.service) (side c.answer_front.new.conn c.answer_front.new.service) c.args.input.now c.loop-fault.input c.answer_front.new.input
    c.args.output.now c.loop-fault.output c.answer_front.new.output (Ok c.in-Ok-false.field-0) c.loop-fault.invariant.goes c.in-Ok-false.ensures.goes in
    subst (λ (t : Bool). Goes g.R.Input g.W.Output g.S.Service (side c.args.conn.now c.args.service.now) c.args.input.now c.args.output.now (side c.answer_front.new.conn c.answer_front.new.service) c.answer_front.new.input c.answer_front.new.output (Ok t)) c.in-Ok-false.field-0-test all

pub returns-in-Err-clause-goes : goal.returns-in-Err-clause-goes
returns-in-Err-clause-goes g c =
    let all = goes_then g.R.Input g.W.Output g.S.Service (side c.args.conn.now c.args.service.now) (side c.loop-fault.conn c.loop-fault.service) (side c.answer_front.new.conn c.answer_front.new.service) c.args.input.now c.loop-fault.input c.answer_front.new.input
    c.args.output.now c.loop-fault.output c.answer_front.new.output (Err c.in-Err.fault) c.loop-fault.invariant.goes c.in-Err.ensures.goes in
    goes_stopped g.R.Input g.W.Output g.S.Service (side c.args.conn.now c.args.service.now) (side c.answer_front.new.conn c.answer_front.new.service) c.args.input.now c.answer_front.new.input c.args.output.now c.answer_front.new.output c.in-Err.fault all

pub loop-fault-preserved : goal.loop-fault-preserved
loop-fault-preserved g c =
    let all = goes_then g.R.Input g.W.Output g.S.Service (side c.args.conn.now c.args.service.now) (side c.loop-fault.conn c.loop-fault.service) (side c.answer_front.new.conn c.answer_front.new.service) c.args.input.now c.loop-fault.input c.answer_front.new.input
    c.args.output.now c.loop-fault.output c.answer_front.new.output (Ok c.in-Ok-true.field-0) c.loop-fault.invariant.goes c.in-Ok-true.ensures.goes in record {
      goes = subst (λ (t : Bool). Goes g.R.Input g.W.Output g.S.Service (side c.args.conn.now c.args.service.now) c.args.input.now c.args.output.now (side c.answer_front.new.conn c.answer_front.new.service) c.answer_front.new.input c.answer_front.new.output (Ok t)) c.in-Ok-true.field-0-test all;
      opened = c.answer_front.ensures.opened;
      reads = c.in-Ok-true.ensures.faults.0 ∙ c.loop-fault.invariant.reads;
      writes = c.in-Ok-true.ensures.faults.1 ∙ c.loop-fault.invariant.writes;
    }
