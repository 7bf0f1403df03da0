use Rattle.std.proofs.Common.{◌≤◌, ℕ, Bool, List, Ok, Err, refl, ap, subst, ◌∙◌, arith, length}
use Rattle.tab_io.proofs.Putting.{put_none}
use Rattle.tab_io.specs.Writing.{HasPut}
use Rattle.tab_serve.specs.Progress.{side, Goes}
use Rattle.tab_serve.proofs.TurnLemmas.{none_on}
use Rattle.tab_serve.proofs.ProgressLemmas.{goes_then, costs_budget}
use Rattle.tab_serve.proofs.conversation.answer_front.Goals as goal

pub loop-fault-init : goal.loop-fault-init
loop-fault-init g c =
    let out = c.args.output.now in record {
      goes = none_on g.S.Service (side c.args.conn.now c.args.service.now) (HasPut g.W.Output out out) (put_none g.W.Output out) (g.R.Input.remaining c.args.input.now);
      opened = c.requires.opened;
      reads = refl;
      writes = refl;
      here = ap (λ (xs : List ℕ). length xs) c.front-here.ensures.value;
      budget = omega arith;
    }

pub returns-in-Ok-false-clause-goes : goal.returns-in-Ok-false-clause-goes
returns-in-Ok-false-clause-goes g c =
    let all = goes_then g.R.Input g.W.Output g.S.Service (side c.args.conn.now c.args.service.now) (side c.loop-fault.conn c.loop-fault.service) (side c.turn.new.conn c.turn.new.service) c.args.input.now c.loop-fault.input c.turn.new.input
    c.args.output.now c.loop-fault.output c.turn.new.output (Ok c.in-Ok-false.field-0) c.loop-fault.invariant.goes c.in-Ok-false.ensures.goes in
    subst (λ (t : Bool). Goes g.R.Input g.W.Output g.S.Service (side c.args.conn.now c.args.service.now) c.args.input.now c.args.output.now (side c.turn.new.conn c.turn.new.service) c.turn.new.input c.turn.new.output (Ok t)) c.in-Ok-false.field-0-test all

pub returns-in-Err-clause-goes : goal.returns-in-Err-clause-goes
returns-in-Err-clause-goes g c =
    goes_then g.R.Input g.W.Output g.S.Service (side c.args.conn.now c.args.service.now) (side c.loop-fault.conn c.loop-fault.service) (side c.turn.new.conn c.turn.new.service) c.args.input.now c.loop-fault.input c.turn.new.input
    c.args.output.now c.loop-fault.output c.turn.new.output (Err c.in-Err.fault) c.loop-fault.invariant.goes c.in-Err.ensures.goes

pub returns-then-left-here-clause-goes : goal.returns-then-left-here-clause-goes
returns-then-left-here-clause-goes g c =
    let all = goes_then g.R.Input g.W.Output g.S.Service (side c.args.conn.now c.args.service.now) (side c.loop-fault.conn c.loop-fault.service) (side c.turn.new.conn c.turn.new.service) c.args.input.now c.loop-fault.input c.turn.new.input
    c.args.output.now c.loop-fault.output c.turn.new.output (Ok c.in-Ok-true.field-0) c.loop-fault.invariant.goes c.in-Ok-true.ensures.goes in
    subst (λ (t : Bool). Goes g.R.Input g.W.Output g.S.Service (side c.args.conn.now c.args.service.now) c.args.input.now c.args.output.now (side c.turn.new.conn c.turn.new.service) c.turn.new.input c.turn.new.output (Ok t)) c.in-Ok-true.field-0-test all

pub loop-fault-preserved : goal.loop-fault-preserved
loop-fault-preserved g c =
    let all = goes_then g.R.Input g.W.Output g.S.Service (side c.args.conn.now c.args.service.now) (side c.loop-fault.conn c.loop-fault.service) (side c.turn.new.conn c.turn.new.service) c.args.input.now c.loop-fault.input c.turn.new.input
    c.args.output.now c.loop-fault.output c.turn.new.output (Ok c.in-Ok-true.field-0) c.loop-fault.invariant.goes c.in-Ok-true.ensures.goes in
    let no_more : g.R.Input.budget c.turn.new.input ≤ g.R.Input.budget c.loop-fault.input = costs_budget g.R.Input c.loop-fault.input c.turn.new.input c.in-Ok-true.field-0 c.in-Ok-true.ensures.costs c.in-Ok-true.field-0-test in record {
      goes = subst (λ (t : Bool). Goes g.R.Input g.W.Output g.S.Service (side c.args.conn.now c.args.service.now) c.args.input.now c.args.output.now (side c.turn.new.conn c.turn.new.service) c.turn.new.input c.turn.new.output (Ok t)) c.in-Ok-true.field-0-test all;
      opened = c.turn.ensures.opened;
      reads = c.in-Ok-true.ensures.faults.0 ∙ c.loop-fault.invariant.reads;
      writes = c.in-Ok-true.ensures.faults.1 ∙ c.loop-fault.invariant.writes;
      here = ap (λ (xs : List ℕ). length xs) c.front-left.ensures.value;
      budget = omega (arith, no_more, c.loop-fault.invariant.budget);
    }
