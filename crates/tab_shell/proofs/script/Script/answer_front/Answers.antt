use Rattle.std.proofs.Common.{rules, arith, ◌∙◌, subst, Option, Some, None, Ok}
use Rattle.tab_io.specs.declared.writing.WriteFault.{WriteFault}
use Rattle.tab_lines.specs.declared.file_line.FileLine.{FileLine}
use Rattle.tab_shell.specs.Progress.{AnswersOrAccepts}
use Rattle.tab_shell.proofs.ProgressLemmas.{goes_line, goes_file, fails_line, later_fault, fault_at}
use Rattle.tab_shell.proofs.script.Script.answer_front.Goals as goal

pub loop-at-preserved : goal.loop-at-preserved
loop-at-preserved g c =
    let read = c.in-Ok-None.ensures.lines in
    let answers : AnswersOrAccepts {E = WriteFault} g.W.Output c.loop-at.self read.0 c.answer_line.new.self c.loop-at.output c.answer_line.new.output (Ok None) =
    subst (λ (file : Option FileLine). AnswersOrAccepts {E = WriteFault} g.W.Output c.loop-at.self read.0 c.answer_line.new.self c.loop-at.output c.answer_line.new.output (Ok file)) c.in-Ok-None.field-0-is read.2 in
    record {
      goes = goes_line g.W.Output c.args.self.now c.loop-at.self c.answer_line.new.self read.0 (g.R.Input.remaining c.args.input.now) (g.R.Input.remaining c.loop-at.input) (g.R.Input.remaining c.answer_line.new.input) c.args.pending.now c.loop-at.pending c.answer_line.new.pending
          c.args.output.now c.loop-at.output c.answer_line.new.output c.loop-at.invariant.goes read.1 answers;
      shorter = omega (arith, c.in-Ok-None.ensures.shorter, c.loop-at.invariant.shorter);
      reads = search rules;
      budget = search rules;
      writes = answers.2.faults ∙ c.loop-at.invariant.writes;
    }

pub returns-in-Ok-Some-clause-front : goal.returns-in-Ok-Some-clause-front
returns-in-Ok-Some-clause-front g c =
    (omega (arith, c.in-Ok-Some.ensures.shorter, c.loop-at.invariant.shorter), omega (arith, c.in-Ok-Some.ensures.shorter, c.in-Ok-Some.ensures.fits))

pub returns-in-Ok-Some-clause-lines : goal.returns-in-Ok-Some-clause-lines
returns-in-Ok-Some-clause-lines g c =
    let read = c.in-Ok-Some.ensures.lines in
    let accepts : AnswersOrAccepts {E = WriteFault} g.W.Output c.loop-at.self read.0 c.answer_line.new.self c.loop-at.output c.answer_line.new.output (Ok (Some c.in-Ok-Some.file)) =
    subst (λ (file : Option FileLine). AnswersOrAccepts {E = WriteFault} g.W.Output c.loop-at.self read.0 c.answer_line.new.self c.loop-at.output c.answer_line.new.output (Ok file)) c.in-Ok-Some.field-0-is read.2 in (
      goes_file g.W.Output c.args.self.now c.loop-at.self c.answer_line.new.self read.0 c.in-Ok-Some.file (g.R.Input.remaining c.args.input.now) (g.R.Input.remaining c.loop-at.input) (g.R.Input.remaining c.answer_line.new.input) c.args.pending.now c.loop-at.pending c.answer_line.new.pending
          c.args.output.now c.loop-at.output c.answer_line.new.output c.loop-at.invariant.goes read.1 accepts.0 accepts.1,
      accepts.2,
    )

pub returns-in-Ok-Some-clause-writes : goal.returns-in-Ok-Some-clause-writes
returns-in-Ok-Some-clause-writes g c =
    let read = c.in-Ok-Some.ensures.lines in
    let accepts : AnswersOrAccepts {E = WriteFault} g.W.Output c.loop-at.self read.0 c.answer_line.new.self c.loop-at.output c.answer_line.new.output (Ok (Some c.in-Ok-Some.file)) =
    subst (λ (file : Option FileLine). AnswersOrAccepts {E = WriteFault} g.W.Output c.loop-at.self read.0 c.answer_line.new.self c.loop-at.output c.answer_line.new.output (Ok file)) c.in-Ok-Some.field-0-is read.2 in
    accepts.1.faults ∙ c.loop-at.invariant.writes

pub returns-in-Err-clause-lines : goal.returns-in-Err-clause-lines
returns-in-Err-clause-lines g c =
    let read = c.in-Err.ensures.lines in
    fails_line g.W.Output c.args.self.now c.loop-at.self c.answer_line.new.self read.0 (g.R.Input.remaining c.args.input.now) (g.R.Input.remaining c.loop-at.input) (g.R.Input.remaining c.answer_line.new.input) c.args.pending.now c.loop-at.pending c.answer_line.new.pending
    c.args.output.now c.loop-at.output c.answer_line.new.output c.loop-at.invariant.goes read.1 read.2

pub returns-in-Err-clause-writes : goal.returns-in-Err-clause-writes
returns-in-Err-clause-writes g c =
    let read = c.in-Err.ensures.lines in
    later_fault g.W.Output c.args.output.now c.loop-at.output c.answer_line.new.output c.loop-at.invariant.writes (fault_at g.W.Output c.loop-at.self c.answer_line.new.self read.0 c.loop-at.output c.answer_line.new.output read.2)
