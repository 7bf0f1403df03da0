use Rattle.std.proofs.Common.{◌<◌, inl, List, ℕ, Option, Some, Ok, rules, subst}
use Rattle.tab_io.proofs.Putting.{flush_put, flush_part}
use Rattle.tab_io.specs.declared.writing.WriteFault.{WriteFault}
use Rattle.tab_lines.specs.declared.file_line.FileLine.{FileLine}
use Rattle.tab_shell.specs.declared.pending.Pending.{Pending}
use Rattle.tab_shell.specs.Scripts.{ScriptState}
use Rattle.tab_shell.specs.Progress.{AnswersFront, HasAnswered, IsEmptied}
use Rattle.tab_shell.proofs.ProgressLemmas.{goes_both, file_both, failed_both, goes_flush, part_flush, goes_fill, goes_end, fills_keeps, fills_end, further_file, further_fill}
use Rattle.tab_shell.proofs.script.Script.answer_all.Goals as goal

pub returns-in-Ok-Some-clause-ok : goal.returns-in-Ok-Some-clause-ok
returns-in-Ok-Some-clause-ok g c =
    let a : ScriptState = c.args.self.now in
    let b : ScriptState = c.loop-accepted.self in
    let d : ScriptState = c.answer_front.new.self in
    let r : Option (List ℕ) = g.R.Input.remaining c.args.input.now in
    let rb : Option (List ℕ) = g.R.Input.remaining c.loop-accepted.input in
    let r1 : Option (List ℕ) = g.R.Input.remaining c.answer_front.new.input in
    let p : Pending = c.args.pending.now in
    let pb : Pending = c.loop-accepted.pending in
    let p1 : Pending = c.answer_front.new.pending in
    let o = c.args.output.now in
    let o1 = c.answer_front.new.output in
    let front : AnswersFront {E = WriteFault} g.W.Output b rb pb c.loop-accepted.output d r1 p1 o1 (Ok (Some c.in-Ok-Some.accepted)) =
    subst (λ (file : Option FileLine). AnswersFront {E = WriteFault} g.W.Output b rb pb c.loop-accepted.output d r1 p1 o1 (Ok file)) c.in-Ok-Some.field-0-is c.in-Ok-Some.ensures.lines in
    (file_both g.W.Output a b d c.in-Ok-Some.accepted r rb r1 p pb o c.loop-accepted.output o1 c.loop-accepted.invariant.goes front.0, front.1)

pub returns-in-Ok-Some-clause-further : goal.returns-in-Ok-Some-clause-further
returns-in-Ok-Some-clause-further g c =
    let front : IsEmptied (Some c.in-Ok-Some.accepted) (g.R.Input.front c.loop-accepted.input) (g.R.Input.front c.answer_front.new.input) =
    subst (λ (file : Option FileLine). IsEmptied file (g.R.Input.front c.loop-accepted.input) (g.R.Input.front c.answer_front.new.input)) c.in-Ok-Some.field-0-is c.in-Ok-Some.ensures.front in
    further_file g.R.Input c.args.input.now c.loop-accepted.input c.answer_front.new.input c.in-Ok-Some.accepted c.loop-accepted.invariant.further c.answer_front.ensures.reads.1 front

pub returns-in-Err-clause-err : goal.returns-in-Err-clause-err
returns-in-Err-clause-err g c =
    let a : ScriptState = c.args.self.now in
    let b : ScriptState = c.loop-accepted.self in
    let d : ScriptState = c.answer_front.new.self in
    let r : Option (List ℕ) = g.R.Input.remaining c.args.input.now in
    let rb : Option (List ℕ) = g.R.Input.remaining c.loop-accepted.input in
    let r1 : Option (List ℕ) = g.R.Input.remaining c.answer_front.new.input in
    let p : Pending = c.args.pending.now in
    let pb : Pending = c.loop-accepted.pending in
    let p1 : Pending = c.answer_front.new.pending in
    let o = c.args.output.now in
    let o1 = c.answer_front.new.output in
    failed_both g.W.Output a b d r rb r1 p pb p1 o c.loop-accepted.output o1 c.loop-accepted.invariant.goes c.in-Err.ensures.lines

pub returns-in-Err-flush-clause-err : goal.returns-in-Err-flush-clause-err
returns-in-Err-flush-clause-err g c =
    let a : ScriptState = c.args.self.now in
    let b : ScriptState = c.loop-accepted.self in
    let d : ScriptState = c.answer_front.new.self in
    let r : Option (List ℕ) = g.R.Input.remaining c.args.input.now in
    let rb : Option (List ℕ) = g.R.Input.remaining c.loop-accepted.input in
    let r1 : Option (List ℕ) = g.R.Input.remaining c.answer_front.new.input in
    let p : Pending = c.args.pending.now in
    let pb : Pending = c.loop-accepted.pending in
    let p1 : Pending = c.answer_front.new.pending in
    let o = c.args.output.now in
    let o1 = c.answer_front.new.output in
    let o2 = c.flush.new.self in
    let front : HasAnswered g.W.Output b rb pb c.loop-accepted.output d r1 p1 o1 =
    subst (λ (file : Option FileLine). AnswersFront {E = WriteFault} g.W.Output b rb pb c.loop-accepted.output d r1 p1 o1 (Ok file)) c.in-Ok-None.field-0-is c.in-Ok-None.ensures.lines in
    let went : HasAnswered g.W.Output a r p o d r1 p1 o1 = goes_both g.W.Output a b d r rb r1 p pb p1 o c.loop-accepted.output o1 c.loop-accepted.invariant.goes front in
    inl (part_flush g.W.Output a d r r1 p p1 o o1 o2 went (flush_part g.W.Output o1 o2 c.in-Err-flush.ensures.bytes c.in-Err-flush.ensures.faults))

pub loop-accepted-preserved : goal.loop-accepted-preserved
loop-accepted-preserved g c =
    let a : ScriptState = c.args.self.now in
    let b : ScriptState = c.loop-accepted.self in
    let d : ScriptState = c.answer_front.new.self in
    let r : Option (List ℕ) = g.R.Input.remaining c.args.input.now in
    let rb : Option (List ℕ) = g.R.Input.remaining c.loop-accepted.input in
    let r1 : Option (List ℕ) = g.R.Input.remaining c.answer_front.new.input in
    let p : Pending = c.args.pending.now in
    let pb : Pending = c.loop-accepted.pending in
    let p1 : Pending = c.answer_front.new.pending in
    let o = c.args.output.now in
    let o1 = c.answer_front.new.output in
    let o2 = c.flush.new.self in
    let front : HasAnswered g.W.Output b rb pb c.loop-accepted.output d r1 p1 o1 =
    subst (λ (file : Option FileLine). AnswersFront {E = WriteFault} g.W.Output b rb pb c.loop-accepted.output d r1 p1 o1 (Ok file)) c.in-Ok-None.field-0-is c.in-Ok-None.ensures.lines in
    let went : HasAnswered g.W.Output a r p o d r1 p1 o1 = goes_both g.W.Output a b d r rb r1 p pb p1 o c.loop-accepted.output o1 c.loop-accepted.invariant.goes front in
    let clean : HasAnswered g.W.Output a r p o d r1 p1 o2 = goes_flush g.W.Output a d r r1 p p1 o o1 o2 went (flush_put g.W.Output o1 o2 c.in-Ok.ensures.bytes c.in-Ok.ensures.faults) in
    let r2 : Option (List ℕ) = g.R.Input.remaining c.fill.new.self in
    let spent : g.R.Input.budget c.fill.new.self < g.R.Input.budget c.answer_front.new.input = search rules in
    record {
      goes = goes_fill g.W.Output a d r r1 r2 p p1 o o2 clean (fills_keeps r1 r2 (g.R.Input.front c.fill.new.self) c.in-Ok-true.field-0 c.fill.result c.in-Ok-true.is c.fill.ensures.bytes);
      further = inl (further_fill g.R.Input c.args.input.now c.loop-accepted.input c.answer_front.new.input c.fill.new.self c.loop-accepted.invariant.further c.answer_front.ensures.reads.1 spent);
      reads = search rules;
      writes = search rules;
    }

pub returns-in-Ok-false-clause-ok : goal.returns-in-Ok-false-clause-ok
returns-in-Ok-false-clause-ok g c =
    let a : ScriptState = c.args.self.now in
    let b : ScriptState = c.loop-accepted.self in
    let d : ScriptState = c.answer_front.new.self in
    let r : Option (List ℕ) = g.R.Input.remaining c.args.input.now in
    let rb : Option (List ℕ) = g.R.Input.remaining c.loop-accepted.input in
    let r1 : Option (List ℕ) = g.R.Input.remaining c.answer_front.new.input in
    let p : Pending = c.args.pending.now in
    let pb : Pending = c.loop-accepted.pending in
    let p1 : Pending = c.answer_front.new.pending in
    let o = c.args.output.now in
    let o1 = c.answer_front.new.output in
    let o2 = c.flush.new.self in
    let front : HasAnswered g.W.Output b rb pb c.loop-accepted.output d r1 p1 o1 =
    subst (λ (file : Option FileLine). AnswersFront {E = WriteFault} g.W.Output b rb pb c.loop-accepted.output d r1 p1 o1 (Ok file)) c.in-Ok-None.field-0-is c.in-Ok-None.ensures.lines in
    let went : HasAnswered g.W.Output a r p o d r1 p1 o1 = goes_both g.W.Output a b d r rb r1 p pb p1 o c.loop-accepted.output o1 c.loop-accepted.invariant.goes front in
    let clean : HasAnswered g.W.Output a r p o d r1 p1 o2 = goes_flush g.W.Output a d r r1 p p1 o o1 o2 went (flush_put g.W.Output o1 o2 c.in-Ok.ensures.bytes c.in-Ok.ensures.faults) in
    let r2 : Option (List ℕ) = g.R.Input.remaining c.fill.new.self in
    (goes_end g.W.Output a d r r1 r2 p p1 o o2 clean (fills_end r1 r2 (g.R.Input.front c.fill.new.self) c.fill.result (search rules) c.fill.ensures.bytes), c.in-Ok.ensures.bytes.1)

pub returns-in-Ok-false-clause-further : goal.returns-in-Ok-false-clause-further
returns-in-Ok-false-clause-further g c =
    let spent : g.R.Input.budget c.fill.new.self < g.R.Input.budget c.answer_front.new.input = search rules in
    inl (further_fill g.R.Input c.args.input.now c.loop-accepted.input c.answer_front.new.input c.fill.new.self c.loop-accepted.invariant.further c.answer_front.ensures.reads.1 spent)

pub returns-in-Err-fill-clause-err : goal.returns-in-Err-fill-clause-err
returns-in-Err-fill-clause-err g c =
    let a : ScriptState = c.args.self.now in
    let b : ScriptState = c.loop-accepted.self in
    let d : ScriptState = c.answer_front.new.self in
    let r : Option (List ℕ) = g.R.Input.remaining c.args.input.now in
    let rb : Option (List ℕ) = g.R.Input.remaining c.loop-accepted.input in
    let r1 : Option (List ℕ) = g.R.Input.remaining c.answer_front.new.input in
    let p : Pending = c.args.pending.now in
    let pb : Pending = c.loop-accepted.pending in
    let p1 : Pending = c.answer_front.new.pending in
    let o = c.args.output.now in
    let o1 = c.answer_front.new.output in
    let o2 = c.flush.new.self in
    let front : HasAnswered g.W.Output b rb pb c.loop-accepted.output d r1 p1 o1 =
    subst (λ (file : Option FileLine). AnswersFront {E = WriteFault} g.W.Output b rb pb c.loop-accepted.output d r1 p1 o1 (Ok file)) c.in-Ok-None.field-0-is c.in-Ok-None.ensures.lines in
    let went : HasAnswered g.W.Output a r p o d r1 p1 o1 = goes_both g.W.Output a b d r rb r1 p pb p1 o c.loop-accepted.output o1 c.loop-accepted.invariant.goes front in
    let clean : HasAnswered g.W.Output a r p o d r1 p1 o2 = goes_flush g.W.Output a d r r1 p p1 o o1 o2 went (flush_put g.W.Output o1 o2 c.in-Ok.ensures.bytes c.in-Ok.ensures.faults) in
    let r2 : Option (List ℕ) = g.R.Input.remaining c.fill.new.self in
    (goes_fill g.W.Output a d r r1 r2 p p1 o o2 clean c.in-Err-fill.ensures.bytes, c.in-Ok.ensures.bytes.1)
