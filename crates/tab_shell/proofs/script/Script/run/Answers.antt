use Rattle.std.proofs.Common.{◌≡◌, ◌<◌, ◌∙◌, inl, List, [], ℕ, Option, Some, None, Ok, true, false, length, rules, subst}
use Rattle.tab_io.specs.Writing.{HasPutPart}
use Rattle.tab_io.proofs.Putting.{flush_put, flush_part}
use Rattle.tab_io.specs.declared.writing.WriteFault.{WriteFault}
use Rattle.tab_lines.specs.declared.file_line.FileLine.{FileLine}
use Rattle.tab_shell.specs.declared.pending.Pending.{Pending}
use Rattle.tab_shell.specs.Scripts.{ScriptState}
use Rattle.tab_shell.specs.Ahead.{Pends}
use Rattle.tab_shell.specs.Progress.{EndsAhead, AnswersOrAccepts}
use Rattle.tab_shell.proofs.ProgressLemmas.{later_fault, fault_at}
use Rattle.tab_shell.proofs.Ending.{stops_after, ends_clean, ends_open, ends_at_file, ends_in_file, stops_open, flush_behind, when_true, when_false}
use Rattle.tab_shell.proofs.script.Script.run.Goals as goal

pub returns-in-Ok-Some-clause-run : goal.returns-in-Ok-Some-clause-run
returns-in-Ok-Some-clause-run g c =
    let a : ScriptState = c.args.self.now in
    let b : ScriptState = c.answer_all.new.self in
    let r : Option (List ℕ) = g.R.Input.remaining c.args.input.now in
    let r1 : Option (List ℕ) = g.R.Input.remaining c.answer_all.new.input in
    let p : Pending = c.new-pending.result in
    let p1 : Pending = c.answer_all.new.pending in
    let o = c.args.output.now in
    let o1 = c.answer_all.new.output in
    let ended : EndsAhead g.W.Output (Some c.in-Ok-Some.file) a r p o b r1 p1 o1 = subst (λ (file : Option FileLine). EndsAhead g.W.Output file a r p o b r1 p1 o1) c.in-Ok-Some.field-0-is c.in-Ok-Some.ensures.ok in
    (ends_at_file g.W.Output a b c.in-Ok-Some.file r r1 p o o1 c.new-pending.ensures ended.0 ended.1, ended.1)

pub returns-in-Err-clause-run : goal.returns-in-Err-clause-run
returns-in-Err-clause-run g c =
    stops_after g.R.Input g.W.Output c.in-Err.stopped c.args.self.now c.answer_all.new.self c.args.input.now c.answer_all.new.input c.new-pending.result c.answer_all.new.pending c.args.output.now c.answer_all.new.output
    c.new-pending.ensures c.in-Err.ensures.err c.in-Err.ensures.faults

pub returns-then-not-has_begun-clause-run : goal.returns-then-not-has_begun-clause-run
returns-then-not-has_begun-clause-run g c =
    let a : ScriptState = c.args.self.now in
    let b : ScriptState = c.answer_all.new.self in
    let r : Option (List ℕ) = g.R.Input.remaining c.args.input.now in
    let r1 : Option (List ℕ) = g.R.Input.remaining c.answer_all.new.input in
    let p : Pending = c.new-pending.result in
    let p1 : Pending = c.answer_all.new.pending in
    let o = c.args.output.now in
    let o1 = c.answer_all.new.output in
    let ended : EndsAhead g.W.Output None a r p o b r1 p1 o1 = subst (λ (file : Option FileLine). EndsAhead g.W.Output file a r p o b r1 p1 o1) c.in-Ok-None.field-0-is c.in-Ok-None.ensures.ok in
    let none : c.has_begun.result ≡ false = search rules in
    (ends_clean g.W.Output a b r r1 p p1 o o1 c.new-pending.ensures ended.0 ended.1 (λ gone h. when_false c.has_begun.result (0 < length gone) (gone ≡ []) none (c.has_begun.ensures gone h)), ended.1)

pub returns-in-Ok-Some-answer-clause-run : goal.returns-in-Ok-Some-answer-clause-run
returns-in-Ok-Some-answer-clause-run g c =
    let a : ScriptState = c.args.self.now in
    let b : ScriptState = c.answer_all.new.self in
    let r : Option (List ℕ) = g.R.Input.remaining c.args.input.now in
    let r1 : Option (List ℕ) = g.R.Input.remaining c.answer_all.new.input in
    let p : Pending = c.new-pending.result in
    let p1 : Pending = c.answer_all.new.pending in
    let o = c.args.output.now in
    let o1 = c.answer_all.new.output in
    let ended : EndsAhead g.W.Output None a r p o b r1 p1 o1 = subst (λ (file : Option FileLine). EndsAhead g.W.Output file a r p o b r1 p1 o1) c.in-Ok-None.field-0-is c.in-Ok-None.ensures.ok in
    let read = c.in-Ok-Some-answer.ensures in
    let d : ScriptState = c.answer.new.self in
    let o2 = c.answer.new.output in
    let yes : c.has_begun.result ≡ true = search rules in
    let some : (gone : List ℕ) → Pends p1 gone → 0 < length gone = λ gone h. when_true c.has_begun.result (0 < length gone) (gone ≡ []) yes (c.has_begun.ensures gone h) in
    let accepted : AnswersOrAccepts {E = WriteFault} g.W.Output b read.0 d o1 o2 (Ok (Some c.in-Ok-Some-answer.file)) =
    subst (λ (file : Option FileLine). AnswersOrAccepts {E = WriteFault} g.W.Output b read.0 d o1 o2 (Ok file)) c.in-Ok-Some-answer.field-0-is read.2 in
    (ends_in_file g.W.Output a b d read.0 c.in-Ok-Some-answer.file r r1 p p1 o o1 o2 c.new-pending.ensures ended.0 read.1 accepted.0 accepted.1 accepted.2, accepted.2)

pub returns-in-Err-answer-clause-run : goal.returns-in-Err-answer-clause-run
returns-in-Err-answer-clause-run g c =
    let a : ScriptState = c.args.self.now in
    let b : ScriptState = c.answer_all.new.self in
    let r : Option (List ℕ) = g.R.Input.remaining c.args.input.now in
    let r1 : Option (List ℕ) = g.R.Input.remaining c.answer_all.new.input in
    let p : Pending = c.new-pending.result in
    let p1 : Pending = c.answer_all.new.pending in
    let o = c.args.output.now in
    let o1 = c.answer_all.new.output in
    let ended : EndsAhead g.W.Output None a r p o b r1 p1 o1 = subst (λ (file : Option FileLine). EndsAhead g.W.Output file a r p o b r1 p1 o1) c.in-Ok-None.field-0-is c.in-Ok-None.ensures.ok in
    let read = c.in-Err-answer.ensures in
    let d : ScriptState = c.answer.new.self in
    let o2 = c.answer.new.output in
    let yes : c.has_begun.result ≡ true = search rules in
    let some : (gone : List ℕ) → Pends p1 gone → 0 < length gone = λ gone h. when_true c.has_begun.result (0 < length gone) (gone ≡ []) yes (c.has_begun.ensures gone h) in (
      stops_open g.W.Output a b d read.0 r r1 p p1 o o1 o2 c.new-pending.ensures ended.0 some read.1 read.2,
      later_fault g.W.Output o o1 o2 c.in-Ok-None.ensures.writes (fault_at g.W.Output b d read.0 o1 o2 read.2),
    )

pub returns-in-Ok-clause-run : goal.returns-in-Ok-clause-run
returns-in-Ok-clause-run g c =
    let a : ScriptState = c.args.self.now in
    let b : ScriptState = c.answer_all.new.self in
    let r : Option (List ℕ) = g.R.Input.remaining c.args.input.now in
    let r1 : Option (List ℕ) = g.R.Input.remaining c.answer_all.new.input in
    let p : Pending = c.new-pending.result in
    let p1 : Pending = c.answer_all.new.pending in
    let o = c.args.output.now in
    let o1 = c.answer_all.new.output in
    let ended : EndsAhead g.W.Output None a r p o b r1 p1 o1 = subst (λ (file : Option FileLine). EndsAhead g.W.Output file a r p o b r1 p1 o1) c.in-Ok-None.field-0-is c.in-Ok-None.ensures.ok in
    let read = c.in-Ok-None-answer.ensures in
    let d : ScriptState = c.answer.new.self in
    let o2 = c.answer.new.output in
    let yes : c.has_begun.result ≡ true = search rules in
    let some : (gone : List ℕ) → Pends p1 gone → 0 < length gone = λ gone h. when_true c.has_begun.result (0 < length gone) (gone ≡ []) yes (c.has_begun.ensures gone h) in
    let answered : AnswersOrAccepts {E = WriteFault} g.W.Output b read.0 d o1 o2 (Ok None) =
    subst (λ (file : Option FileLine). AnswersOrAccepts {E = WriteFault} g.W.Output b read.0 d o1 o2 (Ok file)) c.in-Ok-None-answer.field-0-is read.2 in
    let o3 = c.flush.new.self in (
      ends_open g.W.Output a b d read.0 r r1 p p1 o o1 o2 o3 c.new-pending.ensures ended.0 some read.1 answered
          (flush_put g.W.Output o2 o3 c.in-Ok.ensures.bytes c.in-Ok.ensures.faults) c.in-Ok.ensures.bytes.1,
      c.in-Ok.ensures.bytes.1,
    )

pub returns-clause-run : goal.returns-clause-run
returns-clause-run g c =
    let a : ScriptState = c.args.self.now in
    let b : ScriptState = c.answer_all.new.self in
    let r : Option (List ℕ) = g.R.Input.remaining c.args.input.now in
    let r1 : Option (List ℕ) = g.R.Input.remaining c.answer_all.new.input in
    let p : Pending = c.new-pending.result in
    let p1 : Pending = c.answer_all.new.pending in
    let o = c.args.output.now in
    let o1 = c.answer_all.new.output in
    let ended : EndsAhead g.W.Output None a r p o b r1 p1 o1 = subst (λ (file : Option FileLine). EndsAhead g.W.Output file a r p o b r1 p1 o1) c.in-Ok-None.field-0-is c.in-Ok-None.ensures.ok in
    let read = c.in-Ok-None-answer.ensures in
    let d : ScriptState = c.answer.new.self in
    let o2 = c.answer.new.output in
    let yes : c.has_begun.result ≡ true = search rules in
    let some : (gone : List ℕ) → Pends p1 gone → 0 < length gone = λ gone h. when_true c.has_begun.result (0 < length gone) (gone ≡ []) yes (c.has_begun.ensures gone h) in
    let answered : AnswersOrAccepts {E = WriteFault} g.W.Output b read.0 d o1 o2 (Ok None) =
    subst (λ (file : Option FileLine). AnswersOrAccepts {E = WriteFault} g.W.Output b read.0 d o1 o2 (Ok file)) c.in-Ok-None-answer.field-0-is read.2 in
    let o3 = c.flush.new.self in
    let flush : HasPutPart g.W.Output o2 o3 [] = flush_part g.W.Output o2 o3 c.in-Err-flush.ensures.bytes c.in-Err-flush.ensures.faults in (
      stops_open g.W.Output a b d read.0 r r1 p p1 o o1 o3 c.new-pending.ensures ended.0 some read.1 (inl (flush_behind g.W.Output b d read.0 o1 o2 o3 answered flush)),
      later_fault g.W.Output o o2 o3 (answered.2.faults ∙ c.in-Ok-None.ensures.writes) flush.failed,
    )
