use Rattle.std.proofs.Common.{◌≡◌, ℕ, List, Ok, true, false, rules, subst, to_z, of_z, w64}
use Rattle.tab_history.specs.declared.event.Act.{Act}
use Rattle.tab_history.specs.declared.event.Event.{Event}
use Rattle.tab_history.specs.declared.reply.Reply.TheVariants.{Done}
use Rattle.tab_history.specs.Answers.{Told}
use Rattle.tab_core.specs.Stores.{CoreContents}
use Rattle.tab_core.specs.JobSlots.{StepsIn}
use Rattle.tab_core.specs.Stepping.{asked_at}
use Rattle.tab_core.specs.declared.job_slots.JobSlot.{JobSlot}
use Rattle.tab_lines.specs.declared.file_line.FileLine.{FileLine}
use Rattle.tab_lines.specs.declared.line.Line.TheVariants as line
use Rattle.tab_replies.specs.Texts.{reply_text}
use Rattle.tab_shell.specs.Scripts.{ScriptState, ScriptAnswersLine, ScriptAcceptsFile, event_by, file_act}
use Rattle.tab_shell.specs.Progress.{AnswersOrAccepts, PrintsAnswer, HandsBack}
use Rattle.tab_shell.proofs.Saying.{with_core, file_accepted, file_refused, handed_back, printed_answers}
use Rattle.tab_shell.proofs.Ending.{when_true, when_false}
use Rattle.tab_shell.proofs.script.Script.file.Goals as goal

pub returns-then-is_done : goal.returns-then-is_done
returns-then-is_done g c =
    let v : ScriptState = record { core = c.self.inside.core; asker = record { user = c.self.inside.user; moment = c.self.inside.moment }; kept = c.self.inside.sessions; jobs = c.self.inside.jobs } in
    let act : Act = file_act c.args.file.now.kind in
    let new : CoreContents = c.step-answer.new.core in
    let jobs : List JobSlot = c.step-answer.new.self in
    let reply : Told = c.step-answer.result in
    let trip : to_z w64 (of_z w64 c.self.inside.moment) ≡ c.self.inside.moment = search rules in
    let is : asked_at c.self.inside.user (to_z w64 (of_z w64 c.self.inside.moment)) c.file_act-act.result ≡ event_by v.asker act = λ i. asked_at c.self.inside.user (trip i) (c.file_act-act.ensures i) in
    let steps : StepsIn v.core v.jobs (event_by v.asker act) reply new jobs = subst (λ (e : Event). StepsIn v.core v.jobs e reply new jobs) is c.step-answer.ensures.steps in
    let yes : c.is_done.result ≡ true = search rules in
    let done : reply ≡ Done = when_true c.is_done.result (reply ≡ Done) (reply ≡ Done → ⊥) yes c.is_done.ensures in
    let accepts : ScriptAcceptsFile v c.args.file.now (with_core v new jobs) = file_accepted v new jobs c.args.file.now reply done steps in
    subst (λ (s : ScriptState). AnswersOrAccepts g.W.Output s (Ok (line.File c.args.file.now)) (with_core v new jobs) c.args.output.now c.hand_back.new.output c.hand_back.result) c.self.view_is
    (handed_back g.W.Output v (with_core v new jobs) c.args.file.now c.args.output.now c.hand_back.new.output c.hand_back.result accepts
    (subst (λ (file : FileLine). HandsBack g.W.Output file c.args.output.now c.hand_back.new.output c.hand_back.result) c.taken.ensures c.hand_back.ensures))

pub returns : goal.returns
returns g c =
    let v : ScriptState = record { core = c.self.inside.core; asker = record { user = c.self.inside.user; moment = c.self.inside.moment }; kept = c.self.inside.sessions; jobs = c.self.inside.jobs } in
    let act : Act = file_act c.args.file.now.kind in
    let new : CoreContents = c.step-answer.new.core in
    let jobs : List JobSlot = c.step-answer.new.self in
    let reply : Told = c.step-answer.result in
    let trip : to_z w64 (of_z w64 c.self.inside.moment) ≡ c.self.inside.moment = search rules in
    let is : asked_at c.self.inside.user (to_z w64 (of_z w64 c.self.inside.moment)) c.file_act-act.result ≡ event_by v.asker act = λ i. asked_at c.self.inside.user (trip i) (c.file_act-act.ensures i) in
    let steps : StepsIn v.core v.jobs (event_by v.asker act) reply new jobs = subst (λ (e : Event). StepsIn v.core v.jobs e reply new jobs) is c.step-answer.ensures.steps in
    let no : c.is_done.result ≡ false = search rules in
    let not : reply ≡ Done → ⊥ = when_false c.is_done.result (reply ≡ Done) (reply ≡ Done → ⊥) no c.is_done.ensures in
    let text : List ℕ = reply_text reply in
    let answered : ScriptAnswersLine v (Ok (line.File c.args.file.now)) text (with_core v new jobs) = file_refused v new jobs c.args.file.now reply not steps in
    let prints : PrintsAnswer g.W.Output v (Ok (line.File c.args.file.now)) (with_core v new jobs) c.args.output.now c.write_reply.new.output c.write_reply.result = (text, answered, c.write_reply.ensures) in
    subst (λ (s : ScriptState). AnswersOrAccepts g.W.Output s (Ok (line.File c.args.file.now)) (with_core v new jobs) c.args.output.now c.write_reply.new.output c.printed.result) c.self.view_is
    (printed_answers g.W.Output v (with_core v new jobs) (Ok (line.File c.args.file.now)) c.args.output.now c.write_reply.new.output c.write_reply.result c.printed.result c.printed.ensures prints)
