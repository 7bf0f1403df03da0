use Rattle.std.proofs.Common.{◌≡◌, ℕ, List, Ok, sym, subst, rules, to_z, of_z, w64}
use Rattle.tab_history.specs.declared.event.Event.{Event}
use Rattle.tab_core.specs.Stores.{CoreContents}
use Rattle.tab_core.specs.JobSlots.{StepsIn}
use Rattle.tab_core.specs.Stepping.{asked_at}
use Rattle.tab_core.specs.declared.job_slots.JobSlot.{JobSlot}
use Rattle.tab_lines.specs.declared.line.Line.TheVariants as line
use Rattle.tab_replies.specs.Texts.{begun_text}
use Rattle.tab_shell.specs.Scripts.{ScriptState, ScriptAnswersLine, event_by}
use Rattle.tab_shell.specs.Progress.{PrintsAnswer}
use Rattle.tab_shell.proofs.Saying.{with_core, act_answered}
use Rattle.tab_shell.proofs.script.Script.act.Goals as goal

pub returns : goal.returns
returns g c =
    let v : ScriptState = record { core = c.self.inside.core; asker = record { user = c.self.inside.user; moment = c.self.inside.moment }; kept = c.self.inside.sessions; jobs = c.self.inside.jobs } in
    let new : CoreContents = c.step-reply.new.core in
    let jobs : List JobSlot = c.step-reply.new.self in
    let trip : to_z w64 (of_z w64 c.self.inside.moment) ≡ c.self.inside.moment = search rules in
    let is : asked_at c.self.inside.user (to_z w64 (of_z w64 c.self.inside.moment)) c.args.act.now ≡ event_by v.asker c.args.act.now = λ i. asked_at c.self.inside.user (trip i) c.args.act.now in
    let steps : StepsIn v.core v.jobs (event_by v.asker c.args.act.now) c.step-reply.result new jobs = subst (λ (e : Event). StepsIn v.core v.jobs e c.step-reply.result new jobs) is c.step-reply.ensures.steps in
    let text : List ℕ = begun_text c.begun-number.result c.step-reply.result in
    let answered : ScriptAnswersLine v (Ok (line.Act c.args.act.now)) text (with_core v new jobs) =
    subst (λ (n : ℕ). ScriptAnswersLine v (Ok (line.Act c.args.act.now)) (begun_text n c.step-reply.result) (with_core v new jobs)) (sym c.begun-number.ensures) (act_answered v new jobs c.args.act.now c.step-reply.result c.requires steps) in
    subst (λ (s : ScriptState). PrintsAnswer g.W.Output s (Ok (line.Act c.args.act.now)) (with_core v new jobs) c.args.output.now c.put_begun.new.output c.put_begun.result) c.self.view_is (text, answered, c.put_begun.ensures)
