use Rattle.std.proofs.Common.{ℕ, List, Ok, subst}
use Rattle.tab_core.specs.declared.job_slots.JobSlot.{JobSlot}
use Rattle.tab_lines.specs.declared.line.Line.TheVariants as line
use Rattle.tab_replies.specs.Texts.{reply_text}
use Rattle.tab_shell.specs.Scripts.{ScriptState, ScriptAnswersLine}
use Rattle.tab_shell.specs.Progress.{PrintsAnswer}
use Rattle.tab_shell.proofs.Saying.{with_jobs, merge_answered}
use Rattle.tab_shell.proofs.script.Script.merge.Goals as goal

pub returns : goal.returns
returns g c =
    let v : ScriptState = record { core = c.self.inside.core; asker = record { user = c.self.inside.user; moment = c.self.inside.moment }; kept = c.self.inside.sessions; jobs = c.self.inside.jobs } in
    let jobs : List JobSlot = c.merge-reply.new.self in
    let text : List ℕ = reply_text c.merge-reply.result in
    let answered : ScriptAnswersLine v (Ok (line.Merge c.args.job)) text (with_jobs v jobs) = merge_answered v jobs c.args.job c.merge-reply.result c.merge-reply.ensures in
    subst (λ (s : ScriptState). PrintsAnswer g.W.Output s (Ok (line.Merge c.args.job)) (with_jobs v jobs) c.args.output.now c.write_reply.new.output c.write_reply.result) c.self.view_is (text, answered, c.write_reply.ensures)
