use Rattle.std.proofs.Common.{ℕ, List, Ok, subst}
use Rattle.tab_lines.specs.declared.line.Line.TheVariants as line
use Rattle.tab_replies.specs.Texts.{reply_text}
use Rattle.tab_core.specs.Sessions.{Keeping}
use Rattle.tab_shell.proofs.Scanning.{with_kept}
use Rattle.tab_shell.proofs.OwnSteps.{close_answered}
use Rattle.tab_shell.specs.Scripts.{ScriptState, ScriptAnswersLine}
use Rattle.tab_shell.specs.Progress.{PrintsAnswer}
use Rattle.tab_shell.proofs.script.Script.close.Goals as goal

pub returns : goal.returns
returns g c =
    let v : ScriptState = record { core = c.self.inside.core; asker = record { user = c.self.inside.user; moment = c.self.inside.moment }; kept = c.self.inside.sessions; jobs = c.self.inside.jobs } in
    let kept : Keeping = c.close-reply.new.self in
    let text : List ℕ = reply_text c.close-reply.result in
    let answered : ScriptAnswersLine v (Ok (line.Close c.args.number)) text (with_kept v kept) = close_answered v kept c.args.number c.close-reply.result c.close-reply.ensures in
    subst (λ (s : ScriptState). PrintsAnswer g.W.Output s (Ok (line.Close c.args.number)) (with_kept v kept) c.args.output.now c.write_reply.new.output c.write_reply.result) c.self.view_is (text, answered, c.write_reply.ensures)
