use Rattle.std.proofs.Common.{ℕ, List, Ok, subst}
use Rattle.tab_lines.specs.declared.line.Line.TheVariants as line
use Rattle.tab_replies.specs.Texts.{next_text}
use Rattle.tab_core.specs.Sessions.{Keeping}
use Rattle.tab_shell.proofs.Scanning.{with_kept}
use Rattle.tab_shell.proofs.OwnSteps.{next_answered}
use Rattle.tab_shell.specs.Scripts.{ScriptState, ScriptAnswersLine}
use Rattle.tab_shell.specs.Progress.{PrintsAnswer}
use Rattle.tab_shell.proofs.script.Script.next.Goals as goal

pub returns : goal.returns
returns g c =
    let v : ScriptState = record { core = c.self.inside.core; asker = record { user = c.self.inside.user; moment = c.self.inside.moment }; kept = c.self.inside.sessions; jobs = c.self.inside.jobs } in
    let kept : Keeping = c.next-reply.new.self in
    let text : List ℕ = next_text c.args.count c.next-reply.result in
    let answered : ScriptAnswersLine v (Ok (line.Next c.args.number c.args.count)) text (with_kept v kept) = next_answered v kept c.args.number c.args.count c.next-reply.result c.next-reply.ensures in
    subst (λ (s : ScriptState). PrintsAnswer g.W.Output s (Ok (line.Next c.args.number c.args.count)) (with_kept v kept) c.args.output.now c.put_next.new.output c.put_next.result) c.self.view_is (text, answered, c.put_next.ensures)
