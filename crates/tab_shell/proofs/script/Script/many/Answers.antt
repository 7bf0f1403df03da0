use Rattle.std.proofs.Common.{◌≡◌, ℕ, List, Ok, sym, subst, rules}
use Rattle.tab_lines.specs.declared.line.Line.TheVariants as line
use Rattle.tab_replies.specs.Texts.{reply_text}
use Rattle.tab_key.specs.declared.range.Bounds.{Bounds}
use Rattle.tab_core.specs.Sessions.{Keeping, ManyIn}
use Rattle.tab_shell.proofs.Scanning.{with_kept}
use Rattle.tab_shell.proofs.OwnSteps.{many_answered}
use Rattle.tab_shell.specs.Scripts.{ScriptState, ScriptAnswersLine}
use Rattle.tab_shell.specs.Progress.{PrintsAnswer}
use Rattle.tab_shell.proofs.script.Script.many.Goals as goal

pub returns : goal.returns
returns g c =
    let v : ScriptState = record { core = c.self.inside.core; asker = record { user = c.self.inside.user; moment = c.self.inside.moment }; kept = c.self.inside.sessions; jobs = c.self.inside.jobs } in
    let kept : Keeping = c.many-reply.new.self in
    let text : List ℕ = reply_text c.many-reply.result in
    let lent : c.as_slice.result.now ≡ c.args.ranges.now = search rules in
    let many : ManyIn v.kept v.asker.user c.args.number c.args.ranges.now c.many-reply.result = subst (λ (rs : List Bounds). ManyIn v.kept v.asker.user c.args.number rs c.many-reply.result) lent c.many-reply.ensures.answers in
    let same : ScriptAnswersLine v (Ok (line.Many c.args.number c.args.ranges.now)) text v = many_answered v c.args.number c.args.ranges.now c.many-reply.result many in
    let answered : ScriptAnswersLine v (Ok (line.Many c.args.number c.args.ranges.now)) text (with_kept v kept) = subst (λ (k : Keeping). ScriptAnswersLine v (Ok (line.Many c.args.number c.args.ranges.now)) text (with_kept v k)) (sym c.many-reply.ensures.same) same in
    subst (λ (s : ScriptState). PrintsAnswer g.W.Output s (Ok (line.Many c.args.number c.args.ranges.now)) (with_kept v kept) c.args.output.now c.write_reply.new.output c.write_reply.result) c.self.view_is (text, answered, c.write_reply.ensures)
