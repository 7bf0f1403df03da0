use Rattle.std.proofs.Common.{ℕ, List, Ok, subst}
use Rattle.tab_io.specs.Writing.{HasPut}
use Rattle.tab_lines.specs.declared.line.Line.TheVariants as line
use Rattle.tab_shell.specs.Scripts.{ScriptState, ScriptAnswersLine}
use Rattle.tab_shell.proofs.Saying.{with_user, user_prints}
use Rattle.tab_shell.proofs.script.Script.sets_user.Goals as goal

pub returns : goal.returns
returns g c =
    let v : ScriptState = record { core = c.self.inside.core; asker = record { user = c.self.inside.user; moment = c.self.inside.moment }; kept = c.self.inside.sessions; jobs = c.self.inside.jobs } in
    let o = c.args.output.now in
    subst (λ (s : ScriptState). (text : List ℕ) × ScriptAnswersLine s (Ok (line.As c.args.user.now)) text (with_user v c.args.user.now) × HasPut g.W.Output o o text) c.self.view_is (user_prints g.W.Output v c.args.user.now o)
