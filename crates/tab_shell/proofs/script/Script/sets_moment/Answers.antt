use Rattle.std.proofs.Common.{◌≡◌, ℕ, ℤ, List, Ok, subst, sym, rules, to_z, of_z, w64}
use Rattle.tab_io.specs.Writing.{HasPut}
use Rattle.tab_lines.specs.declared.line.Line.TheVariants as line
use Rattle.tab_shell.specs.Scripts.{ScriptState, ScriptAnswersLine}
use Rattle.tab_shell.proofs.Saying.{at_moment, moment_prints}
use Rattle.tab_shell.proofs.script.Script.sets_moment.Goals as goal

pub returns : goal.returns
returns g c =
    let v : ScriptState = record { core = c.self.inside.core; asker = record { user = c.self.inside.user; moment = c.self.inside.moment }; kept = c.self.inside.sessions; jobs = c.self.inside.jobs } in
    let o = c.args.output.now in
    let trip : to_z w64 (of_z w64 c.args.moment) ≡ c.args.moment = search rules in
    subst (λ (s : ScriptState). (text : List ℕ) × ScriptAnswersLine s (Ok (line.At c.args.moment)) text (at_moment v (to_z w64 (of_z w64 c.args.moment))) × HasPut g.W.Output o o text) c.self.view_is
    (subst (λ (m : ℤ). (text : List ℕ) × ScriptAnswersLine v (Ok (line.At c.args.moment)) text (at_moment v m) × HasPut g.W.Output o o text) (sym trip) (moment_prints g.W.Output v c.args.moment o))
