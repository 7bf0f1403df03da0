use Rattle.std.proofs.Common.{◌≡◌, ℤ, Ok, Some, Option, MutBor, OnSome, ap, subst, rules, to_z, of_z, w64}
use Rattle.tab_lines.specs.declared.line.Line.TheVariants as line
use Rattle.tab_policy.specs.Entries.{at_name}
use Rattle.tab_core.specs.declared.sessions.UserSessions.{UserSessions}
use Rattle.tab_core.specs.Lending.{Leaves}
use Rattle.tab_core.specs.Sessions.{Keeping, kept_of, kept_in}
use Rattle.tab_shell.specs.Scripts.{ScriptState}
use Rattle.tab_shell.specs.Progress.{PrintsAnswer, PrintsFor}
use Rattle.tab_shell.proofs.Scanning.{with_sessions}
use Rattle.tab_shell.proofs.script.Script.scan.Goals as goal

pub returns-in-Some : goal.returns-in-Some
returns-in-Some g c =
    let v : ScriptState = record { core = c.self.inside.core; asker = record { user = c.self.inside.user; moment = c.self.inside.moment }; kept = c.self.inside.sessions; jobs = c.self.inside.jobs } in
    let now : UserSessions = c.scan_now.new.kept in
    let kept : Keeping = c.get_mut.follows.lender now in
    let new : ScriptState = with_sessions v c.scan_now.new.core kept in
    let had : at_name v.asker.user v.kept ≡ Some c.in-Some.kept.now = search rules in
    let own : kept_of v.kept v.asker.user ≡ c.in-Some.kept.now = ap kept_in had in
    let left = subst (λ (r : Option (MutBor UserSessions)). OnSome r (Leaves v.asker.user v.kept now kept)) c.in-Some.is (c.get_mut.follows.holds now) in
    let trip : to_z w64 (of_z w64 c.self.inside.moment) ≡ c.self.inside.moment = search rules in
    let prints = subst (λ (m : ℤ). PrintsFor g.W.Output v.core c.in-Some.kept.now v.asker.user m (Ok (line.Scan c.args.scan.now)) c.scan_now.new.core now c.args.output.now c.scan_now.new.output c.scan_now.result) trip c.scan_now.ensures in
    subst (λ (s : ScriptState). PrintsAnswer g.W.Output s (Ok (line.Scan c.args.scan.now)) new c.args.output.now c.scan_now.new.output c.scan_now.result) c.self.view_is (prints v.kept kept v.jobs own left.keeps)

pub returns-in-None : goal.returns-in-None
returns-in-None g c = search rules
