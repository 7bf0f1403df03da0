use Rattle.std.proofs.Common.{◌≡◌, ℕ, ℤ, List, Ok, Option, MutBor, OnSome, subst, rules, to_z, of_z, w64}
use Rattle.tab_history.specs.declared.reply.Refusal.TheVariants.{NoMemory}
use Rattle.tab_lines.specs.declared.line.Line.TheVariants as line
use Rattle.tab_replies.specs.Texts.{refusal_text}
use Rattle.tab_core.specs.declared.sessions.UserSessions.{UserSessions}
use Rattle.tab_core.specs.Sessions.{Keeping, kept_of, KeepsFor}
use Rattle.tab_shell.specs.Scripts.{ScriptState, ScriptAnswersLine}
use Rattle.tab_shell.specs.Progress.{PrintsAnswer, PrintsFor}
use Rattle.tab_shell.proofs.Scanning.{with_kept, with_sessions, starved_answered, recounted}
use Rattle.tab_shell.proofs.script.Script.first_scan.Goals as goal

pub returns-in-Some : goal.returns-in-Some
returns-in-Some g c =
    let v : ScriptState = record { core = c.self.inside.core; asker = record { user = c.self.inside.user; moment = c.self.inside.moment }; kept = c.self.inside.sessions; jobs = c.self.inside.jobs } in
    let now : UserSessions = c.scan_now.new.kept in
    let kept : Keeping = c.kept_for.follows.lender now in
    let new : ScriptState = with_sessions v c.scan_now.new.core kept in
    let own : kept_of v.kept v.asker.user ≡ c.in-Some.kept.now = search rules in
    let keeps = subst (λ (r : Option (MutBor UserSessions)). OnSome r (KeepsFor v.asker.user now v.kept kept)) c.in-Some.is (c.kept_for.follows.holds now) in
    let trip : to_z w64 (of_z w64 c.self.inside.moment) ≡ c.self.inside.moment = search rules in
    let prints = subst (λ (m : ℤ). PrintsFor g.W.Output v.core c.in-Some.kept.now v.asker.user m (Ok (line.Scan c.args.scan.now)) c.scan_now.new.core now c.args.output.now c.scan_now.new.output c.scan_now.result) trip c.scan_now.ensures in
    subst (λ (s : ScriptState). PrintsAnswer g.W.Output s (Ok (line.Scan c.args.scan.now)) new c.args.output.now c.scan_now.new.output c.scan_now.result) c.self.view_is (prints v.kept kept v.jobs own keeps)

pub returns-in-None : goal.returns-in-None
returns-in-None g c =
    let v : ScriptState = record { core = c.self.inside.core; asker = record { user = c.self.inside.user; moment = c.self.inside.moment }; kept = c.self.inside.sessions; jobs = c.self.inside.jobs } in
    let kept : Keeping = c.kept_for.follows.lender-at-none in
    let text : List ℕ = refusal_text NoMemory in
    let answered : ScriptAnswersLine v (Ok (line.Scan c.args.scan.now)) text (with_kept v kept) = recounted v v kept (Ok (line.Scan c.args.scan.now)) text c.kept_for.follows.holds-at-none (starved_answered v c.args.scan.now) in
    subst (λ (s : ScriptState). PrintsAnswer g.W.Output s (Ok (line.Scan c.args.scan.now)) (with_kept v kept) c.args.output.now c.write_refused.new.output c.write_refused.result) c.self.view_is (text, answered, c.write_refused.ensures)
