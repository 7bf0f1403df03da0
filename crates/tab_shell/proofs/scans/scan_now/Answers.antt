use Rattle.std.proofs.Common.{◌≡◌, ◌∙◌, inl, inr, refl, ℕ, List, Result, Ok, None, true, false, sym, ap, subst, rules, to_z, of_z, w64}
use Rattle.tab_key.specs.declared.limited_part.LimitedPart.TheVariants.{Sessions}
use Rattle.tab_core.specs.OpenSession.{OpenSession}
use Rattle.tab_history.specs.Answers.{told_of}
use Rattle.tab_history.specs.declared.event.Act.TheVariants.{Open}
use Rattle.tab_history.specs.declared.event.Event.{Event}
use Rattle.tab_history.specs.declared.event.Scan.{Scan}
use Rattle.tab_history.specs.declared.reply.Refusal.TheVariants.{TooLarge}
use Rattle.tab_history.specs.declared.reply.Reply.{Reply}
use Rattle.tab_history.specs.declared.reply.Reply.TheVariants.{Opened}
use Rattle.tab_core.specs.Parts.{TabletMerge}
use Rattle.tab_core.specs.Stores.{CoreContents, base_of}
use Rattle.tab_core.specs.Stepping.{Steps, StepsWith, asked_at}
use Rattle.tab_core.specs.declared.sessions.UserSessions.{UserSessions}
use Rattle.tab_core.specs.Sessions.{Keeping, is_spent, KeepsFor}
use Rattle.tab_lines.specs.declared.line.Line.TheVariants as line
use Rattle.tab_replies.specs.Texts.{refusal_text, reply_text}
use Rattle.tab_io.specs.declared.writing.Output.{Ghosts}
use Rattle.tab_shell.specs.Batches.{PutsScan}
use Rattle.tab_shell.specs.Progress.{PrintsAnswer}
use Rattle.tab_shell.specs.Scripts.{ScriptState, ScriptAnswersLine, event_by}
use Rattle.tab_shell.proofs.JobSteps.{OpensExactly, opens_exactly}
use Rattle.tab_shell.proofs.Scanning.{own_kept, with_kept, with_sessions, spent_answered, scan_answered, kept_answered, recounted, kept_same}
use Rattle.tab_shell.proofs.scans.scan_now.Goals as goal

pub returns-then-is_spent : goal.returns-then-is_spent
returns-then-is_spent g c keeping keeping' jobs own keeps =
    let v : ScriptState = record { core = c.args.core.now; asker = record { user = c.args.user.now; moment = c.args.moment }; kept = keeping; jobs = jobs } in
    let text : List ℕ = refusal_text (TooLarge Sessions) in
    let yes : c.is_spent.result ≡ true = search rules in
    let spent : is_spent (own_kept v) ≡ true = ap is_spent own ∙ sym c.is_spent.ensures ∙ yes in
    let answered : ScriptAnswersLine v (Ok (line.Scan c.args.scan.now)) text (with_kept v keeping') =
    recounted v v keeping' (Ok (line.Scan c.args.scan.now)) text (kept_same v.asker.user c.args.kept.now keeping keeping' keeps own) (spent_answered v c.args.scan.now spent) in
    (text, answered, c.write_refused.ensures)

-- The session that was opened is read and counted, or the reply is told.
scanned : {W E : Type 0} (g : Ghosts W) (o o' : W) (r : Result (Unit {0}) E) (s : ScriptState) (new : CoreContents) (keeping' : Keeping) (scan : Scan) (reply : Reply OpenSession TabletMerge) (kept' : UserSessions)
    → is_spent (own_kept s) ≡ false → Steps (base_of s.core) (event_by s.asker (Open scan)) reply (base_of new) → OpensExactly s new scan (told_of reply) → KeepsFor s.asker.user kept' s.kept keeping'
    → PutsScan g o o' (own_kept s) kept' reply r → PrintsAnswer g s (Ok (line.Scan scan)) (with_sessions s new keeping') o o' r
scanned g o o' r s new keeping' scan reply kept' room steps exact keeps (inl read) =
    let session : OpenSession = read.0 in
    let opening : Steps (base_of s.core) (event_by s.asker (Open scan)) (Opened session) (base_of new) = subst (λ (t : Reply OpenSession TabletMerge). Steps (base_of s.core) (event_by s.asker (Open scan)) t (base_of new)) read.1 steps in
    let goes : OpensExactly s new scan (Opened tt) = subst (λ (t : Reply OpenSession TabletMerge). OpensExactly s new scan (told_of t)) read.1 exact in
    let puts = read.3 in
    let answered : ScriptAnswersLine s (Ok (line.Scan scan)) puts.0 (with_sessions s new keeping') =
    scan_answered s new keeping' scan session puts.0 room opening goes (subst (λ (k : UserSessions). KeepsFor s.asker.user k s.kept keeping') read.2 keeps) puts.1 in
    (puts.0, answered, puts.2)
scanned g o o' r s new keeping' scan reply kept' room steps exact keeps (inr told) =
    let text : List ℕ = reply_text (told_of reply) in
    let stays : KeepsFor s.asker.user (own_kept s) s.kept keeping' = subst (λ (k : UserSessions). KeepsFor s.asker.user k s.kept keeping') told.1 keeps in
    let answered : ScriptAnswersLine s (Ok (line.Scan scan)) text (with_sessions s new keeping') =
    recounted s (with_sessions s new s.kept) keeping' (Ok (line.Scan scan)) text (kept_same s.asker.user (own_kept s) s.kept keeping' stays refl) (kept_answered s new scan reply room steps exact told.0) in
    (text, answered, told.2)

pub returns : goal.returns
returns g c keeping keeping' jobs own keeps =
    let v : ScriptState = record { core = c.args.core.now; asker = record { user = c.args.user.now; moment = c.args.moment }; kept = keeping; jobs = jobs } in
    let scan : Scan = c.args.scan.now in
    let new : CoreContents = c.open_lent-reply.new.self in
    let no : c.is_spent.result ≡ false = search rules in
    let room : is_spent (own_kept v) ≡ false = ap is_spent own ∙ sym c.is_spent.ensures ∙ no in
    let trip : to_z w64 (of_z w64 c.args.moment) ≡ c.args.moment = search rules in
    let asked : asked_at v.asker.user (to_z w64 (of_z w64 c.args.moment)) (Open scan) ≡ event_by v.asker (Open scan) = λ i. asked_at v.asker.user (trip i) (Open scan) in
    let steps : Steps (base_of v.core) (event_by v.asker (Open scan)) c.open_lent-reply.result (base_of new) = subst (λ (e : Event). Steps (base_of v.core) e c.open_lent-reply.result (base_of new)) asked c.open_lent-reply.ensures.steps in
    let exact : StepsWith v.core None (event_by v.asker (Open scan)) c.open_lent-reply.result new = subst (λ (e : Event). StepsWith v.core None e c.open_lent-reply.result new) asked c.open_lent-reply.ensures.exact in
    let puts : PutsScan g.W.Output c.args.output.now c.put_scan.new.output (own_kept v) c.put_scan.new.kept c.open_lent-reply.result c.put_scan.result =
    subst (λ (k : UserSessions). PutsScan g.W.Output c.args.output.now c.put_scan.new.output k c.put_scan.new.kept c.open_lent-reply.result c.put_scan.result) (sym own) c.put_scan.ensures in
    scanned g.W.Output c.args.output.now c.put_scan.new.output c.put_scan.result v new keeping' scan c.open_lent-reply.result c.put_scan.new.kept room steps (opens_exactly v new scan c.open_lent-reply.result exact) keeps puts
