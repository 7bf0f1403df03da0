use Rattle.std.proofs.Common.{◌≡◌, ◌∙◌, ℕ, ℤ, List, Option, Ok, true, false, length, sym, ap, subst, rules, to_z, of_z, w64}
use Rattle.tab_key.specs.declared.limited_part.LimitedPart.TheVariants.{Sessions}
use Rattle.tab_cells.specs.SessionState.{SessionState}
use Rattle.tab_history.specs.declared.event.Act.TheVariants.{Open}
use Rattle.tab_history.specs.declared.event.Event.{Event}
use Rattle.tab_history.specs.declared.reply.Refusal.TheVariants.{TooLarge}
use Rattle.tab_core.specs.Stores.{CoreContents}
use Rattle.tab_core.specs.Stepping.{asked_at}
use Rattle.tab_core.specs.Owners.{OpensIn}
use Rattle.tab_core.specs.declared.sessions.UserSessions.{UserSessions}
use Rattle.tab_core.specs.Sessions.{is_spent, KeepsFor}
use Rattle.tab_lines.specs.declared.line.Line.TheVariants as line
use Rattle.tab_replies.specs.Texts.{refusal_text, opened_text}
use Rattle.tab_shell.specs.Scripts.{ScriptState, ScriptAnswersLine, event_by}
use Rattle.tab_shell.proofs.Scanning.{own_kept, with_kept, with_sessions, spent_opens, recounted, kept_same}
use Rattle.tab_shell.proofs.Opening.{with_slots, open_answered}
use Rattle.tab_shell.proofs.scans.open_numbered.Goals as goal

pub returns-then-is_spent : goal.returns-then-is_spent
returns-then-is_spent g c keeping keeping' jobs own keeps =
    let v : ScriptState = record { core = c.args.core.now; asker = record { user = c.args.user.now; moment = c.args.moment }; kept = keeping; jobs = jobs } in
    let text : List ℕ = refusal_text (TooLarge Sessions) in
    let yes : c.is_spent.result ≡ true = search rules in
    let spent : is_spent (own_kept v) ≡ true = ap is_spent own ∙ sym c.is_spent.ensures ∙ yes in
    let answered : ScriptAnswersLine v (Ok (line.Open c.args.scan.now)) text (with_kept v keeping') =
    recounted v v keeping' (Ok (line.Open c.args.scan.now)) text (kept_same v.asker.user c.args.kept.now keeping keeping' keeps own) (spent_opens v c.args.scan.now spent) in
    (text, answered, c.write_refused.ensures)

pub returns : goal.returns
returns g c keeping keeping' jobs own keeps =
    let v : ScriptState = record { core = c.args.core.now; asker = record { user = c.args.user.now; moment = c.args.moment }; kept = keeping; jobs = jobs } in
    let event : Event = event_by v.asker (Open c.args.scan.now) in
    let new : CoreContents = c.open-reply.new.core in
    let slots : List (Option SessionState) = c.open-reply.new.self in
    let no : c.is_spent.result ≡ false = search rules in
    let room : is_spent (own_kept v) ≡ false = ap is_spent own ∙ sym c.is_spent.ensures ∙ no in
    let trip : to_z w64 (of_z w64 c.args.moment) ≡ c.args.moment = search rules in
    let opens : OpensIn v.core c.args.kept.now.numbered event c.open-reply.result new slots = subst (λ (m : ℤ). OpensIn v.core c.args.kept.now.numbered (asked_at v.asker.user m (Open c.args.scan.now)) c.open-reply.result new slots) trip c.open-reply.ensures.opens in
    let opened : OpensIn v.core (own_kept v).numbered event c.open-reply.result new slots = subst (λ (k : UserSessions). OpensIn v.core k.numbered event c.open-reply.result new slots) (sym own) opens in
    let kept : KeepsFor v.asker.user (with_slots (own_kept v) slots) keeping keeping' = subst (λ (k : UserSessions). KeepsFor v.asker.user (with_slots k slots) keeping keeping') (sym own) keeps in
    let number : ℕ = c.numbers_given-number.result in
    let given : number ≡ length (own_kept v).numbered = c.numbers_given-number.ensures ∙ sym (ap (λ (k : UserSessions). length k.numbered) own) in
    let text : List ℕ = opened_text number c.open-reply.result in
    let answered : ScriptAnswersLine v (Ok (line.Open c.args.scan.now)) text (with_sessions v new keeping') =
    subst (λ (n : ℕ). ScriptAnswersLine v (Ok (line.Open c.args.scan.now)) (opened_text n c.open-reply.result) (with_sessions v new keeping')) (sym given) (open_answered v new keeping' slots c.args.scan.now c.open-reply.result room opened kept) in
    (text, answered, c.put_opened.ensures)
