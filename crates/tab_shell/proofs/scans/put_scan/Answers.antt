use Rattle.std.proofs.Common.{inl, inr, refl, subst}
use Rattle.tab_core.specs.OpenSession.{OpenSession}
use Rattle.tab_core.specs.Parts.{TabletMerge}
use Rattle.tab_history.specs.Answers.{told_of}
use Rattle.tab_history.specs.declared.reply.Reply.{Reply}
use Rattle.tab_io.specs.Writing.{Puts}
use Rattle.tab_replies.specs.Texts.{reply_text}
use Rattle.tab_shell.proofs.scans.put_scan.Goals as goal

pub returns-in-Opened : goal.returns-in-Opened
returns-in-Opened g c = inl (c.in-Opened.session, c.in-Opened.is, c.count_scan.ensures, c.put_session.ensures)

pub returns-in_default : goal.returns-in_default
returns-in_default g c =
    let puts = subst (λ (r : Reply OpenSession TabletMerge). Puts g.W.Output c.args.output.now c.write_told.new.output (reply_text (told_of r)) c.write_told.result) c.replace.ensures.value c.write_told.ensures in
    inr (c.in_default.not-Opened, refl, puts)
