use Rattle.std.proofs.Common.{◌++◌, rules}
use Rattle.std.specs.Prelude.{codes}
use Rattle.tab_io.specs.Writing.{HasPutPart}
use Rattle.tab_io.proofs.Putting.{puts_more, part_longer}
use Rattle.tab_core.specs.EventReplies.{told_in}
use Rattle.tab_audit.specs.Entries.{told_text}
use Rattle.tab_audit.proofs.entry.put_comment.Goals as goal

pub returns : goal.returns
returns g c = puts_more g.W.Output c.args.output.now c.put.new.self c.put_told.new.output (codes "# ") (told_text (told_in c.args.told.now)) c.put_told.result (record { bytes = c.in_ok-put.ensures.bytes; faults = c.in_ok-put.ensures.faults }) c.put_told.ensures

pub returns-in_err-put : goal.returns-in_err-put
returns-in_err-put g c =
    let part : HasPutPart g.W.Output c.args.output.now c.put.new.self (codes "# " ++ told_text (told_in c.args.told.now)) = part_longer {t = codes "# "} (told_text (told_in c.args.told.now)) (record { bytes = c.in_err-put.ensures.bytes; failed = c.in_err-put.ensures.faults }) in
    search (rules, part)
