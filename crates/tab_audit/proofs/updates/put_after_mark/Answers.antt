use Rattle.std.proofs.Common.{◌++◌, rules}
use Rattle.std.specs.Prelude.{codes}
use Rattle.tab_io.specs.Writing.{HasPutPart}
use Rattle.tab_io.proofs.Putting.{puts_more, part_longer}
use Rattle.tab_text.specs.Lines.{after_spaces}
use Rattle.tab_audit.specs.Words.{update_words}
use Rattle.tab_audit.proofs.updates.put_after_mark.Goals as goal

pub returns : goal.returns
returns g c = puts_more g.W.Output c.args.output.now c.put.new.self c.put_update.new.output (codes " ;") (after_spaces (update_words c.args.update.now)) c.put_update.result (record { bytes = c.in_ok-put.ensures.bytes; faults = c.in_ok-put.ensures.faults }) c.put_update.ensures

pub returns-in_err-put : goal.returns-in_err-put
returns-in_err-put g c =
    let part : HasPutPart g.W.Output c.args.output.now c.put.new.self (codes " ;" ++ after_spaces (update_words c.args.update.now)) = part_longer {t = codes " ;"} (after_spaces (update_words c.args.update.now)) (record { bytes = c.in_err-put.ensures.bytes; failed = c.in_err-put.ensures.faults }) in
    search (rules, part)
