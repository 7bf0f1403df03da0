use Rattle.std.proofs.Common.{◌++◌, rules}
use Rattle.std.specs.Prelude.{codes}
use Rattle.std.specs.Fmt.{decimal}
use Rattle.tab_io.specs.Writing.{HasPutPart}
use Rattle.tab_io.proofs.Putting.{puts_more, part_longer}
use Rattle.tab_audit.proofs.piece.put_versions.Goals as goal

pub returns : goal.returns
returns g c = puts_more g.W.Output c.args.output.now c.put.new.self c.put_decimal.new.output (codes "versions=") (decimal c.args.many) c.put_decimal.result (record { bytes = c.in_ok-put.ensures.bytes; faults = c.in_ok-put.ensures.faults }) c.put_decimal.ensures

pub returns-in_err-put : goal.returns-in_err-put
returns-in_err-put g c =
    let part : HasPutPart g.W.Output c.args.output.now c.put.new.self (codes "versions=" ++ decimal c.args.many) = part_longer {t = codes "versions="} (decimal c.args.many) (record { bytes = c.in_err-put.ensures.bytes; failed = c.in_err-put.ensures.faults }) in
    search (rules, part)
