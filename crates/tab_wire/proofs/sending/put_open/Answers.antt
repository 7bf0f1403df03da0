use Rattle.std.proofs.Common.{rules, [], ◌∷◌, ◌++◌}
use Rattle.tab_io.specs.Writing.{HasPutPart}
use Rattle.tab_io.proofs.Putting.{puts_more, part_longer}
use Rattle.tab_wire.specs.Sending.{scan_bytes}
use Rattle.tab_wire.proofs.sending.put_open.Goals as goal

pub returns : goal.returns
returns g c = puts_more g.W.Output c.args.output.now c.put_byte.new.output c.put_scan.new.output (11 ∷ []) (scan_bytes c.args.scan.now) c.put_scan.result c.in_ok-put_byte.ensures c.put_scan.ensures

pub returns-in_err-put_byte : goal.returns-in_err-put_byte
returns-in_err-put_byte g c =
    let part : HasPutPart g.W.Output c.args.output.now c.put_byte.new.output ((11 ∷ []) ++ (scan_bytes c.args.scan.now)) = part_longer {t = 11 ∷ []} (scan_bytes c.args.scan.now) c.in_err-put_byte.ensures in
    search (rules, part)
