use Rattle.std.proofs.Common.{◌∷◌, rules}
use Rattle.tab_io.specs.Writing.{HasPutPart}
use Rattle.tab_io.proofs.Putting.{part_after_byte}
use Rattle.tab_audit.proofs.list.put_after_comma.Goals as goal

pub returns-in_err-put_byte : goal.returns-in_err-put_byte
returns-in_err-put_byte g c =
    let part : HasPutPart g.W.Output c.args.output.now c.put_byte.new.output (44 ∷ g.P.PutItem.text c.args.how.now c.args.member.now) = part_after_byte (g.P.PutItem.text c.args.how.now c.args.member.now) c.in_err-put_byte.ensures in
    search (rules, part)
