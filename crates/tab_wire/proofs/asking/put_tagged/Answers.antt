use Rattle.std.proofs.Common.{rules, [], ◌∷◌, ◌++◌}
use Rattle.tab_io.specs.Writing.{HasPutPart}
use Rattle.tab_io.proofs.Putting.{puts_more, part_longer}
use Rattle.tab_wire.specs.Replies.{field}
use Rattle.tab_wire.proofs.asking.put_tagged.Goals as goal

pub returns : goal.returns
returns g c = puts_more g.W.Output c.args.output.now c.put_byte.new.output c.put_field.new.output (c.args.tag ∷ []) (field c.args.text.now) c.put_field.result c.in_ok-put_byte.ensures c.put_field.ensures

pub returns-in_err-put_byte : goal.returns-in_err-put_byte
returns-in_err-put_byte g c =
    let part : HasPutPart g.W.Output c.args.output.now c.put_byte.new.output ((c.args.tag ∷ []) ++ (field c.args.text.now)) = part_longer {t = c.args.tag ∷ []} (field c.args.text.now) c.in_err-put_byte.ensures in
    search (rules, part)
