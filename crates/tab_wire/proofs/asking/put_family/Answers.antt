use Rattle.std.proofs.Common.{rules, [], ◌∷◌, ◌++◌}
use Rattle.tab_io.specs.Writing.{HasPutPart}
use Rattle.tab_io.proofs.Putting.{puts_more, part_longer}
use Rattle.tab_wire.specs.Replies.{field}
use Rattle.tab_wire.proofs.asking.put_family.Goals as goal

pub returns : goal.returns
returns g c = puts_more g.W.Output c.args.output.now c.put_field.new.output c.put_byte.new.output (field c.args.family.now) (0 ∷ []) c.put_byte.result c.in_ok-put_field.ensures c.put_byte.ensures

pub returns-in_err-put_field : goal.returns-in_err-put_field
returns-in_err-put_field g c =
    let part : HasPutPart g.W.Output c.args.output.now c.put_field.new.output ((field c.args.family.now) ++ (0 ∷ [])) = part_longer {t = field c.args.family.now} (0 ∷ []) c.in_err-put_field.ensures in
    search (rules, part)
