use Rattle.std.proofs.Common.{rules, [], ◌∷◌, ◌++◌}
use Rattle.tab_io.specs.Writing.{HasPutPart}
use Rattle.tab_io.proofs.Putting.{puts_more, part_longer}
use Rattle.tab_wire.specs.Replies.{u32}
use Rattle.tab_wire.proofs.value.put_code_and_update.Goals as goal

pub returns : goal.returns
returns g c = puts_more g.W.Output c.args.output.now c.put_byte.new.output c.put_number.new.output (c.args.code ∷ []) (u32 c.args.update) c.put_number.result c.in_ok-put_byte.ensures c.put_number.ensures

pub returns-in_err-put_byte : goal.returns-in_err-put_byte
returns-in_err-put_byte g c =
    let part : HasPutPart g.W.Output c.args.output.now c.put_byte.new.output ((c.args.code ∷ []) ++ (u32 c.args.update)) = part_longer {t = c.args.code ∷ []} (u32 c.args.update) c.in_err-put_byte.ensures in
    search (rules, part)
