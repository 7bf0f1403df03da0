use Rattle.std.proofs.Common.{rules, [], ◌∷◌, ◌++◌}
use Rattle.tab_io.specs.Writing.{HasPutPart}
use Rattle.tab_io.proofs.Putting.{puts_more, part_longer}
use Rattle.tab_wire.specs.Replies.{field}
use Rattle.tab_wire.specs.Sending.{mutation_bytes}
use Rattle.tab_wire.proofs.sending.put_write.Goals as goal

pub returns : goal.returns
returns g c = puts_more g.W.Output c.args.output.now c.put_byte.new.output c.put_written.new.output (10 ∷ []) (field c.args.table.now ++ mutation_bytes c.args.mutation.now) c.put_written.result c.in_ok-put_byte.ensures c.put_written.ensures

pub returns-in_err-put_byte : goal.returns-in_err-put_byte
returns-in_err-put_byte g c =
    let part : HasPutPart g.W.Output c.args.output.now c.put_byte.new.output ((10 ∷ []) ++ (field c.args.table.now ++ mutation_bytes c.args.mutation.now)) = part_longer {t = 10 ∷ []} (field c.args.table.now ++ mutation_bytes c.args.mutation.now) c.in_err-put_byte.ensures in
    search (rules, part)
