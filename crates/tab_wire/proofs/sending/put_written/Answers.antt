use Rattle.std.proofs.Common.{rules, ◌++◌}
use Rattle.tab_io.specs.Writing.{HasPutPart}
use Rattle.tab_io.proofs.Putting.{puts_more, part_longer}
use Rattle.tab_wire.specs.Replies.{field}
use Rattle.tab_wire.specs.Sending.{mutation_bytes}
use Rattle.tab_wire.proofs.sending.put_written.Goals as goal

pub returns : goal.returns
returns g c = puts_more g.W.Output c.args.output.now c.put_field.new.output c.put_mutation.new.output (field c.args.table.now) (mutation_bytes c.args.mutation.now) c.put_mutation.result c.in_ok-put_field.ensures c.put_mutation.ensures

pub returns-in_err-put_field : goal.returns-in_err-put_field
returns-in_err-put_field g c =
    let part : HasPutPart g.W.Output c.args.output.now c.put_field.new.output ((field c.args.table.now) ++ (mutation_bytes c.args.mutation.now)) = part_longer {t = field c.args.table.now} (mutation_bytes c.args.mutation.now) c.in_err-put_field.ensures in
    search (rules, part)
