use Rattle.std.proofs.Common.{rules, length}
use Rattle.tab_io.specs.Writing.{HasPutPart}
use Rattle.tab_io.proofs.Putting.{puts, puts_more, part_longer}
use Rattle.tab_codec.specs.Spelling.{u32, field}
use Rattle.tab_codec.proofs.numbers.put_field.Goals as goal

pub returns : goal.returns
returns g c = puts_more g.W.Output c.args.output.now c.put_length.new.output c.put.new.self (u32 (length c.args.text.now)) (c.args.text.now) c.put.result c.in_ok-put_length.ensures (puts g.W.Output c.put_length.new.output c.put.new.self (c.args.text.now) c.put.result c.put.ensures.bytes c.put.ensures.faults)

pub returns-in_err-put_length : goal.returns-in_err-put_length
returns-in_err-put_length g c =
    let part : HasPutPart g.W.Output c.args.output.now c.put_length.new.output (field c.args.text.now) = part_longer {t = u32 (length c.args.text.now)} (c.args.text.now) c.in_err-put_length.ensures in
    search (rules, part)
