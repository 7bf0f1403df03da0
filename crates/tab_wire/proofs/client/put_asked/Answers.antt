use Rattle.std.proofs.Common.{rules, ◌++◌}
use Rattle.tab_io.specs.Writing.{HasPutPart}
use Rattle.tab_io.proofs.Putting.{puts_more, part_longer}
use Rattle.tab_wire.specs.Replies.{frame}
use Rattle.tab_wire.specs.Sending.{hello_before}
use Rattle.tab_wire.proofs.client.put_asked.Goals as goal

pub returns : goal.returns
returns g c = puts_more g.W.Output c.args.writer.now c.put_hello_before.new.writer c.put_field.new.output (hello_before c.args.greeted c.args.user.now) (frame c.args.bytes.now) c.put_field.result c.in_ok-put_hello_before.ensures c.put_field.ensures

pub returns-in_err-put_hello_before : goal.returns-in_err-put_hello_before
returns-in_err-put_hello_before g c =
    let part : HasPutPart g.W.Output c.args.writer.now c.put_hello_before.new.writer ((hello_before c.args.greeted c.args.user.now) ++ (frame c.args.bytes.now)) = part_longer {t = hello_before c.args.greeted c.args.user.now} (frame c.args.bytes.now) c.in_err-put_hello_before.ensures in
    search (rules, part)
