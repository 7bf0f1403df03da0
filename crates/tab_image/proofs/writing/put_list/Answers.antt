use Rattle.std.proofs.Common.{rules, length}
use Rattle.std.specs.List.{flat_map}
use Rattle.tab_io.specs.Writing.{HasPutPart}
use Rattle.tab_io.proofs.Putting.{puts_more, part_longer}
use Rattle.tab_image.specs.Spelling.{u32, counted}
use Rattle.tab_image.proofs.writing.put_list.Goals as goal

pub returns : goal.returns
returns g c = puts_more g.W.Output c.args.output.now c.put_count.new.output c.put_each.new.output (u32 (length c.args.items.now)) (flat_map (g.P.PutItem.text c.args.how.now) c.args.items.now) c.put_each.result c.in_ok-put_count.ensures c.put_each.ensures

pub returns-in_err-put_count : goal.returns-in_err-put_count
returns-in_err-put_count g c =
    let part : HasPutPart g.W.Output c.args.output.now c.put_count.new.output (counted (g.P.PutItem.text c.args.how.now) c.args.items.now) = part_longer {t = u32 (length c.args.items.now)} (flat_map (g.P.PutItem.text c.args.how.now) c.args.items.now) c.in_err-put_count.ensures in
    search (rules, part)
