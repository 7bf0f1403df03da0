use Rattle.std.proofs.Common.{rules, length}
use Rattle.std.specs.List.{flat_map}
use Rattle.tab_io.specs.Writing.{HasPut, HasPutPart}
use Rattle.tab_io.proofs.Putting.{puts_more, part_longer}
use Rattle.tab_image.specs.Spelling.{u32, field, counted}
use Rattle.tab_image.proofs.writing.put_set.Goals as goal

pub returns : goal.returns
returns g c =
    let first : HasPut g.W.Output c.args.output.now c.put_count.new.output (u32 (length c.args.set.now)) = search rules in
    puts_more g.W.Output c.args.output.now c.put_count.new.output c.put_members.new.output (u32 (length c.args.set.now)) (flat_map field c.args.set.now) c.put_members.result first c.put_members.ensures

pub returns-in_err-put_count : goal.returns-in_err-put_count
returns-in_err-put_count g c =
    let first : HasPutPart g.W.Output c.args.output.now c.put_count.new.output (u32 (length c.args.set.now)) = search rules in
    let part : HasPutPart g.W.Output c.args.output.now c.put_count.new.output (counted field c.args.set.now) = part_longer {t = u32 (length c.args.set.now)} (flat_map field c.args.set.now) first in
    search (rules, part)
