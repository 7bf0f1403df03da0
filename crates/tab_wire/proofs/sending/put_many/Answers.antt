use Rattle.std.proofs.Common.{rules, [], ◌∷◌, ◌++◌}
use Rattle.tab_io.specs.Writing.{HasPutPart}
use Rattle.tab_io.proofs.Putting.{puts_more, part_longer}
use Rattle.tab_wire.specs.Replies.{u32}
use Rattle.tab_wire.specs.Sending.{bounds_bytes, counted}
use Rattle.tab_wire.proofs.sending.put_many.Goals as goal

pub returns : goal.returns
returns g c = puts_more g.W.Output c.args.output.now c.put_byte.new.output c.put_slot_and_ranges.new.output (13 ∷ []) (u32 c.args.slot ++ counted bounds_bytes c.args.ranges.now) c.put_slot_and_ranges.result c.in_ok-put_byte.ensures c.put_slot_and_ranges.ensures

pub returns-in_err-put_byte : goal.returns-in_err-put_byte
returns-in_err-put_byte g c =
    let part : HasPutPart g.W.Output c.args.output.now c.put_byte.new.output ((13 ∷ []) ++ (u32 c.args.slot ++ counted bounds_bytes c.args.ranges.now)) = part_longer {t = 13 ∷ []} (u32 c.args.slot ++ counted bounds_bytes c.args.ranges.now) c.in_err-put_byte.ensures in
    search (rules, part)
