use Rattle.std.proofs.Common.{rules}
use Rattle.tab_wire.proofs.CellLengths.{frame_put, frame_begun}
use Rattle.tab_wire.proofs.cell_frame.put_parts.Goals as goal

pub returns-in_err-put_head : goal.returns-in_err-put_head
returns-in_err-put_head g c = let p = frame_begun c.args.cell.now c.length_of.result c.length_of.ensures c.in_err-put_head.ensures in search rules

pub returns : goal.returns
returns g c = frame_put g.W.Output c.args.output.now c.put_head.new.output c.put_fields.new.output c.args.cell.now c.length_of.result c.put_fields.result c.length_of.ensures c.in_ok-put_head.ensures c.put_fields.ensures
