use Rattle.std.proofs.Common.{rules, [], ◌∷◌, ◌++◌}
use Rattle.std.specs.List.{flat_map}
use Rattle.tab_io.specs.Writing.{HasPutPart}
use Rattle.tab_io.proofs.Putting.{puts_more, part_longer}
use Rattle.tab_wire.specs.Replies.{frame, cell_frame}
use Rattle.tab_wire.proofs.reply.put_range.Goals as goal

pub returns : goal.returns
returns g c = puts_more g.W.Output c.args.output.now c.put_cells.new.output c.put_frame.new.output (flat_map cell_frame c.args.cells.now) (frame (134 ∷ [])) c.put_frame.result c.in_ok-put_cells.ensures c.put_frame.ensures

pub returns-in_err-put_cells : goal.returns-in_err-put_cells
returns-in_err-put_cells g c =
    let part : HasPutPart g.W.Output c.args.output.now c.put_cells.new.output ((flat_map cell_frame c.args.cells.now) ++ (frame (134 ∷ []))) = part_longer {t = flat_map cell_frame c.args.cells.now} (frame (134 ∷ [])) c.in_err-put_cells.ensures in
    search (rules, part)
