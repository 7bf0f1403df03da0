use Rattle.std.proofs.Common.{rules, ℕ, ◌++◌, length, subst}
use Rattle.std.specs.Prelude.{◌==◌}
use Rattle.std.specs.List.{flat_map}
use Rattle.tab_io.specs.Writing.{HasPutPart, Puts}
use Rattle.tab_io.proofs.Putting.{puts_more, part_longer}
use Rattle.tab_wire.specs.Replies.{cell_frame, end_frame}
use Rattle.tab_wire.proofs.reply.put_batch.Goals as goal

pub returns : goal.returns
returns g c = puts_more g.W.Output c.args.output.now c.put_cells.new.output c.put_end.new.output (flat_map cell_frame c.args.cells.now) (end_frame (length c.args.cells.now == c.args.count)) c.put_end.result c.in_ok-put_cells.ensures (subst (λ (n : ℕ). Puts g.W.Output c.put_cells.new.output c.put_end.new.output (end_frame (n == c.args.count)) c.put_end.result) c.len.ensures c.put_end.ensures)

pub returns-in_err-put_cells : goal.returns-in_err-put_cells
returns-in_err-put_cells g c =
    let part : HasPutPart g.W.Output c.args.output.now c.put_cells.new.output ((flat_map cell_frame c.args.cells.now) ++ (end_frame (length c.args.cells.now == c.args.count))) = part_longer {t = flat_map cell_frame c.args.cells.now} (end_frame (length c.args.cells.now == c.args.count)) c.in_err-put_cells.ensures in
    search (rules, part)
