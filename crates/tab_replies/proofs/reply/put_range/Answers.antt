use Rattle.std.proofs.Common.{rules}
use Rattle.std.specs.Prelude.{codes}
use Rattle.std.specs.List.{flat_map}
use Rattle.tab_text.specs.Lines.{cell_text}
use Rattle.tab_io.proofs.Putting.{puts, puts_more, part_longer}
use Rattle.tab_replies.proofs.reply.put_range.Goals as goal

pub returns : goal.returns
returns g c = puts_more g.W.Output c.args.output.now c.put_cells.new.output c.put.new.self (flat_map cell_text c.args.cells.now) (codes "range\n") c.put.result c.in_ok-put_cells.ensures (puts g.W.Output c.put_cells.new.output c.put.new.self (codes "range\n") c.put.result c.put.ensures.bytes c.put.ensures.faults)

pub returns-in_err-put_cells : goal.returns-in_err-put_cells
returns-in_err-put_cells g c =
    let part = part_longer {t = flat_map cell_text c.args.cells.now} (codes "range\n") c.in_err-put_cells.ensures in
    search (rules, part)
