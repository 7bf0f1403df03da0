use Rattle.std.proofs.Common.{rules, ℕ, List, ◌++◌, subst}
use Rattle.tab_io.specs.Writing.{HasPut, HasPutPart}
use Rattle.tab_io.proofs.Putting.{puts_more, part_longer}
use Rattle.tab_wire.specs.Replies.{i64, field}
use Rattle.tab_wire.proofs.cell_frame.put_fields.Goals as goal

pub returns : goal.returns
returns g c = puts_more g.W.Output c.args.output.now c.put_piece.new.output c.put_behind_row.new.output (field c.args.cell.now.key.row) (field c.args.cell.now.key.family ++ (field c.args.cell.now.key.qualifier ++ (field c.args.cell.now.key.label ++ (i64 c.args.cell.now.key.timestamp ++ field c.args.cell.now.value)))) c.put_behind_row.result (subst (λ (t : List ℕ). HasPut g.W.Output c.args.output.now c.put_piece.new.output (field t)) c.row.ensures c.in_ok-put_piece.ensures) c.put_behind_row.ensures

pub returns-in_err-put_piece : goal.returns-in_err-put_piece
returns-in_err-put_piece g c =
    let part : HasPutPart g.W.Output c.args.output.now c.put_piece.new.output ((field c.args.cell.now.key.row) ++ (field c.args.cell.now.key.family ++ (field c.args.cell.now.key.qualifier ++ (field c.args.cell.now.key.label ++ (i64 c.args.cell.now.key.timestamp ++ field c.args.cell.now.value))))) = part_longer {t = field c.args.cell.now.key.row} (field c.args.cell.now.key.family ++ (field c.args.cell.now.key.qualifier ++ (field c.args.cell.now.key.label ++ (i64 c.args.cell.now.key.timestamp ++ field c.args.cell.now.value)))) (subst (λ (t : List ℕ). HasPutPart g.W.Output c.args.output.now c.put_piece.new.output (field t)) c.row.ensures c.in_err-put_piece.ensures) in
    search (rules, part)
