use Rattle.std.proofs.Common.{rules, List, ◌++◌, subst}
use Rattle.tab_io.specs.Writing.{HasPutPart, Puts}
use Rattle.tab_io.proofs.Putting.{puts_more, part_longer}
use Rattle.tab_key.specs.declared.column.Column.{Column}
use Rattle.tab_wire.specs.Replies.{list}
use Rattle.tab_wire.specs.Sending.{bounds_bytes, column_bytes, counted}
use Rattle.tab_wire.proofs.sending.put_asked.Goals as goal

pub returns : goal.returns
returns g c = puts_more g.W.Output c.args.output.now c.put_bounds.new.output c.put_shown.new.output (bounds_bytes c.args.scan.now.bounds) (counted column_bytes c.args.scan.now.columns ++ list c.args.scan.now.authorizations) c.put_shown.result c.in_ok-put_bounds.ensures (subst (λ (xs : List Column). Puts g.W.Output c.put_bounds.new.output c.put_shown.new.output (counted column_bytes xs ++ list c.args.scan.now.authorizations) c.put_shown.result) c.as_slice.ensures c.put_shown.ensures)

pub returns-in_err-put_bounds : goal.returns-in_err-put_bounds
returns-in_err-put_bounds g c =
    let part : HasPutPart g.W.Output c.args.output.now c.put_bounds.new.output ((bounds_bytes c.args.scan.now.bounds) ++ (counted column_bytes c.args.scan.now.columns ++ list c.args.scan.now.authorizations)) = part_longer {t = bounds_bytes c.args.scan.now.bounds} (counted column_bytes c.args.scan.now.columns ++ list c.args.scan.now.authorizations) c.in_err-put_bounds.ensures in
    search (rules, part)
