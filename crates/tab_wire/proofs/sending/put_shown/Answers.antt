use Rattle.std.proofs.Common.{rules, ℕ, List, ◌++◌, subst}
use Rattle.tab_io.specs.Writing.{HasPutPart, Puts}
use Rattle.tab_io.proofs.Putting.{puts_more, part_longer}
use Rattle.tab_wire.specs.Replies.{list}
use Rattle.tab_wire.specs.Sending.{column_bytes, counted}
use Rattle.tab_wire.proofs.sending.put_shown.Goals as goal

pub returns : goal.returns
returns g c = puts_more g.W.Output c.args.output.now c.put_columns.new.output c.put_terms.new.output (counted column_bytes c.args.columns.now) (list c.args.auths.now) c.put_terms.result c.in_ok-put_columns.ensures (subst (λ (xs : List (List ℕ)). Puts g.W.Output c.put_columns.new.output c.put_terms.new.output (list xs) c.put_terms.result) c.terms.ensures.all c.put_terms.ensures)

pub returns-in_err-put_columns : goal.returns-in_err-put_columns
returns-in_err-put_columns g c =
    let part : HasPutPart g.W.Output c.args.output.now c.put_columns.new.output ((counted column_bytes c.args.columns.now) ++ (list c.args.auths.now)) = part_longer {t = counted column_bytes c.args.columns.now} (list c.args.auths.now) c.in_err-put_columns.ensures in
    search (rules, part)
