use Rattle.std.proofs.Common.{rules, ℕ, List, ◌++◌, subst}
use Rattle.tab_io.specs.Writing.{HasPut, HasPutPart}
use Rattle.tab_io.proofs.Putting.{puts_more, part_longer}
use Rattle.tab_wire.specs.Replies.{field, list}
use Rattle.tab_wire.specs.Sending.{bounds_bytes, column_bytes, counted}
use Rattle.tab_wire.proofs.sending.put_scan.Goals as goal

pub returns : goal.returns
returns g c = puts_more g.W.Output c.args.output.now c.put_field.new.output c.put_asked.new.output (field c.args.scan.now.table) (bounds_bytes c.args.scan.now.bounds ++ (counted column_bytes c.args.scan.now.columns ++ list c.args.scan.now.authorizations)) c.put_asked.result (subst (λ (t : List ℕ). HasPut g.W.Output c.args.output.now c.put_field.new.output (field t)) c.as_bytes.ensures.value c.in_ok-put_field.ensures) c.put_asked.ensures

pub returns-in_err-put_field : goal.returns-in_err-put_field
returns-in_err-put_field g c =
    let part : HasPutPart g.W.Output c.args.output.now c.put_field.new.output ((field c.args.scan.now.table) ++ (bounds_bytes c.args.scan.now.bounds ++ (counted column_bytes c.args.scan.now.columns ++ list c.args.scan.now.authorizations))) = part_longer {t = field c.args.scan.now.table} (bounds_bytes c.args.scan.now.bounds ++ (counted column_bytes c.args.scan.now.columns ++ list c.args.scan.now.authorizations)) (subst (λ (t : List ℕ). HasPutPart g.W.Output c.args.output.now c.put_field.new.output (field t)) c.as_bytes.ensures.value c.in_err-put_field.ensures) in
    search (rules, part)
