use Rattle.std.proofs.Common.{rules, ℕ, List, ◌++◌, subst}
use Rattle.tab_io.specs.Writing.{HasPut, HasPutPart}
use Rattle.tab_io.proofs.Putting.{puts_more, part_longer}
use Rattle.tab_wire.specs.Replies.{field}
use Rattle.tab_wire.specs.Sending.{update_bytes, counted}
use Rattle.tab_wire.proofs.sending.put_mutation.Goals as goal

pub returns : goal.returns
returns g c = puts_more g.W.Output c.args.output.now c.put_field.new.output c.put_updates.new.output (field c.args.mutation.now.row) (counted update_bytes c.args.mutation.now.updates) c.put_updates.result (subst (λ (t : List ℕ). HasPut g.W.Output c.args.output.now c.put_field.new.output (field t)) c.row.ensures c.in_ok-put_field.ensures) c.put_updates.ensures

pub returns-in_err-put_field : goal.returns-in_err-put_field
returns-in_err-put_field g c =
    let part : HasPutPart g.W.Output c.args.output.now c.put_field.new.output ((field c.args.mutation.now.row) ++ (counted update_bytes c.args.mutation.now.updates)) = part_longer {t = field c.args.mutation.now.row} (counted update_bytes c.args.mutation.now.updates) (subst (λ (t : List ℕ). HasPutPart g.W.Output c.args.output.now c.put_field.new.output (field t)) c.row.ensures c.in_err-put_field.ensures) in
    search (rules, part)
