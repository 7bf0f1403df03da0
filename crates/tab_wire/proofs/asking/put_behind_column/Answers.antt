use Rattle.std.proofs.Common.{rules, ℕ, List, ◌++◌, subst}
use Rattle.tab_io.specs.Writing.{HasPut, HasPutPart}
use Rattle.tab_io.proofs.Putting.{puts_more, part_longer}
use Rattle.tab_wire.specs.Replies.{field}
use Rattle.tab_wire.specs.Sending.{timestamp_bytes, value_part}
use Rattle.tab_wire.proofs.asking.put_behind_column.Goals as goal

pub returns : goal.returns
returns g c = puts_more g.W.Output c.args.output.now c.put_field.new.output c.put_given.new.output (field c.args.update.now.label) (timestamp_bytes c.args.update.now.timestamp ++ value_part c.args.update.now.kind c.args.update.now.value) c.put_given.result (subst (λ (t : List ℕ). HasPut g.W.Output c.args.output.now c.put_field.new.output (field t)) c.label.ensures c.in_ok-put_field.ensures) c.put_given.ensures

pub returns-in_err-put_field : goal.returns-in_err-put_field
returns-in_err-put_field g c =
    let part : HasPutPart g.W.Output c.args.output.now c.put_field.new.output ((field c.args.update.now.label) ++ (timestamp_bytes c.args.update.now.timestamp ++ value_part c.args.update.now.kind c.args.update.now.value)) = part_longer {t = field c.args.update.now.label} (timestamp_bytes c.args.update.now.timestamp ++ value_part c.args.update.now.kind c.args.update.now.value) (subst (λ (t : List ℕ). HasPutPart g.W.Output c.args.output.now c.put_field.new.output (field t)) c.label.ensures c.in_err-put_field.ensures) in
    search (rules, part)
