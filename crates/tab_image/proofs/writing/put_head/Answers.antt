use Rattle.std.proofs.Common.{rules, ℕ, List, ◌++◌, subst}
use Rattle.tab_io.specs.Writing.{HasPut, HasPutPart}
use Rattle.tab_io.proofs.Putting.{puts_more, part_longer}
use Rattle.tab_image.specs.Images.{written_version}
use Rattle.tab_image.specs.Spelling.{field, counted, right_bytes, settings_bytes, head_bytes}
use Rattle.tab_image.proofs.writing.put_head.Goals as goal

pub returns : goal.returns
unfolding head_bytes
returns g c = puts_more g.W.Output c.args.output.now c.put_field.new.output c.put_kept.new.output (field c.args.head.now.name) (settings_bytes written_version c.args.head.now.time c.args.head.now.versions c.args.head.now.constraints c.args.head.now.horizon ++ (counted right_bytes c.args.head.now.rights ++ counted field c.args.head.now.ends)) c.put_kept.result (subst (λ (t : List ℕ). HasPut g.W.Output c.args.output.now c.put_field.new.output (field t)) c.as_bytes.ensures.value c.in_ok-put_field.ensures) c.put_kept.ensures

pub returns-in_err-put_field : goal.returns-in_err-put_field
unfolding head_bytes
returns-in_err-put_field g c =
    let part : HasPutPart g.W.Output c.args.output.now c.put_field.new.output (head_bytes written_version c.args.head.now) = part_longer {t = field c.args.head.now.name} (settings_bytes written_version c.args.head.now.time c.args.head.now.versions c.args.head.now.constraints c.args.head.now.horizon ++ (counted right_bytes c.args.head.now.rights ++ counted field c.args.head.now.ends)) (subst (λ (t : List ℕ). HasPutPart g.W.Output c.args.output.now c.put_field.new.output (field t)) c.as_bytes.ensures.value c.in_err-put_field.ensures) in
    search (rules, part)
