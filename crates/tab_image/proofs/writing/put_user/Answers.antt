use Rattle.std.proofs.Common.{rules, ℕ, List, ◌++◌, subst}
use Rattle.tab_io.specs.Writing.{HasPut, HasPutPart}
use Rattle.tab_io.proofs.Putting.{puts_more, part_longer}
use Rattle.tab_codec.specs.Parts.{system_bits}
use Rattle.tab_image.specs.Spelling.{u8, field, counted, user_bytes}
use Rattle.tab_image.proofs.writing.put_user.Goals as goal

pub returns : goal.returns
unfolding user_bytes
returns g c = puts_more g.W.Output c.args.output.now c.put_field.new.output c.put_held.new.output (field c.args.name.now) (u8 (system_bits c.args.system) ++ counted field c.args.authorizations.now) c.put_held.result (subst (λ (t : List ℕ). HasPut g.W.Output c.args.output.now c.put_field.new.output (field t)) c.as_bytes.ensures.value c.in_ok-put_field.ensures) c.put_held.ensures

pub returns-in_err-put_field : goal.returns-in_err-put_field
unfolding user_bytes
returns-in_err-put_field g c =
    let part : HasPutPart g.W.Output c.args.output.now c.put_field.new.output (user_bytes (record { name = c.args.name.now; system = c.args.system; authorizations = c.args.authorizations.now })) = part_longer {t = field c.args.name.now} (u8 (system_bits c.args.system) ++ counted field c.args.authorizations.now) (subst (λ (t : List ℕ). HasPutPart g.W.Output c.args.output.now c.put_field.new.output (field t)) c.as_bytes.ensures.value c.in_err-put_field.ensures) in
    search (rules, part)
