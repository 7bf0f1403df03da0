use Rattle.std.proofs.Common.{rules, ℕ, List, subst}
use Rattle.tab_io.specs.Writing.{HasPut, HasPutPart, Puts}
use Rattle.tab_io.proofs.Putting.{puts_more, part_longer}
use Rattle.tab_codec.specs.Parts.{table_bits}
use Rattle.tab_image.specs.Spelling.{u8, field, right_bytes}
use Rattle.tab_image.proofs.writing.put_right.Goals as goal

pub returns : goal.returns
unfolding right_bytes
returns g c =
    let last : Puts g.W.Output c.put_field.new.output c.put_byte.new.output (u8 (table_bits c.args.held)) c.put_byte.result = search rules in
    puts_more g.W.Output c.args.output.now c.put_field.new.output c.put_byte.new.output (field c.args.user.now) (u8 (table_bits c.args.held)) c.put_byte.result (subst (λ (t : List ℕ). HasPut g.W.Output c.args.output.now c.put_field.new.output (field t)) c.as_bytes.ensures.value c.in_ok-put_field.ensures) last

pub returns-in_err-put_field : goal.returns-in_err-put_field
unfolding right_bytes
returns-in_err-put_field g c =
    let part : HasPutPart g.W.Output c.args.output.now c.put_field.new.output (right_bytes (record { user = c.args.user.now; held = c.args.held })) = part_longer {t = field c.args.user.now} (u8 (table_bits c.args.held)) (subst (λ (t : List ℕ). HasPutPart g.W.Output c.args.output.now c.put_field.new.output (field t)) c.as_bytes.ensures.value c.in_err-put_field.ensures) in
    search (rules, part)
