use Rattle.std.proofs.Common.{rules, ℕ, ◌++◌, subst}
use Rattle.tab_io.specs.Writing.{HasPut, HasPutPart}
use Rattle.tab_io.proofs.Putting.{puts_more, part_longer}
use Rattle.tab_codec.specs.Parts.{system_bits}
use Rattle.tab_image.specs.Spelling.{u8, field, counted}
use Rattle.tab_image.proofs.writing.put_held.Goals as goal

pub returns : goal.returns
returns g c = puts_more g.W.Output c.args.output.now c.put_byte.new.output c.put_set.new.output (u8 (system_bits c.args.system)) (counted field c.args.authorizations.now) c.put_set.result (subst (λ (n : ℕ). HasPut g.W.Output c.args.output.now c.put_byte.new.output (u8 n)) c.system_bits.ensures c.in_ok-put_byte.ensures) c.put_set.ensures

pub returns-in_err-put_byte : goal.returns-in_err-put_byte
returns-in_err-put_byte g c =
    let part : HasPutPart g.W.Output c.args.output.now c.put_byte.new.output ((u8 (system_bits c.args.system)) ++ (counted field c.args.authorizations.now)) = part_longer {t = u8 (system_bits c.args.system)} (counted field c.args.authorizations.now) (subst (λ (n : ℕ). HasPutPart g.W.Output c.args.output.now c.put_byte.new.output (u8 n)) c.system_bits.ensures c.in_err-put_byte.ensures) in
    search (rules, part)
