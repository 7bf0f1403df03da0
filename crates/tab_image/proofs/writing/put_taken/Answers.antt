use Rattle.std.proofs.Common.{rules, ◌≡◌, ℕ, ℤ, ◌++◌, subst, to_z, of_z, w64}
use Rattle.std.proofs.lemmas.Int.{to_z-of_z}
use Rattle.tab_io.specs.Writing.{HasPut, HasPutPart, Puts}
use Rattle.tab_io.proofs.Putting.{puts_more, part_longer}
use Rattle.tab_codec.specs.Parts.{constraint_bits}
use Rattle.tab_image.specs.Images.{written_version}
use Rattle.tab_image.specs.Spelling.{u8, horizon_bytes}
use Rattle.tab_image.proofs.writing.put_taken.Goals as goal

pub returns : goal.returns
returns g c =
    let same : to_z w64 (of_z w64 c.args.horizon) ≡ c.args.horizon = to_z-of_z w64 c.args.horizon c.ranges.horizon in
    puts_more g.W.Output c.args.output.now c.put_byte.new.output c.put_horizon.new.output (u8 (constraint_bits c.args.constraints.now)) (horizon_bytes written_version c.args.horizon) c.put_horizon.result
    (subst (λ (n : ℕ). HasPut g.W.Output c.args.output.now c.put_byte.new.output (u8 n)) c.constraint_bits.ensures c.in_ok-put_byte.ensures)
    (subst (λ (z : ℤ). Puts g.W.Output c.put_byte.new.output c.put_horizon.new.output (horizon_bytes written_version z) c.put_horizon.result) same c.put_horizon.ensures)

pub returns-in_err-put_byte : goal.returns-in_err-put_byte
returns-in_err-put_byte g c =
    let part : HasPutPart g.W.Output c.args.output.now c.put_byte.new.output (u8 (constraint_bits c.args.constraints.now) ++ horizon_bytes written_version c.args.horizon) =
    part_longer {t = u8 (constraint_bits c.args.constraints.now)} (horizon_bytes written_version c.args.horizon) (subst (λ (n : ℕ). HasPutPart g.W.Output c.args.output.now c.put_byte.new.output (u8 n)) c.constraint_bits.ensures c.in_err-put_byte.ensures) in
    search (rules, part)
