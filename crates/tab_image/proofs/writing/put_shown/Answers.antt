use Rattle.std.proofs.Common.{rules, ◌≡◌, ℕ, ℤ, ◌++◌, subst, to_z, of_z, w64}
use Rattle.std.proofs.lemmas.Int.{to_z-of_z}
use Rattle.tab_io.specs.Writing.{HasPut, HasPutPart, Puts}
use Rattle.tab_io.proofs.Putting.{puts_more, part_longer}
use Rattle.tab_codec.specs.Parts.{constraint_bits}
use Rattle.tab_image.specs.Images.{written_version}
use Rattle.tab_image.specs.Spelling.{u8, u32, horizon_bytes}
use Rattle.tab_image.proofs.writing.put_shown.Goals as goal

pub returns : goal.returns
returns g c =
    let count : c.get.result ≡ c.args.versions = search rules in
    let same : to_z w64 (of_z w64 c.args.horizon) ≡ c.args.horizon = to_z-of_z w64 c.args.horizon c.ranges.horizon in
    puts_more g.W.Output c.args.output.now c.put_number.new.output c.put_taken.new.output (u32 c.args.versions) (u8 (constraint_bits c.args.constraints.now) ++ horizon_bytes written_version c.args.horizon) c.put_taken.result
    (subst (λ (n : ℕ). HasPut g.W.Output c.args.output.now c.put_number.new.output (u32 n)) count c.in_ok-put_number.ensures)
    (subst (λ (z : ℤ). Puts g.W.Output c.put_number.new.output c.put_taken.new.output (u8 (constraint_bits c.args.constraints.now) ++ horizon_bytes written_version z) c.put_taken.result) same c.put_taken.ensures)

pub returns-in_err-put_number : goal.returns-in_err-put_number
returns-in_err-put_number g c =
    let count : c.get.result ≡ c.args.versions = search rules in
    let part : HasPutPart g.W.Output c.args.output.now c.put_number.new.output (u32 c.args.versions ++ (u8 (constraint_bits c.args.constraints.now) ++ horizon_bytes written_version c.args.horizon)) =
    part_longer {t = u32 c.args.versions} (u8 (constraint_bits c.args.constraints.now) ++ horizon_bytes written_version c.args.horizon) (subst (λ (n : ℕ). HasPutPart g.W.Output c.args.output.now c.put_number.new.output (u32 n)) count c.in_err-put_number.ensures) in
    search (rules, part)
