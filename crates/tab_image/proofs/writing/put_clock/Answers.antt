use Rattle.std.proofs.Common.{rules, ◌≡◌, ℤ, ◌++◌, subst, to_z, of_z, w64}
use Rattle.std.proofs.lemmas.Int.{to_z-of_z}
use Rattle.tab_io.specs.Writing.{HasPut, HasPutPart}
use Rattle.tab_io.proofs.Putting.{puts_more, part_longer}
use Rattle.tab_image.specs.Spelling.{u64, i64}
use Rattle.tab_image.proofs.writing.put_clock.Goals as goal

pub returns : goal.returns
returns g c =
    let same : to_z w64 (of_z w64 c.args.clock) ≡ c.args.clock = to_z-of_z w64 c.args.clock c.ranges.clock in
    puts_more g.W.Output c.args.output.now c.put_signed.new.output c.put_long.new.output (i64 c.args.clock) (u64 c.args.next) c.put_long.result (subst (λ (z : ℤ). HasPut g.W.Output c.args.output.now c.put_signed.new.output (i64 z)) same c.in_ok-put_signed.ensures) c.put_long.ensures

pub returns-in_err-put_signed : goal.returns-in_err-put_signed
returns-in_err-put_signed g c =
    let same : to_z w64 (of_z w64 c.args.clock) ≡ c.args.clock = to_z-of_z w64 c.args.clock c.ranges.clock in
    let part : HasPutPart g.W.Output c.args.output.now c.put_signed.new.output ((i64 c.args.clock) ++ (u64 c.args.next)) = part_longer {t = i64 c.args.clock} (u64 c.args.next) (subst (λ (z : ℤ). HasPutPart g.W.Output c.args.output.now c.put_signed.new.output (i64 z)) same c.in_err-put_signed.ensures) in
    search (rules, part)
