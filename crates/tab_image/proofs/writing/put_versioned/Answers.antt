use Rattle.std.proofs.Common.{rules, ◌≡◌, ℤ, ◌++◌, subst, to_z, of_z, w64}
use Rattle.std.proofs.lemmas.Int.{to_z-of_z}
use Rattle.tab_io.specs.Writing.{HasPutPart, Puts}
use Rattle.tab_io.proofs.Putting.{puts_more, part_longer}
use Rattle.tab_image.specs.Images.{written_version}
use Rattle.tab_image.specs.Spelling.{u16, u64, i64}
use Rattle.tab_image.proofs.writing.put_versioned.Goals as goal

pub returns : goal.returns
returns g c =
    let same : to_z w64 (of_z w64 c.args.clock) ≡ c.args.clock = to_z-of_z w64 c.args.clock c.ranges.clock in
    puts_more g.W.Output c.args.output.now c.put_short.new.output c.put_clock.new.output (u16 written_version) (i64 c.args.clock ++ u64 c.args.next) c.put_clock.result c.in_ok-put_short.ensures (subst (λ (z : ℤ). Puts g.W.Output c.put_short.new.output c.put_clock.new.output (i64 z ++ u64 c.args.next) c.put_clock.result) same c.put_clock.ensures)

pub returns-in_err-put_short : goal.returns-in_err-put_short
returns-in_err-put_short g c =
    let part : HasPutPart g.W.Output c.args.output.now c.put_short.new.output ((u16 written_version) ++ (i64 c.args.clock ++ u64 c.args.next)) = part_longer {t = u16 written_version} (i64 c.args.clock ++ u64 c.args.next) c.in_err-put_short.ensures in
    search (rules, part)
