use Rattle.std.proofs.Common.{rules, ◌≡◌, ℤ, ◌++◌, subst, to_z, of_z, w64}
use Rattle.std.proofs.lemmas.Int.{to_z-of_z}
use Rattle.tab_io.specs.Writing.{HasPutPart, Puts}
use Rattle.tab_io.proofs.Putting.{puts_more, part_longer}
use Rattle.tab_image.specs.Images.{written_version}
use Rattle.tab_image.specs.Spelling.{u16, u64, i64, magic_bytes, front_bytes}
use Rattle.tab_image.proofs.writing.put_front.Goals as goal

pub returns : goal.returns
unfolding front_bytes
returns g c =
    let same : to_z w64 (of_z w64 c.args.clock) ≡ c.args.clock = to_z-of_z w64 c.args.clock c.ranges.clock in
    puts_more g.W.Output c.args.output.now c.put_magic.new.output c.put_versioned.new.output (magic_bytes) (u16 written_version ++ (i64 c.args.clock ++ u64 c.args.next)) c.put_versioned.result c.in_ok-put_magic.ensures (subst (λ (z : ℤ). Puts g.W.Output c.put_magic.new.output c.put_versioned.new.output (u16 written_version ++ (i64 z ++ u64 c.args.next)) c.put_versioned.result) same c.put_versioned.ensures)

pub returns-in_err-put_magic : goal.returns-in_err-put_magic
unfolding front_bytes
returns-in_err-put_magic g c =
    let part : HasPutPart g.W.Output c.args.output.now c.put_magic.new.output (front_bytes written_version c.args.clock c.args.next) = part_longer {t = magic_bytes} (u16 written_version ++ (i64 c.args.clock ++ u64 c.args.next)) c.in_err-put_magic.ensures in
    search (rules, part)
