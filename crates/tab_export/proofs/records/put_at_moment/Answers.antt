use Rattle.std.proofs.Common.{ℤ, None, ◌≡◌, ◌++◌, subst, rules, to_z, of_z, w64}
use Rattle.tab_io.specs.Writing.{HasPutPart}
use Rattle.tab_io.proofs.Putting.{part_longer}
use Rattle.tab_export.specs.Script.{at_text, record_text}
use Rattle.tab_export.proofs.records.put_at_moment.Goals as goal

pub returns-in_err-put_at : goal.returns-in_err-put_at
returns-in_err-put_at g c =
    let trip : to_z w64 (of_z w64 c.args.moment) ≡ c.args.moment = search rules in
    let rest = record_text c.args.table.now None c.args.written.now in
    let first : HasPutPart g.W.Output c.args.output.now c.put_at.new.output (at_text c.args.moment) =
    subst (λ (m : ℤ). HasPutPart g.W.Output c.args.output.now c.put_at.new.output (at_text m)) trip c.in_err-put_at.ensures in
    let part : HasPutPart g.W.Output c.args.output.now c.put_at.new.output (at_text c.args.moment ++ rest) = part_longer {t = at_text c.args.moment} rest first in
    search (rules, part)
