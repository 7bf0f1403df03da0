use Rattle.std.proofs.Common.{rules, ◌≡◌, ℤ, List, ℕ, ◌++◌, subst, to_z, of_z, w64}
use Rattle.tab_io.specs.Writing.{HasPut, HasPutPart}
use Rattle.tab_io.proofs.Putting.{puts_more, part_longer}
use Rattle.tab_image.specs.Images.{written_version}
use Rattle.tab_image.specs.Spelling.{field, counted, right_bytes, settings_bytes}
use Rattle.tab_image.specs.declared.table.TableHead.{TableHead}
use Rattle.tab_image.proofs.writing.put_kept.Goals as goal

-- the settings with this horizon
abbrev closed_below : TableHead → ℤ → List ℕ
closed_below head z = settings_bytes written_version head.time head.versions head.constraints z

pub returns : goal.returns
returns g c =
    let head = c.args.head.now in
    let same : to_z w64 (of_z w64 head.horizon) ≡ head.horizon = search rules in
    puts_more g.W.Output c.args.output.now c.put_settings.new.output c.put_lists.new.output (closed_below head head.horizon) (counted right_bytes head.rights ++ counted field head.ends) c.put_lists.result
    (subst (λ (z : ℤ). HasPut g.W.Output c.args.output.now c.put_settings.new.output (closed_below head z)) same c.in_ok-put_settings.ensures) c.put_lists.ensures

pub returns-in_err-put_settings : goal.returns-in_err-put_settings
returns-in_err-put_settings g c =
    let head = c.args.head.now in
    let same : to_z w64 (of_z w64 head.horizon) ≡ head.horizon = search rules in
    let part : HasPutPart g.W.Output c.args.output.now c.put_settings.new.output (closed_below head head.horizon ++ (counted right_bytes head.rights ++ counted field head.ends)) =
    part_longer {t = closed_below head head.horizon} (counted right_bytes head.rights ++ counted field head.ends) (subst (λ (z : ℤ). HasPutPart g.W.Output c.args.output.now c.put_settings.new.output (closed_below head z)) same c.in_err-put_settings.ensures) in
    search (rules, part)
