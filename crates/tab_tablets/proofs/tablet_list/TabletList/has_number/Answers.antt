use Rattle.std.proofs.Common.{◌∙◌, ap}
use Rattle.std.specs.Prelude.{◌==◌}
use Rattle.tab_tablet.specs.Tablets.{Tablet}
use Rattle.tab_tablets.proofs.tablet_list.TabletList.has_number.Goals as goal

pub returns : goal.returns
returns c = ap (λ n. (n == c.args.number)) (c.number.ensures ∙ ap (λ (t : Tablet). t.number) c.tablet.ensures)
