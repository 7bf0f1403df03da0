use Rattle.std.proofs.Common.{◌≡◌, ◌∙◌, List, map, ap, subst}
use Rattle.std.specs.Prelude.{IfOk}
use Rattle.tab_key.specs.Records.{Record}
use Rattle.tab_tablet.specs.Splitting.{middle_row, rows_in}
use Rattle.tab_tablet.specs.Tablets.{Tablet}
use Rattle.tab_tablet.proofs.Compacted.{frozen_sorted}
use Rattle.tab_tablets.proofs.splitting.middle_of.Goals as goal

pub returns-clause-middle : goal.returns-clause-middle
returns-clause-middle c =
    subst (λ m. IfOk c.middle_row-2.result (λ row. row ≡ m))
    (ap (λ (t : Tablet). middle_row (rows_in t)) c.in_ok-frozen.ensures ∙ ap (λ (us : List Record). middle_row (map (λ (u : Record). u.key.row) us)) (frozen_sorted c.args.tablet.now c.is_frozen.ensures.distinct))
    c.middle_row-2.ensures
