use Rattle.std.proofs.Common.{◌≡◌, rules}
use Rattle.tab_tablet.proofs.Cut.{rows_above_are}
use Rattle.tab_tablet.proofs.bounding.rows_above.Goals as goal

pub returns : goal.returns
returns c =
    let same : c.in_ok-clone.field-0 ≡ c.args.row.now = search rules in
    rows_above_are c.in_ok-clone.field-0 c.args.row.now same
