use Rattle.std.proofs.Common.{subst}
use Rattle.tab_key.specs.Records.{Record}
use Rattle.tab_key.specs.RowPrefix.{IsRowPrefix}
use Rattle.tab_mem.proofs.sorting.item.Item.prefix.Goals as goal

pub returns : goal.returns
returns c = subst (λ (r : Record). IsRowPrefix c.self.inside.prefix r.key.row) c.self.view_is c.self.invariant.row
