use Rattle.std.proofs.Common.{subst, sym}
use Rattle.tab_key.specs.Records.{Record}
use Rattle.tab_key.specs.RowPrefix.{IsRowPrefix}
use Rattle.tab_iter.proofs.RowPrefix.{prefix_decides}
use Rattle.tab_mem.proofs.sorting.item.Item.cmp.Goals as goal

pub returns-in_default : goal.returns-in_default
returns-in_default c =
    let mine : IsRowPrefix c.self.inside.prefix c.args.self.now.key.row = subst (λ (r : Record). IsRowPrefix c.self.inside.prefix r.key.row) c.self.view_is c.self.invariant.row in
    let others : IsRowPrefix c.other.inside.prefix c.args.other.now.key.row = subst (λ (r : Record). IsRowPrefix c.other.inside.prefix r.key.row) c.other.view_is c.other.invariant.row in
    prefix_decides c.args.self.now c.args.other.now c.self.inside.prefix c.other.inside.prefix c.cmp.result mine others (sym c.cmp.ensures) c.in_default.not-Equal
