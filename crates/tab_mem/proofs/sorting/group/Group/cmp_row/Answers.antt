use Rattle.std.proofs.Common.{sym}
use Rattle.tab_key.specs.RowPrefix.{IsRowPrefix}
use Rattle.tab_key.proofs.RowPrefix.{prefix_orders}
use Rattle.tab_mem.specs.Groups.{row_of, count_in}
use Rattle.tab_mem.proofs.Spanned.{group_prefix}
use Rattle.tab_mem.proofs.sorting.group.Group.cmp_row.Goals as goal

pub returns-in_default : goal.returns-in_default
returns-in_default c =
    let mine : IsRowPrefix c.self.inside.prefix (row_of c.args.self.now) = group_prefix c.self.inside.prefix c.self.inside.bytes.now (count_in c.self.inside.bytes.now) c.args.self.now c.self.invariant c.self.view_is in
    let others : IsRowPrefix c.other.inside.prefix (row_of c.args.other.now) = group_prefix c.other.inside.prefix c.other.inside.bytes.now (count_in c.other.inside.bytes.now) c.args.other.now c.other.invariant c.other.view_is in
    prefix_orders (row_of c.args.self.now) (row_of c.args.other.now) c.self.inside.prefix c.other.inside.prefix c.cmp.result mine others (sym c.cmp.ensures) c.in_default.not-Equal
