use Rattle.std.proofs.Common.{◌≡◌, ◌++◌, length, subst, sym, arith}
use Rattle.tab_key.specs.Records.{Record}
use Rattle.tab_key.specs.RowPrefix.{IsRowPrefix}
use Rattle.tab_mem.proofs.Columned.{column_decides}
use Rattle.tab_mem.proofs.sorting.column_item.ColumnItem.cmp.Goals as goal

pub returns-in_default : goal.returns-in_default
returns-in_default c =
    let a = c.args.self.now in
    let b = c.args.other.now in
    let mine : IsRowPrefix c.self.inside.prefix (a.key.family ++ a.key.qualifier) = subst (λ (r : Record). IsRowPrefix c.self.inside.prefix (r.key.family ++ r.key.qualifier)) c.self.view_is c.self.invariant.names in
    let others : IsRowPrefix c.other.inside.prefix (b.key.family ++ b.key.qualifier) = subst (λ (r : Record). IsRowPrefix c.other.inside.prefix (r.key.family ++ r.key.qualifier)) c.other.view_is c.other.invariant.names in
    let own : c.self.inside.family ≡ length a.key.family = subst (λ (r : Record). c.self.inside.family ≡ length r.key.family) c.self.view_is c.self.invariant.size in
    let other : c.other.inside.family ≡ length b.key.family = subst (λ (r : Record). c.other.inside.family ≡ length r.key.family) c.other.view_is c.other.invariant.size in
    let long : length a.key.family ≡ length b.key.family = omega (arith, own, other) in
    column_decides a b c.self.inside.prefix c.other.inside.prefix c.cmp.result long mine others (sym c.cmp.ensures) c.in_default.not-Equal
