use Rattle.std.proofs.Common.{◌≡◌, ◌<◌, ◌-◌, ◌++◌, List, subst, length, arith}
use Rattle.std.specs.Prelude.{OnOk}
use Rattle.tab_key.specs.Records.{Record}
use Rattle.tab_key.specs.Sorted.{sorted}
use Rattle.tab_mem.proofs.ByClass.{one_at, distinct_at, one_between, class_row, class_distinct}
use Rattle.tab_mem.proofs.sorting.classes.put_class.Goals as goal

pub put_group-requires-clause-row : goal.put_group-requires-clause-row
put_group-requires-clause-row c =
    let low : c.args.at < length c.args.groups.now = omega (arith, c.requires.order, c.requires.inside) in
    one_at c.args.groups.now c.args.at c.index-groups-at.result low c.index-groups-at.is c.requires.rows

pub put_group-requires-clause-distinct : goal.put_group-requires-clause-distinct
put_group-requires-clause-distinct c =
    let low : c.args.at < length c.args.groups.now = omega (arith, c.requires.order, c.requires.inside) in
    distinct_at c.args.groups.now c.args.at c.index-groups-at.result low c.index-groups-at.is c.requires.distinct

pub returns-then-count-eq1-clause-ok : goal.returns-then-count-eq1-clause-ok
returns-then-count-eq1-clause-ok c =
    let ws = c.args.groups.now in
    let low : c.args.at < length ws = omega (arith, c.requires.order, c.requires.inside) in
    let one : c.args.end - c.args.at ≡ 1 = omega arith in
    subst (λ (us : List Record). OnOk c.put_group.result (c.put_group.new.records ≡ c.args.records.now ++ sorted us)) (one_between ws c.args.at c.args.end c.index-groups-at.result one low c.index-groups-at.is) c.put_group.ensures.ok

pub put_all-requires-clause-row : goal.put_all-requires-clause-row
put_all-requires-clause-row c = class_row c.args.groups.now c.args.at c.args.end c.requires.class c.requires.rows c.prefix.result c.index-groups-at.result c.index-groups-at.is c.prefix.ensures

pub put_all-requires-clause-distinct : goal.put_all-requires-clause-distinct
put_all-requires-clause-distinct c = class_distinct c.args.groups.now c.args.at c.args.end c.requires.class c.requires.distinct
