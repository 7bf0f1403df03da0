use Rattle.std.proofs.Common.{◌≡◌, ◌∙◌, ◌++◌, List, ap, sym, subst}
use Rattle.std.specs.Prelude.{OnOk}
use Rattle.tab_key.specs.Records.{Record}
use Rattle.tab_key.specs.Sorted.{sorted, IsDistinct}
use Rattle.tab_iter.specs.Bags.{flat}
use Rattle.tab_mem.proofs.Columned.{same_row}
use Rattle.tab_mem.proofs.sorting.classes.put_all.Goals as goal

pub put_row-requires-clause-row : goal.put_row-requires-clause-row
put_row-requires-clause-row c =
    let all = flat c.args.groups.now in
    let lent : c.lend_all.new.items.items ≡ all = c.in_ok-lend_all.ensures ∙ ap (λ l. l ++ all) c.clear.ensures.items in
    same_row c.args.prefix all c.lend_all.new.items.items lent c.requires.row

pub put_row-requires-clause-distinct : goal.put_row-requires-clause-distinct
put_row-requires-clause-distinct c =
    let all = flat c.args.groups.now in
    let lent : c.lend_all.new.items.items ≡ all = c.in_ok-lend_all.ensures ∙ ap (λ l. l ++ all) c.clear.ensures.items in
    subst IsDistinct (sym lent) c.requires.distinct

pub returns-clause-ok : goal.returns-clause-ok
returns-clause-ok c =
    let all = flat c.args.groups.now in
    let lent : c.lend_all.new.items.items ≡ all = c.in_ok-lend_all.ensures ∙ ap (λ l. l ++ all) c.clear.ensures.items in
    subst (λ (us : List Record). OnOk c.put_row.result (c.put_row.new.records ≡ c.args.records.now ++ sorted us)) lent c.put_row.ensures.ok
