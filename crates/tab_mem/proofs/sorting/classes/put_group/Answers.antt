use Rattle.std.proofs.Common.{◌≡◌, ◌∙◌, ◌++◌, List, ap, sym, subst}
use Rattle.std.specs.Prelude.{OnOk}
use Rattle.tab_key.specs.Records.{Record}
use Rattle.tab_key.specs.Sorted.{sorted, IsDistinct}
use Rattle.tab_mem.proofs.Columned.{group_row}
use Rattle.tab_mem.proofs.sorting.classes.put_group.Goals as goal

pub returns-then-is_single-clause-ok : goal.returns-then-is_single-clause-ok
returns-then-is_single-clause-ok c =
    subst (λ (us : List Record). OnOk c.push_item.result (c.push_item.new.self ≡ c.args.records.now ++ us)) (sym (ap sorted c.only.ensures)) c.push_item.ensures.ok

pub put_row-requires-clause-row : goal.put_row-requires-clause-row
put_row-requires-clause-row c =
    let lent : c.lend_to.new.items.items ≡ c.args.group.now = c.in_ok-lend_to.ensures ∙ ap (λ l. l ++ c.args.group.now) c.clear.ensures.items in
    group_row c.prefix.result c.args.group.now c.lend_to.new.items.items lent c.prefix.ensures c.requires.row

pub put_row-requires-clause-distinct : goal.put_row-requires-clause-distinct
put_row-requires-clause-distinct c =
    let lent : c.lend_to.new.items.items ≡ c.args.group.now = c.in_ok-lend_to.ensures ∙ ap (λ l. l ++ c.args.group.now) c.clear.ensures.items in
    subst IsDistinct (sym lent) c.requires.distinct

pub returns-clause-ok : goal.returns-clause-ok
returns-clause-ok c =
    let lent : c.lend_to.new.items.items ≡ c.args.group.now = c.in_ok-lend_to.ensures ∙ ap (λ l. l ++ c.args.group.now) c.clear.ensures.items in
    subst (λ (us : List Record). OnOk c.put_row.result (c.put_row.new.records ≡ c.args.records.now ++ sorted us)) lent c.put_row.ensures.ok
