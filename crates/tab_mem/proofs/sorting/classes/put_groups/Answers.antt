use Rattle.std.proofs.Common.{◌∙◌, ◌++◌, List, ap, sym, subst, take}
use Rattle.std.specs.List.Sorted.{IsPermutation, IsSortedBy}
use Rattle.tab_key.specs.Records.{Record}
use Rattle.tab_mem.specs.Groups.{IsOfOneRow, row_before}
use Rattle.tab_mem.proofs.Regrouped.{flat_distinct, flat_sorted, each_moved}
use Rattle.tab_mem.proofs.sorting.classes.put_groups.Goals as goal

pub put_sorted-requires-clause-rows : goal.put_sorted-requires-clause-rows
put_sorted-requires-clause-rows c =
    let old = c.args.groups.now.items in
    let new = c.as_slice.result.now in
    let moved : IsPermutation old new = subst (λ (ws : List (List Record)). IsPermutation old ws) (sym c.as_slice.ensures.value) c.sort_groups.ensures.permutation in
    each_moved IsOfOneRow old new moved c.requires.rows

pub put_sorted-requires-clause-distinct : goal.put_sorted-requires-clause-distinct
put_sorted-requires-clause-distinct c =
    let old = c.args.groups.now.items in
    let new = c.as_slice.result.now in
    let moved : IsPermutation old new = subst (λ (ws : List (List Record)). IsPermutation old ws) (sym c.as_slice.ensures.value) c.sort_groups.ensures.permutation in
    flat_distinct old new moved c.requires.distinct

pub put_sorted-requires-clause-rising : goal.put_sorted-requires-clause-rising
put_sorted-requires-clause-rising c = subst (λ (ws : List (List Record)). IsSortedBy row_before ws) (sym c.as_slice.ensures.value) c.sort_groups.ensures.rising

pub returns-in-Ok-clause-ok : goal.returns-in-Ok-clause-ok
returns-in-Ok-clause-ok c =
    let old = c.args.groups.now.items in
    let new = c.as_slice.result.now in
    let moved : IsPermutation old new = subst (λ (ws : List (List Record)). IsPermutation old ws) (sym c.as_slice.ensures.value) c.sort_groups.ensures.permutation in
    c.in-Ok.ensures.ok ∙ ap (λ l. c.args.records.now ++ l) (flat_sorted old new moved c.requires.distinct)

pub returns-in-Err-clause-err : goal.returns-in-Err-clause-err
returns-in-Err-clause-err c = c.truncate.ensures ∙ ap (λ n. take n c.put_sorted.new.records) c.len-count.ensures.len ∙ c.put_sorted.ensures.front
