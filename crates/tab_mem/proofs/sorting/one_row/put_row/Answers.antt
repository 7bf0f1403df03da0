use Rattle.std.proofs.Common.{◌∙◌, ◌++◌, ap, take}
use Rattle.tab_mem.proofs.Columned.{one_row, sorted_row}
use Rattle.tab_mem.proofs.sorting.one_row.put_row.Goals as goal

pub sort_row-requires-clause-row : goal.sort_row-requires-clause-row
sort_row-requires-clause-row c = one_row c.requires.row.row c.args.items.now.items c.requires.row.same

pub push_row-requires : goal.push_row-requires
push_row-requires c = sorted_row c.args.prefix c.args.items.now.items c.as_slice.result.now (c.as_slice.ensures.value ∙ c.sort_row.ensures) c.requires.row

pub returns-in-Ok-clause-ok : goal.returns-in-Ok-clause-ok
returns-in-Ok-clause-ok c = c.in-Ok.ensures.ok ∙ ap (λ l. c.args.records.now ++ l) (c.as_slice.ensures.value ∙ c.sort_row.ensures)

pub returns-in-Err-clause-err : goal.returns-in-Err-clause-err
returns-in-Err-clause-err c = c.truncate.ensures ∙ ap (λ n. take n c.push_row.new.records) c.len-count.ensures.len ∙ c.push_row.ensures.front
