use Rattle.std.proofs.Common.{◌∙◌}
use Rattle.tab_key.specs.Order.{key_cmp}
use Rattle.tab_mem.specs.Groups.{rowless}
use Rattle.tab_mem.proofs.sorting.column_item.cmp_columns.Goals as goal

pub returns : goal.returns
returns c = c.cmp_keys.ensures ∙ (λ i. key_cmp (rowless (c.key-mine.ensures i)) (rowless (c.key-others.ensures i)))
