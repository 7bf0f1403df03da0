use Rattle.tab_table.proofs.Indexes.{nothing_indexed}
use Rattle.std.proofs.Common.{rules, refl}
use Rattle.tab_table.proofs.blocks.Blocks.with_capacity.Goals as goal

pub returns-clause-empty : goal.returns-clause-empty
returns-clause-empty c = nothing_indexed _ (search rules) refl (search rules) (search rules) (search rules)
