use Rattle.std.proofs.Common.{sym, ◌∙◌, ap, length}
use Rattle.std.specs.Prelude.{◌==◌}
use Rattle.tab_mem.proofs.Filled.{count_is}
use Rattle.tab_mem.proofs.partitions.unsorted.Unsorted.is_empty.Goals as goal

pub returns : goal.returns
returns c = ap (λ n. n == 0) (sym (count_is c.self.inside.body.items c.self.inside.count) ∙ ap length c.self.view_is)
