use Rattle.std.proofs.Common.{◌∙◌, ◌+◌, ap, subst, length}
use Rattle.tab_key.specs.Sorted.{IsDistinct}
use Rattle.tab_mem.proofs.Writing.{written_count, written_distinct}
use Rattle.tab_mem.proofs.active.Active.len.Goals as goal

pub returns-clause-len : goal.returns-clause-len
returns-clause-len c =
    let a = c.self.inside in
    (λ i. c.len.ensures.len i + c.len-2.ensures.len i) ∙ written_count a.written a.kept ∙ ap length c.self.view_is

pub returns-clause-distinct : goal.returns-clause-distinct
returns-clause-distinct c = subst IsDistinct c.self.view_is (written_distinct _ c.self.invariant)
