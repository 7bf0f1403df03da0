use Rattle.std.proofs.Common.{◌≡◌, ◌∙◌, ◌++◌, ap, sym, subst, List}
use Rattle.std.specs.Prelude.{IfOk}
use Rattle.tab_key.specs.Records.{Record}
use Rattle.tab_key.specs.Sorted.{sorted}
use Rattle.tab_mem.proofs.Writing.{held_moved, written_same, written_sorted}
use Rattle.tab_mem.proofs.active.Active.freeze.Goals as goal

pub invariant_of-self : goal.invariant_of-self
invariant_of-self c = held_moved _ _ c.frozen.ensures.moved c.self.invariant

pub returns-in-None-clause-ok : goal.returns-in-None-clause-ok
returns-in-None-clause-ok c =
    let a = c.self.inside in
    subst (λ (l : List Record). IfOk c.frozen.result (λ run. run.value ≡ l)) (sym (written_sorted (a.written ++ a.kept) c.self.invariant) ∙ ap sorted c.self.view_is) c.frozen.ensures.ok

pub returns-in-None-clause-same : goal.returns-in-None-clause-same
returns-in-None-clause-same c = written_same _ _ c.frozen.ensures.moved c.self.invariant ∙ c.self.view_is
