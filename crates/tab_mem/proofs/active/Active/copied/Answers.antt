use Rattle.std.proofs.Common.{◌≡◌, ◌∙◌, ◌++◌, ap, sym}
use Rattle.tab_key.specs.Sorted.{sorted}
use Rattle.tab_mem.specs.Writing.{as_written}
use Rattle.tab_mem.proofs.Writing.{run_held, run_written}
use Rattle.tab_mem.proofs.active.Active.copied.Goals as goal

pub invariant_of-result : goal.invariant_of-result
invariant_of-result c =
    let a = c.self.inside in
    let all : c.new-2.result ++ c.made.result ≡ sorted (as_written (a.written ++ a.kept)) = (λ i. c.new-2.ensures i ++ c.made.ensures i) ∙ c.in_ok-run.ensures ∙ ap sorted (sym c.self.view_is) in
    run_held (a.written ++ a.kept) _ all c.self.invariant

pub returns : goal.returns
returns c =
    let a = c.self.inside in
    let all : c.new-2.result ++ c.made.result ≡ sorted (as_written (a.written ++ a.kept)) = (λ i. c.new-2.ensures i ++ c.made.ensures i) ∙ c.in_ok-run.ensures ∙ ap sorted (sym c.self.view_is) in
    run_written (a.written ++ a.kept) _ all c.self.invariant ∙ c.self.view_is
