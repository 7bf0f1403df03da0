use Rattle.std.proofs.Common.{◌≡◌, [], ◌++◌, sym, subst}
use Rattle.tab_mem.specs.Writing.{as_written, IsHeld}
use Rattle.tab_mem.proofs.Writing.{none_held}
use Rattle.tab_mem.proofs.active.Active.new.Goals as goal

pub invariant_of-result : goal.invariant_of-result
invariant_of-result c =
    let none : c.new.result ++ c.nothing.result ≡ [] = λ i. c.new.ensures i ++ c.nothing.ensures i in
    subst IsHeld (sym none) none_held

pub returns : goal.returns
returns c = λ i. as_written (c.new.ensures i ++ c.nothing.ensures i)
