use Rattle.std.proofs.Common.{ℕ, ◌<◌, get_or}
use Rattle.tab_label.specs.declared.tree.Tree.{Tree}
use Rattle.tab_label.specs.Holding.{ExprHolds}
use Rattle.tab_label.specs.Views.{expr_of}
use Rattle.tab_label.proofs.tree.Tree.+holds.Given as goal

abbrev pub decreases-holds : goal.decreases-holds
decreases-holds l = goal.size-holds l

abbrev pub invariant-all : goal.invariant-all
invariant-all l = (k : ℕ) (d : Tree) → k < l.operand-index → ExprHolds (expr_of (get_or l.operand-items k d)) l.auths

abbrev pub invariant-any : goal.invariant-any
invariant-any l = (k : ℕ) (d : Tree) → k < l.operand-index → ExprHolds (expr_of (get_or l.operand-items k d)) l.auths → ⊥
