-- For proofs. What the tree of the code stands for.
use Rattle.std.specs.Prelude.{◌≡◌, ℕ, Result, Ok, Err, List, [], ◌∷◌}
use Rattle.tab_label.specs.declared.tree.Tree.{Tree}
use Rattle.tab_label.specs.declared.tree.Tree.TheOpen.{Tree-F}
use Rattle.tab_label.specs.declared.tree.Tree.TheFolds.{fold-Tree}
use Rattle.tab_label.specs.declared.tree.Label.{Label}
use Rattle.tab_label.specs.declared.tree.Label.TheVariants.{Everyone, Only}
use Rattle.tab_label.specs.declared.fault.LabelFault.{LabelFault}
use Rattle.tab_label.specs.declared.fault.LabelFault.TheVariants.{Malformed, NoMemory}
use Rattle.tab_label.specs.Grammar.{Expr, TermOf, JoinOf, Exprs, Start, With, All_see, Only_if}
use Rattle.tab_label.specs.Grammar as grammar

-- xs, and the expressions of the list behind them
abbrev pub followed : Exprs → List Expr → Exprs
followed xs [] = xs
followed xs (y ∷ ys) = followed (With xs y) ys

-- what one layer of a tree stands for
abbrev pub expr_step : Tree-F Expr → Expr
expr_step (Tree-F.Term v) = TermOf v.items
expr_step (Tree-F.Join j v) = JoinOf j (followed Start v.items)

-- the expression that a tree stands for
abbrev pub expr_of : Tree → Expr
expr_of = fold-Tree Expr expr_step

-- what the code's label says
abbrev pub meaning_of : Label → grammar.Label
meaning_of Everyone = All_see
meaning_of (Only t) = Only_if (expr_of t)

-- of a fault: if the text was malformed, P of its offset
abbrev pub IfMalformed : LabelFault → (ℕ → Type 0) → Type 0
IfMalformed (Malformed n) P = P n
IfMalformed NoMemory P = Unit {0}

-- what a reader may return of a text that says m
abbrev pub IsReadAs : Result Label LabelFault → grammar.Label → Type 0
IsReadAs (Ok l) m = meaning_of l ≡ m
IsReadAs (Err (Malformed n)) m = ⊥
IsReadAs (Err NoMemory) m = Unit {0}

-- what a reader may return of a text of which reading says this
abbrev pub IsReadBy : Result Label LabelFault → Result grammar.Label ℕ → Type 0
IsReadBy (Ok l) read = read ≡ Ok (meaning_of l)
IsReadBy (Err (Malformed n)) read = read ≡ Err n
IsReadBy (Err NoMemory) read = Unit {0}
