-- What the views say of a value that is made.
use Rattle.std.proofs.Common.{◌≡◌, ℕ, List, [], ◌∷◌, ◌++◌, map, refl, sym, ap, ◌∙◌}
use Rattle.std.proofs.lemmas.List.{map-append}
use Rattle.std.specs.Prelude.{Vec}
use Rattle.std.specs.declared.alloc.Global.{Global}
use Rattle.tab_label.specs.declared.joiner.Joiner.{Joiner}
use Rattle.tab_label.specs.declared.tree.Tree.{Tree}
use Rattle.tab_label.specs.declared.tree.Tree.TheOpen.{Tree-F}
use Rattle.tab_label.specs.declared.tree.Tree.TheVariants as trees
use Rattle.tab_label.specs.declared.tree.Tree.TheFolds.{fold-roll-Tree}
use Rattle.tab_label.specs.Grammar.{Expr, TermOf, JoinOf, Exprs, Start, With}
use Rattle.tab_label.specs.Views.{expr_of, expr_step, followed}
use Rattle.tab_label.specs.ParserViews.{exprs_of}

pub followed_push : (ys : List Expr) (xs : Exprs) (y : Expr) → followed xs (ys ++ y ∷ []) ≡ With (followed xs ys) y
followed_push [] xs y = refl
followed_push (z ∷ ys) xs y = followed_push ys (With xs z) y

pub exprs_push : (trees : List Tree) (t : Tree) → exprs_of (trees ++ t ∷ []) ≡ With (exprs_of trees) (expr_of t)
exprs_push trees t = ap (followed Start) (map-append expr_of trees (t ∷ [])) ∙ followed_push (map expr_of trees) Start (expr_of t)

pub expr_term : (v : Vec ℕ Global) → expr_of (trees.Term v) ≡ TermOf v.items
expr_term v = ap expr_of (sym (trees.rolls-Term v)) ∙ fold-roll-Tree Expr expr_step (Tree-F.Term v)

pub expr_join : (j : Joiner) (v : Vec Tree Global) → expr_of (trees.Join j v) ≡ JoinOf j (exprs_of v.items)
expr_join j v = ap expr_of (sym (trees.rolls-Join j v)) ∙ fold-roll-Tree Expr expr_step (Tree-F.Join j v)

pub ruleset made_trees = (expr_term, expr_join, exprs_push)
