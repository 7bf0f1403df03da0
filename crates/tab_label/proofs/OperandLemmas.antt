-- What holds of operands in a list.
use Rattle.std.proofs.Common.{◌≡◌, ℕ, suc, zero, ◌<◌, inl, inr, List, [], ◌∷◌, length, get_or, map, arith}
use Rattle.std.specs.Prelude.{Vec}
use Rattle.std.specs.declared.alloc.Global.{Global}
use Rattle.tab_label.specs.declared.joiner.Joiner.{Joiner}
use Rattle.tab_label.specs.declared.joiner.Joiner.TheVariants.{And, Or}
use Rattle.tab_label.specs.declared.tree.Tree.{Tree}
use Rattle.tab_label.specs.declared.tree.Tree.TheVariants as trees
use Rattle.tab_label.proofs.ViewLemmas.{expr_join}
use Rattle.tab_label.specs.Grammar.{JoinOf, Exprs, Start, With}
use Rattle.tab_label.specs.Holding.{ExprHolds, AllHold, SomeHolds}
use Rattle.tab_label.specs.Views.{expr_of, followed}
use Rattle.tab_label.specs.ParserViews.{exprs_of}

module _ (auths : List (List ℕ)) where
  TreeHolds : Tree → Type 0
  TreeHolds t = ExprHolds (expr_of t) auths

  all_from : (ts : List Tree) (xs : Exprs) → AllHold xs auths → ((k : ℕ) (d : Tree) → k < length ts → ExprHolds (expr_of (get_or ts k d)) auths) → AllHold (followed xs (map expr_of ts)) auths
  all_from [] xs h all = h
  all_from (t ∷ ts) xs h all = all_from ts (With xs (expr_of t)) (h, all 0 t (omega arith)) (λ k d lt. all (suc k) d (omega arith))

  all_front : (ts : List Tree) (xs : Exprs) → AllHold (followed xs (map expr_of ts)) auths → AllHold xs auths
  all_front [] xs h = h
  all_front (t ∷ ts) xs h = (all_front ts (With xs (expr_of t)) h).0

  all_at : (ts : List Tree) (xs : Exprs) (k : ℕ) (d : Tree) → k < length ts → AllHold (followed xs (map expr_of ts)) auths → ExprHolds (expr_of (get_or ts k d)) auths
  all_at [] xs k d lt h = absurd (omega arith)
  all_at (t ∷ ts) xs zero d lt h = (all_front ts (With xs (expr_of t)) h).1
  all_at (t ∷ ts) xs (suc k) d lt h = all_at ts (With xs (expr_of t)) k d (omega arith) h

  any_front : (ts : List Tree) (xs : Exprs) → SomeHolds xs auths → SomeHolds (followed xs (map expr_of ts)) auths
  any_front [] xs h = h
  any_front (t ∷ ts) xs h = any_front ts (With xs (expr_of t)) (inl h)

  any_at : (ts : List Tree) (xs : Exprs) (k : ℕ) (d : Tree) → k < length ts → ExprHolds (expr_of (get_or ts k d)) auths → SomeHolds (followed xs (map expr_of ts)) auths
  any_at [] xs k d lt h = absurd (omega arith)
  any_at (t ∷ ts) xs zero d lt h = any_front ts (With xs (expr_of t)) (inr h)
  any_at (t ∷ ts) xs (suc k) d lt h = any_at ts (With xs (expr_of t)) k d (omega arith) h

  none_holds : (ts : List Tree) (xs : Exprs) → (SomeHolds xs auths → ⊥) → ((k : ℕ) (d : Tree) → k < length ts → ExprHolds (expr_of (get_or ts k d)) auths → ⊥) → SomeHolds (followed xs (map expr_of ts)) auths → ⊥
  none_holds [] xs before none h = before h
  none_holds (t ∷ ts) xs before none h = none_holds ts (With xs (expr_of t)) (λ e. elim e [ inl a ↦ before a | inr b ↦ none 0 t (omega arith) b ]) (λ k d lt. none (suc k) d (omega arith)) h

  -- the operands of a joined tree
  pub every_holds : (ts : List Tree) → ((k : ℕ) (d : Tree) → k < length ts → ExprHolds (expr_of (get_or ts k d)) auths) → AllHold (exprs_of ts) auths
  every_holds ts all = all_from ts Start tt all

  pub each_holds : (ts : List Tree) (k : ℕ) (d : Tree) → k < length ts → AllHold (exprs_of ts) auths → ExprHolds (expr_of (get_or ts k d)) auths
  each_holds ts k d lt h = all_at ts Start k d lt h

  pub some_holds : (ts : List Tree) (k : ℕ) (d : Tree) → k < length ts → ExprHolds (expr_of (get_or ts k d)) auths → SomeHolds (exprs_of ts) auths
  some_holds ts k d lt h = any_at ts Start k d lt h

  pub no_operand_holds : (ts : List Tree) → ((k : ℕ) (d : Tree) → k < length ts → ExprHolds (expr_of (get_or ts k d)) auths → ⊥) → SomeHolds (exprs_of ts) auths → ⊥
  no_operand_holds ts none h = none_holds ts Start (λ e. e) none h

-- A joined tree, as the code finds it.
joined_is : (self : Tree) (j k : Joiner) (v : Vec Tree Global) (items : List Tree) → self ≡ trees.Join j v → j ≡ k → items ≡ v.items → expr_of self ≡ JoinOf k (exprs_of items)
joined_is self j k v items is kind same = rw (is, kind, same) (expr_join k v)

module _ (auths : List (List ℕ)) (self : Tree) (j : Joiner) (v : Vec Tree Global) (items : List Tree) (is : self ≡ trees.Join j v) (same : items ≡ v.items) where
  pub and_holds : j ≡ And → ((k : ℕ) (d : Tree) → k < length items → ExprHolds (expr_of (get_or items k d)) auths) → ExprHolds (expr_of self) auths
  and_holds kind all = rw (joined_is self j And v items is kind same) (every_holds auths items all)

  pub and_fails : j ≡ And → (i : ℕ) (x : Tree) → i < length items → x ≡ get_or items i x → (ExprHolds (expr_of x) auths → ⊥) → ExprHolds (expr_of self) auths → ⊥
  and_fails kind i x lt at fails h =
      let whole = rw (joined_is self j And v items is kind same) at h in
      fails (rw at (each_holds auths items i x lt whole))

  pub or_holds : j ≡ Or → (i : ℕ) (x : Tree) → i < length items → x ≡ get_or items i x → ExprHolds (expr_of x) auths → ExprHolds (expr_of self) auths
  or_holds kind i x lt at h = rw (joined_is self j Or v items is kind same) (some_holds auths items i x lt (rw (← at) h))

  pub or_fails : j ≡ Or → ((k : ℕ) (d : Tree) → k < length items → ExprHolds (expr_of (get_or items k d)) auths → ⊥) → ExprHolds (expr_of self) auths → ⊥
  or_fails kind none h = no_operand_holds auths items none (rw (joined_is self j Or v items is kind same) at h)
