-- The test whether a label holds and the fact that it does agree.
use Rattle.std.proofs.Common.{◌≡◌, ℕ, ◌↔◌, inl, inr, Bool, true, List, refl}
use Rattle.tab_label.specs.declared.joiner.Joiner.TheVariants.{And, Or}
use Rattle.tab_label.specs.Grammar.{Expr, TermOf, JoinOf, Exprs, Start, With, Label, All_see, Only_if}
use Rattle.tab_label.specs.Holding.{expr_holds, all_hold, some_holds, ExprHolds, AllHold, SomeHolds, Holds, holds}
use Rattle.tab_label.proofs.BoolLemmas.{both, either, from_both, from_either, same_test}
use Rattle.tab_label.proofs.SetLemmas.{has_is}

mutual
  expr_so : (e : Expr) (auths : List (List ℕ)) → expr_holds e auths ≡ true → ExprHolds e auths
  expr_so (TermOf bytes) auths h = (has_is auths bytes).0 h
  expr_so (JoinOf And xs) auths h = all_so xs auths h
  expr_so (JoinOf Or xs) auths h = any_so xs auths h

  all_so : (xs : Exprs) (auths : List (List ℕ)) → all_hold xs auths ≡ true → AllHold xs auths
  all_so Start auths h = tt
  all_so (With xs x) auths h = (all_so xs auths (both (all_hold xs auths) (expr_holds x auths) h).0, expr_so x auths (both (all_hold xs auths) (expr_holds x auths) h).1)

  any_so : (xs : Exprs) (auths : List (List ℕ)) → some_holds xs auths ≡ true → SomeHolds xs auths
  any_so Start auths h = absurd cc
  any_so (With xs x) auths h = elim (either (some_holds xs auths) (expr_holds x auths) h) [ inl a ↦ inl (any_so xs auths a) | inr b ↦ inr (expr_so x auths b) ]

mutual
  so_expr : (e : Expr) (auths : List (List ℕ)) → ExprHolds e auths → expr_holds e auths ≡ true
  so_expr (TermOf bytes) auths h = (has_is auths bytes).1 h
  so_expr (JoinOf And xs) auths h = so_all xs auths h
  so_expr (JoinOf Or xs) auths h = so_any xs auths h

  so_all : (xs : Exprs) (auths : List (List ℕ)) → AllHold xs auths → all_hold xs auths ≡ true
  so_all Start auths h = refl
  so_all (With xs x) auths h = from_both (all_hold xs auths) (expr_holds x auths) (so_all xs auths h.0) (so_expr x auths h.1)

  so_any : (xs : Exprs) (auths : List (List ℕ)) → SomeHolds xs auths → some_holds xs auths ≡ true
  so_any Start auths h = absurd h
  so_any (With xs x) auths h = from_either (some_holds xs auths) (expr_holds x auths) (elim h [ inl a ↦ inl (so_any xs auths a) | inr b ↦ inr (so_expr x auths b) ])

pub holds_is : (m : Label) (auths : List (List ℕ)) → (holds m auths ≡ true) ↔ Holds m auths
holds_is All_see auths = (λ h. tt, λ h. refl)
holds_is (Only_if e) auths = (expr_so e auths, so_expr e auths)

-- an answer that is true exactly where the label holds is the test's
pub holds_test : (r : Bool) (m : Label) (auths : List (List ℕ)) → (r ≡ true) ↔ Holds m auths → r ≡ holds m auths
holds_test r m auths h = same_test r (holds m auths) (λ e. (holds_is m auths).1 (h.0 e)) (λ e. h.1 ((holds_is m auths).0 e))
