-- What holds under some authorizations holds under more.
use Rattle.std.proofs.Common.{◌≡◌, ℕ, List, true, Result, Ok, Err, refl, inl, inr}
use Rattle.tab_label.specs.declared.joiner.Joiner.TheVariants.{And, Or}
use Rattle.tab_label.specs.Grammar.{Expr, TermOf, JoinOf, Exprs, Start, With, Label, All_see, Only_if}
use Rattle.tab_label.specs.Reading.{label_of}
use Rattle.tab_label.specs.Holding.{expr_holds, all_hold, some_holds, read_holds, label_holds}
use Rattle.tab_label.specs.Laws.{IsSubset}
use Rattle.tab_label.proofs.BoolLemmas.{both, either, from_both, from_either}

module _ (few many : List (List ℕ)) (within : IsSubset few many) where
  mutual
    expr_more : (e : Expr) → expr_holds e few ≡ true → expr_holds e many ≡ true
    expr_more (TermOf term) h = within term h
    expr_more (JoinOf And xs) h = all_more xs h
    expr_more (JoinOf Or xs) h = some_more xs h

    all_more : (xs : Exprs) → all_hold xs few ≡ true → all_hold xs many ≡ true
    all_more Start h = refl
    all_more (With xs x) h = from_both _ _ (all_more xs (both (all_hold xs few) (expr_holds x few) h).0) (expr_more x (both (all_hold xs few) (expr_holds x few) h).1)

    some_more : (xs : Exprs) → some_holds xs few ≡ true → some_holds xs many ≡ true
    some_more Start h = h
    some_more (With xs x) h = from_either _ _ (elim (either (some_holds xs few) (expr_holds x few) h) [ inl a ↦ inl (some_more xs a) | inr b ↦ inr (expr_more x b) ])

  read_more : (r : Result Label ℕ) → read_holds r few ≡ true → read_holds r many ≡ true
  read_more (Ok All_see) h = refl
  read_more (Ok (Only_if e)) h = expr_more e h
  read_more (Err offset) h = h

  pub label_more : (text : List ℕ) → label_holds text few ≡ true → label_holds text many ≡ true
  label_more text h = read_more (label_of text) h
