-- Records that are picked one after another.
use Rattle.std.proofs.Common.{◌≡◌, List, [], ◌∷◌, ◌++◌, Bool, true, false, cond, sym, ◌∙◌, ap, append_assoc, append-nil}
use Rattle.std.specs.Prelude.{filter}
use Rattle.std.proofs.lemmas.List.Elements.{filter-append}
use Rattle.tab_key.specs.Records.{Record}

module _ (p : Record → Bool) where
  -- one alone
  pub it_passes : (r : Record) → p r ≡ true → filter p (r ∷ []) ≡ r ∷ []
  it_passes r e = ap (λ v. cond v (r ∷ []) []) e

  pub it_fails : (r : Record) → p r ≡ false → filter p (r ∷ []) ≡ []
  it_fails r e = ap (λ v. cond v (r ∷ []) []) e

  -- the first of those that are left goes behind those that were picked, if it passes
  pub picked_one : (xs now left more all : List Record) (r : Record) → now ≡ xs ++ filter p (r ∷ []) → left ≡ r ∷ more → xs ++ filter p left ≡ all → now ++ filter p more ≡ all
  picked_one xs now left more all r e f g =
      ap (λ l. l ++ filter p more) e
      ∙ append_assoc xs (filter p (r ∷ [])) (filter p more)
      ∙ ap (λ l. xs ++ l) (sym (filter-append p (r ∷ []) more))
      ∙ ap (λ l. xs ++ filter p l) (sym f)
      ∙ g

  -- when none is left
  pub picked_all : (xs left all : List Record) → left ≡ [] → xs ++ filter p left ≡ all → xs ≡ all
  picked_all xs left all none g = sym (append-nil xs) ∙ ap (λ l. xs ++ filter p l) (sym none) ∙ g
