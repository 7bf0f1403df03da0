-- What holds of each item, gathered item by item.
use Rattle.std.proofs.Common.{◌≡◌, ℕ, suc, ◌+◌, ◌<◌, List, [], ◌∷◌, ◌++◌, length, get_or, take, sym, ap, ◌∙◌, subst, arith}
use Rattle.std.specs.List.{AllByRecursion}
use Rattle.std.proofs.Math.Seq.{take-suc}

module _ {X : Type 0} (P : X → Type 0) where
  pub all_join : (xs ys : List X) → AllByRecursion P xs → AllByRecursion P ys → AllByRecursion P (xs ++ ys)
  all_join [] ys a b = b
  all_join (x ∷ xs) ys a b = (a.0, all_join xs ys a.1 b)

  -- those before, and one more
  pub taken_more : (xs : List X) (i : ℕ) (d : X) → i < length xs → AllByRecursion P (take i xs) → P (get_or xs i d) → AllByRecursion P (take (i + 1) xs)
  taken_more xs i d lt a p =
      let more : i + 1 ≡ suc i = omega arith in
      subst (AllByRecursion P) (sym (ap (λ n. take n xs) more ∙ take-suc xs i d lt)) (all_join (take i xs) (get_or xs i d ∷ []) a (p, tt))

  -- from the front: if those that are left are so, all are
  pub one_less : (all left rest : List X) (x : X) → (AllByRecursion P left → AllByRecursion P all) → left ≡ x ∷ rest → P x → AllByRecursion P rest → AllByRecursion P all
  one_less all left rest x f e p a = f (subst (AllByRecursion P) (sym e) (p, a))

  pub none_less : (all left : List X) → (AllByRecursion P left → AllByRecursion P all) → left ≡ [] → AllByRecursion P all
  none_less all left f e = f (subst (AllByRecursion P) (sym e) tt)
