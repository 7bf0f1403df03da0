-- One work more with its target.
use Rattle.std.proofs.Common.{◌≡◌, ℕ, ◌+◌, ◌<◌, List, [], ◌∷◌, ◌++◌, refl, sym, ◌∙◌, ap, length, take, get_or}
use Rattle.std.specs.Prelude.{Option, Some, None}
use Rattle.std.specs.List.{filter_map}
use Rattle.std.specs.Option.{option_to_list}
use Rattle.std.proofs.lemmas.List.{take_more}
use Rattle.std.proofs.lemmas.List.Elements.{filter_map-append}

module _ {X Y : Type 0} (f : X → Option Y) where
  alone : (x : X) (o : Option Y) → f x ≡ o → filter_map f (x ∷ []) ≡ option_to_list o
  alone x (Some y) e = rw e refl
  alone x None e = rw e refl

  pub one_more : (xs : List X) (i : ℕ) (d : X) (o : Option Y) (before after : List Y) → i < length xs → o ≡ f (get_or xs i d) → before ≡ filter_map f (take i xs) → after ≡ before ++ option_to_list o → after ≡ filter_map f (take (i + 1) xs)
  one_more xs i d o before after lt told so_far grown =
      grown
      ∙ (λ k. so_far k ++ sym (alone (get_or xs i d) o (sym told)) k)
      ∙ sym (filter_map-append f (take i xs) (get_or xs i d ∷ []))
      ∙ ap (filter_map f) (sym (take_more xs i d lt))
