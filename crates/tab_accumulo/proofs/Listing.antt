-- The option that says which authorizations there are.
use Rattle.std.proofs.Common.{◌≡◌, ℕ, ◌<◌, List, [], ◌∷◌, length, get_or, drop, refl, sym, ap, arith}
use Rattle.std.specs.Prelude.{codes, Vec}
use Rattle.std.specs.declared.alloc.Global.{Global}
use Rattle.std.proofs.lemmas.List.Folds.{flat_map-map}
use Rattle.tab_label.specs.Sets.{byte_lists}
use Rattle.tab_accumulo.specs.Words.{joined, listed}

-- the first one, and then the others
pub listed_first : {A : Type 0} (f : A → List ℕ) (xs others : List A) (d : A) → 0 < length xs → others ≡ drop 1 xs → listed f (get_or xs 0 d ∷ others) ≡ listed f xs
listed_first f [] others d some is = absurd (omega arith)
listed_first f (x ∷ xs) others d some is = ap (λ ys. listed f (x ∷ ys)) is

-- authorizations as they lie in memory
pub listed_terms : (f : List ℕ → List ℕ) (terms : List (Vec ℕ Global)) → listed (λ (v : Vec ℕ Global). f v.items) terms ≡ listed f (byte_lists terms)
listed_terms f [] = refl
listed_terms f (v ∷ vs) = ap (λ t. joined (codes "-s \"" ∷ f v.items ∷ t ∷ codes "\"" ∷ [])) (sym (flat_map-map (λ y. 44 ∷ f y) (λ (v : Vec ℕ Global). v.items) vs))
