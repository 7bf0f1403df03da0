-- Texts of many things, one after another.
use Rattle.std.proofs.Common.{◌≡◌, ℕ, Bool, true, false, cond, List, ◌∷◌, ◌++◌, [], map, refl, sym, ap}
use Rattle.std.specs.Prelude.{filter, Vec}
use Rattle.std.specs.declared.alloc.Global.{Global}
use Rattle.std.specs.List.{flat_map}
use Rattle.std.proofs.lemmas.List.Folds.{flat_map-map}
use Rattle.tab_label.specs.Sets.{byte_lists}
use Rattle.tab_text.specs.Lines.{after_spaces}
use Rattle.tab_replies.specs.Texts.{held_word, auth_text}

-- the words of what is held, behind spaces
pub held_each : {X : Type 0} (c : X → Bool) (f : X → List ℕ) (xs : List X) → flat_map (λ x. held_word (c x) (f x)) xs ≡ after_spaces (map f (filter c xs))
held_each c f [] = refl
held_each {X} c f (x ∷ xs) = go (c x) (held_each c f xs)
  where
    go : (b : Bool) → flat_map (λ y. held_word (c y) (f y)) xs ≡ after_spaces (map f (filter c xs)) → held_word b (f x) ++ flat_map (λ y. held_word (c y) (f y)) xs ≡ after_spaces (map f (cond b (x ∷ filter c xs) (filter c xs)))
    go true ih = ap (λ t. 32 ∷ (f x ++ t)) ih
    go false ih = ih

-- the lines of authorizations as they lie in memory
pub auth_lines : (terms : List (Vec ℕ Global)) → flat_map (λ (v : Vec ℕ Global). auth_text v.items) terms ≡ flat_map auth_text (byte_lists terms)
auth_lines terms = sym (flat_map-map auth_text (λ (v : Vec ℕ Global). v.items) terms)
