-- The texts of a list's items, put one after another.
use Rattle.std.proofs.Common.{◌≡◌, ℕ, suc, ◌+◌, ◌<◌, List, [], ◌∷◌, ◌++◌, length, get_or, take, drop, refl, sym, ap, ◌∙◌, subst, arith, append_assoc, append-nil, take-append-drop, drop-cons}
use Rattle.std.specs.List.{flat_map}
use Rattle.std.proofs.Math.Seq.{take-suc}
use Rattle.tab_io.specs.Writing.{HasPut, HasPutPart}
use Rattle.tab_io.specs.declared.writing.Output.{Ghosts}
use Rattle.tab_io.proofs.Putting.{put_more, put_part_more, part_longer}

pub flat_map-append : {X : Type 0} (f : X → List ℕ) (a b : List X) → flat_map f (a ++ b) ≡ flat_map f a ++ flat_map f b
flat_map-append f [] b = refl
flat_map-append f (x ∷ xs) b = ap (λ t. f x ++ t) (flat_map-append f xs b) ∙ sym (append_assoc (f x) (flat_map f xs) (flat_map f b))

-- one more
each_one : {X : Type 0} (f : X → List ℕ) (xs : List X) (i : ℕ) (d : X) → i < length xs → flat_map f (take (i + 1) xs) ≡ flat_map f (take i xs) ++ f (get_or xs i d)
each_one f xs i d lt =
    let x = get_or xs i d in
    let more : i + 1 ≡ suc i = omega arith in
    ap (λ n. flat_map f (take n xs)) more ∙ ap (flat_map f) (take-suc xs i d lt) ∙ flat_map-append f (take i xs) (x ∷ []) ∙ ap (λ t. flat_map f (take i xs) ++ t) (append-nil (f x))

-- those before, this one, and those behind it
each_round : {X : Type 0} (f : X → List ℕ) (xs : List X) (i : ℕ) (d : X) → i < length xs → flat_map f (take i xs) ++ (f (get_or xs i d) ++ flat_map f (drop (suc i) xs)) ≡ flat_map f xs
each_round f xs i d lt =
    ap (λ vs. flat_map f (take i xs) ++ flat_map f vs) (sym (drop-cons xs i d lt)) ∙ sym (flat_map-append f (take i xs) (drop i xs)) ∙ ap (flat_map f) (take-append-drop i xs)

-- those before were put, and then this one
pub each_more : {X W : Type 0} {g : Ghosts W} {a b c : W} (f : X → List ℕ) (xs : List X) (i : ℕ) (d : X) → i < length xs
    → HasPut g a b (flat_map f (take i xs)) → HasPut g b c (f (get_or xs i d)) → HasPut g a c (flat_map f (take (i + 1) xs))
each_more {g = g} {a = a} {c = c} f xs i d lt p q = subst (λ t. HasPut g a c t) (sym (each_one f xs i d lt)) (put_more p q)

-- those before were put, and of this one a beginning
pub each_part : {X W : Type 0} {g : Ghosts W} {a b c : W} (f : X → List ℕ) (xs : List X) (i : ℕ) (d : X) → i < length xs
    → HasPut g a b (flat_map f (take i xs)) → HasPutPart g b c (f (get_or xs i d)) → HasPutPart g a c (flat_map f xs)
each_part {g = g} {a = a} {c = c} f xs i d lt p q = subst (λ t. HasPutPart g a c t) (each_round f xs i d lt) (put_part_more p (part_longer (flat_map f (drop (suc i) xs)) q))
