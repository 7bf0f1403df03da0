-- What stood in front stays there when more is put behind it.
use Rattle.std.proofs.Common.{◌≡◌, ◌≤◌, List, [], ◌∷◌, ◌++◌, sym, ◌∙◌, ap, subst, length, take, drop, arith}
use Rattle.std.proofs.lemmas.List.{take-append-drop, take-append-le, length-take}

-- the front of a front
pub same_front : {X : Type 0} (a b c : List X) → take (length a) b ≡ a → take (length b) c ≡ b → take (length a) c ≡ a
same_front {X = X} a b c f g =
    let short : length a ≤ length b = omega (arith, ap length f, length-take (length a) b) in
    let grown : b ++ drop (length b) c ≡ c = subst (λ (xs : List X). xs ++ drop (length b) c ≡ c) g (take-append-drop (length b) c) in
    ap (take (length a)) (sym grown) ∙ take-append-le (length a) b (drop (length b) c) short ∙ f

-- .. and of what has one more behind it
pub front_pushed : {X : Type 0} (a b : List X) (x : X) → take (length a) b ≡ a → take (length a) (b ++ x ∷ []) ≡ a
front_pushed a b x f =
    let short : length a ≤ length b = omega (arith, ap length f, length-take (length a) b) in
    take-append-le (length a) b (x ∷ []) short ∙ f
