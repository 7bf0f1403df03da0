-- The answers of both parts of a list are those of the whole.
use Rattle.std.proofs.Common.{◌≡◌, List, ◌++◌, sym, ◌∙◌, ap, map}
use Rattle.std.proofs.lemmas.List.{map-append}

-- what both parts of a list give, in one list
pub both_answered : {X Y : Type 0} (f : X → Y) (whole front back : List X) (first more all : List Y)
    → whole ≡ front ++ back → first ≡ map f front → more ≡ map f back → all ≡ first ++ more
    → all ≡ map f whole
both_answered f whole front back first more all cut one other joined =
    joined ∙ (λ i. one i ++ other i) ∙ sym (map-append f front back) ∙ ap (map f) (sym cut)
