-- A source that is copied, record by record.
use Rattle.std.proofs.Common.{◌≡◌, List, [], ◌∷◌, ◌++◌, ◌∙◌, ap, append_assoc}
use Rattle.std.specs.Prelude.{Some, None}
use Rattle.tab_key.specs.Records.{Record}
use Rattle.tab_iter.specs.Lists.{first_of, tail}

pub copied_one : (done now left after all : List Record) (r : Record) → done ++ left ≡ all → Some r ≡ first_of left → now ≡ done ++ r ∷ [] → after ≡ tail left → now ++ after ≡ all
copied_one done now [] after all r e f n a = absurd (let bad : Some r ≡ None = f in cc)
copied_one done now (x ∷ xs) after all r e f n a =
    let is : r ≡ x = cc in
    (λ i. n i ++ a i) ∙ append_assoc done (r ∷ []) xs ∙ ap (λ u. done ++ u ∷ xs) is ∙ e
