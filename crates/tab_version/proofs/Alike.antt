-- Lists of records have the same contents as themselves.
use Rattle.std.proofs.Common.{◌≡◌, List, [], ◌∷◌, Bool, true, refl, sym, ◌∙◌, ap}
use Rattle.tab_key.specs.Records.{Record}
use Rattle.tab_key.proofs.SameRecords.{record_itself}
use Rattle.tab_version.specs.Sources.{same_record, same_lists, same_contents}

list_itself : {X : Type 0} (same : X → X → Bool) → ((x : X) → same x x ≡ true) → (xs : List X) → same_lists same xs xs ≡ true
list_itself same f [] = refl
list_itself same f (x ∷ xs) = rw (f x) (list_itself same f xs)

pub contents_itself : (xs : List Record) → same_contents xs xs ≡ true
unfolding same_contents
contents_itself xs = list_itself same_record record_itself xs

pub contents_alike : (xs ys : List Record) → xs ≡ ys → same_contents xs ys ≡ true
contents_alike xs ys e = ap (same_contents xs) (sym e) ∙ contents_itself xs
