-- Members that contracts see whole.
use Rattle.std.proofs.Common.{◌≡◌, List, [], ◌∷◌, refl, ap, ◌∙◌, Option, Some}
use Rattle.std.specs.Prelude.{map, Vec, Result, Ok, Err}
use Rattle.std.specs.declared.alloc.Global.{Global}
use Rattle.tab_text.specs.declared.parse_error.ParseError.{ParseError}
use Rattle.tab_text.specs.Gives.{Gives}

map_whole : {A : Type 0} (xs : List A) → map (λ x. x) xs ≡ xs
map_whole [] = refl
map_whole (x ∷ xs) = ap (λ ys. x ∷ ys) (map_whole xs)

-- a list of members that are seen as they are
pub seen_whole : {A : Type 0} (r : Result (Vec A Global) ParseError) (read : Option (List A)) → Gives (λ v. map (λ x. x) v.items) r read → Gives (λ v. v.items) r read
seen_whole (Ok v) read is = is ∙ ap (λ (xs : List _). Some xs) (map_whole v.items)
seen_whole (Err e) read is = is
