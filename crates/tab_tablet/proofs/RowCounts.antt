-- How many records of some lists have rows in bounds, list by list.
use Rattle.std.proofs.Common.{◌≡◌, ◌+◌, List, ◌++◌, Bool, ◌∙◌, ap, length}
use Rattle.std.specs.Prelude.{filter}
use Rattle.std.proofs.lemmas.List.{length-append}
use Rattle.tab_key.specs.Records.{Record}
use Rattle.tab_cells.proofs.Lists.{filter_append}

-- with one more list
pub counted_next : (p : Record → Bool) (xs run us : List Record) → us ≡ xs ++ run → length (filter p us) ≡ length (filter p xs) + length (filter p run)
counted_next p xs run us e = ap (λ l. length (filter p l)) e ∙ ap length (filter_append p xs run) ∙ length-append (filter p xs) (filter p run)
