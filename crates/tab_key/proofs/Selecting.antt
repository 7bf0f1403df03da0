-- Columns that a scan names.
use Rattle.std.proofs.Common.{◌≡◌, ◌≢◌, List, [], ◌∷◌, refl}
use Rattle.std.specs.List.{list_any}
use Rattle.tab_key.specs.Records.{Key}
use Rattle.tab_key.specs.Columns.{selects, is_selected}
use Rattle.tab_key.specs.declared.column.Column.{Column}

-- where columns are named, one of them has to take the key
pub selected_of_some : (columns : List Column) (key : Key) → columns ≢ [] → is_selected columns key ≡ list_any (λ c. selects c key) columns
selected_of_some [] key named = absurd (named refl)
selected_of_some (c ∷ cs) key named = refl
