-- To be believed. The columns that a scan names. (Accumulo user manual: fetching columns)
use Rattle.std.specs.Prelude.{List, [], ◌∷◌, Bool, true, ◌&&◌, bytes_eq}
use Rattle.std.specs.List.{list_any}
use Rattle.tab_key.specs.Records.{Key}
use Rattle.tab_key.specs.declared.column.Column.{Column}
use Rattle.tab_key.specs.declared.column.Column.TheVariants.{Family, Qualified}

-- a family alone takes each of its qualifiers
abbrev pub selects : Column → Key → Bool
selects (Family f) key = bytes_eq f key.family
selects (Qualified f q) key = bytes_eq f key.family && bytes_eq q key.qualifier

-- no column means all columns
abbrev pub is_selected : List Column → Key → Bool
is_selected [] key = true
is_selected (c ∷ cs) key = list_any (λ t. selects t key) (c ∷ cs)
