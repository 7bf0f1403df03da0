-- What histories read of a core is what its tablets hold.
use Rattle.std.proofs.Common.{◌≡◌, ℕ, List, [], ◌∷◌, Bool, true, false, cond, refl, ◌∙◌, ap}
use Rattle.std.specs.Prelude.{Option, Some, None, option_map, find, map, bytes_eq}
use Rattle.tab_key.specs.Sorted.{sorted}
use Rattle.tab_tablets.specs.ByRow.{records_of_all}
use Rattle.tab_history.specs.Bases.{BaseTable}
use Rattle.tab_history.specs.Readings.{base_settings, base_records, settings_of, updates_of}
use Rattle.tab_store.specs.Stores.{TableContents, base_table_of, table_in, tablets_found}
use Rattle.tab_store.specs.Keeping.{settings_in, BasesRead}

found_base : (q : List ℕ) (ts : List TableContents) → find (λ (u : BaseTable). bytes_eq u.name q) (map base_table_of ts) ≡ option_map base_table_of (find (λ (t : TableContents). bytes_eq t.name q) ts)
found_base q [] = refl
found_base q (t ∷ ts) = go (bytes_eq t.name q) (found_base q ts)
  where
    go : (v : Bool) → find (λ (u : BaseTable). bytes_eq u.name q) (map base_table_of ts) ≡ option_map base_table_of (find (λ (t : TableContents). bytes_eq t.name q) ts)
        → cond v (Some (base_table_of t)) (find (λ (u : BaseTable). bytes_eq u.name q) (map base_table_of ts)) ≡ option_map base_table_of (cond v (Some t) (find (λ (t : TableContents). bytes_eq t.name q) ts))
    go true ih = refl
    go false ih = ih

settings_are : (o : Option TableContents) → base_settings (option_map base_table_of o) ≡ settings_in o
settings_are None = refl
settings_are (Some t) = refl

records_are : (o : Option TableContents) → base_records (option_map base_table_of o) ≡ sorted (records_of_all (tablets_found o))
records_are None = refl
records_are (Some t) = refl

pub bases_read : BasesRead
unfolding settings_of updates_of
bases_read h q = (ap base_settings (found_base q h.tables) ∙ settings_are (table_in h q), ap base_records (found_base q h.tables) ∙ records_are (table_in h q))
