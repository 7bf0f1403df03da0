-- What a user may read of a base: the same, with only the records whose label holds.
use Rattle.std.proofs.Common.{◌≡◌, ℕ, ◌<◌, List, [], ◌∷◌, Bool, true, false, cond, refl, ◌∙◌, ap, inl, inr}
use Rattle.std.specs.Prelude.{Option, Some, None, option_map, bytes_eq, filter, find, map}
use Rattle.tab_key.specs.Records.{Record}
use Rattle.std.specs.List.{AllByRecursion}
use Rattle.tab_key.specs.Order.{NumbersBelow}
use Rattle.tab_key.specs.Sorted.{IsIn}
use Rattle.tab_key.proofs.Rising.{in_to}
use Rattle.tab_label.specs.Holding.{label_holds}
use Rattle.tab_history.specs.Bases.{Base, BaseTable}
use Rattle.tab_history.specs.Histories.{world_of}
use Rattle.tab_history.specs.Readings.{base_table, base_settings, base_records, next_number, updates_of}
use Rattle.tab_history.specs.Refinement.{IsSound}

each_from : (P : Record → Type 0) (xs : List Record) → ((u : Record) → IsIn xs u → P u) → AllByRecursion P xs
each_from P [] f = tt
each_from P (x ∷ xs) f = (f x (inl refl), each_from P xs (λ u h. f u (inr h)))

module _ (held : List (List ℕ)) where
  -- whether the user may ever read the record
  abbrev pub seen : Record → Bool
  seen u = label_holds u.key.label held

  -- a table with the records that he may read
  abbrev pub table_seen : BaseTable → BaseTable
  table_seen t = record t { records = filter seen t.records }

  -- a base with the records that he may read
  abbrev pub base_seen : Base → Base
  base_seen b = record b { tables = map table_seen b.tables }

  found : (ts : List BaseTable) (t : List ℕ) → find (λ (u : BaseTable). bytes_eq u.name t) (map table_seen ts) ≡ option_map table_seen (find (λ (u : BaseTable). bytes_eq u.name t) ts)
  found [] t = refl
  found (u ∷ us) t = go (bytes_eq u.name t) (found us t)
    where
      go : (v : Bool) → find (λ (x : BaseTable). bytes_eq x.name t) (map table_seen us) ≡ option_map table_seen (find (λ (x : BaseTable). bytes_eq x.name t) us)
          → cond v (Some (table_seen u)) (find (λ (x : BaseTable). bytes_eq x.name t) (map table_seen us)) ≡ option_map table_seen (cond v (Some u) (find (λ (x : BaseTable). bytes_eq x.name t) us))
      go true ih = refl
      go false ih = ih

  -- its tables are set as they were
  pub base_settings_seen : (b : Base) (t : List ℕ) → base_settings (base_table (base_seen b) t) ≡ base_settings (base_table b t)
  base_settings_seen b t = ap base_settings (found b.tables t) ∙ go (base_table b t)
    where
      go : (o : Option BaseTable) → base_settings (option_map table_seen o) ≡ base_settings o
      go None = refl
      go (Some u) = refl

  -- and have the records that he may read
  pub base_records_seen : (b : Base) (t : List ℕ) → base_records (base_table (base_seen b) t) ≡ filter seen (base_records (base_table b t))
  base_records_seen b t = ap base_records (found b.tables t) ∙ go (base_table b t)
    where
      go : (o : Option BaseTable) → base_records (option_map table_seen o) ≡ filter seen (base_records o)
      go None = refl
      go (Some u) = refl

-- of a sound base all numbers are used up
pub sound_below : (b : Base) → IsSound (world_of b) → (t : List ℕ) → NumbersBelow b.next (base_records (base_table b t))
unfolding updates_of next_number
sound_below b sound t = each_from (λ r. r.seq < b.next) _ (λ u h. (sound t).1 u (in_to _ u h))
