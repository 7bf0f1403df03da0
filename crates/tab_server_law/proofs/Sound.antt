-- A base that some world refines is sound.
use Rattle.std.proofs.Common.{◌≡◌, ◌<◌, [], refl, ap, subst}
use Rattle.std.specs.Prelude.{List, Option, Some, None, Contains}
use Rattle.tab_key.specs.Records.{Record}
use Rattle.tab_key.specs.Sorted.{IsDistinct}
use Rattle.tab_key.proofs.Rising.{in_from}
use Rattle.tab_history.specs.Bases.{Base, BaseTable}
use Rattle.tab_history.specs.Settings.{Settings}
use Rattle.tab_history.specs.Histories.{World, world_of}
use Rattle.tab_history.specs.Held.{floor_of, RefinesTable}
use Rattle.tab_history.specs.Readings.{base_table, base_settings, base_records, settings_of, next_number, updates_of}
use Rattle.tab_history.specs.Refinement.{Refines, IsSound}

pub refined_is_sound : (b : Base) (v : World) → Refines v (world_of b) → IsSound (world_of b)
unfolding updates_of settings_of next_number
refined_is_sound b v refines t = go (base_table b t) refl
  where
    -- the records of v refine these, which the table would have with these settings
    RefinesThese : List Record → Settings → Type 0
    RefinesThese us s = RefinesTable (updates_of v.base v.changes t) us b.next s.versions (floor_of s.time b.clock s.horizon)

    go : (o : Option BaseTable) → base_table b t ≡ o → IsDistinct (base_records o) × ((u : Record) → Contains (base_records o) u → u.seq < b.next)
    go None e = (tt, λ u c. absurd (in_from [] u c))
    go (Some table) e =
        let refined : RefinesThese (base_records (base_table b t)) table.settings = refines.tables t table.settings (ap base_settings e) in
        let here : RefinesThese table.records table.settings = subst (λ o. RefinesThese (base_records o) table.settings) e refined in
        (here.updates_once, here.numbered)
