-- For proofs. What each tablet of a core refines: the updates in its rows, of every history that the core refines.
use Rattle.std.specs.Prelude.{◌≡◌, ℕ, List, Some}
use Rattle.tab_history.specs.Settings.{Settings}
use Rattle.tab_history.specs.Held.{floor_of}
use Rattle.tab_history.specs.Readings.{settings_of, next_number, updates_of}
use Rattle.tab_history.specs.Histories.{World, world_of}
use Rattle.tab_history.specs.Refinement.{Refines}
use Rattle.tab_store.specs.Stores.{CoreContents, base_of, tablets_in}
use Rattle.tab_store.specs.Keeping.{TabletsRefine}

-- Where the core refines a world, the tablets of each table that there is in it refine the updates that it has of this table, each those in
-- its rows.
abbrev pub TabletsRefineWorlds : CoreContents → Type 0
TabletsRefineWorlds h = (w : World) → Refines (world_of (base_of h)) w → (t : List ℕ) (s : Settings) → settings_of w.base w.changes t ≡ Some s
    → TabletsRefine (tablets_in h t) (updates_of w.base w.changes t) (next_number w.base w.changes) s.versions (floor_of s.time w.clock s.horizon)
