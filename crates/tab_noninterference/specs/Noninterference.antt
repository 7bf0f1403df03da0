-- To be believed. Noninterference: two worlds that look alike to a user answer him alike.
use Rattle.std.specs.Prelude.{◌≡◌, ℕ, List}
use Rattle.tab_history.specs.Bases.{Base, new_core}
use Rattle.tab_history.specs.Histories.{Entry, world_of}
use Rattle.tab_history.specs.Legal.{Legal, IsAmple}
use Rattle.tab_history.specs.Refinement.{IsSound}
use Rattle.tab_noninterference.specs.Views.{view}
use Rattle.tab_noninterference.specs.Hearing.{heard}

-- Two legal histories from this base, in which nothing ran out, and of which a user sees the same, tell him the same.
abbrev pub IsNoninterfering : Base → Type 0
IsNoninterfering b = (user : List ℕ) (h k : List Entry) → Legal (world_of b) h → Legal (world_of b) k → IsAmple h → IsAmple k
    → view b user h ≡ view b user k → heard user (world_of b) h ≡ heard user (world_of b) k

-- The law: so it is from a new core.
abbrev pub Noninterference : Type 0
Noninterference = IsNoninterfering new_core

-- The law: so it is from each sound base, as from what a core holds that was loaded.
abbrev pub NoninterferenceFromABase : Type 0
NoninterferenceFromABase = (b : Base) → IsSound (world_of b) → IsNoninterfering b
