-- To be believed by whoever relies on it. The kinds of compactions.
use Rattle.std.specs.Prelude.{Bool, true, false}
use Rattle.tab_cells.specs.declared.compaction.Compaction.{Compaction}
use Rattle.tab_cells.specs.declared.compaction.Compaction.TheVariants.{Minor, Partial, Full}

-- whether it merges all that a tablet holds
abbrev pub is_full : Compaction → Bool
is_full Minor = false
is_full Partial = false
is_full Full = true
