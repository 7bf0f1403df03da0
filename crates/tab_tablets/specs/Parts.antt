-- To be believed by whoever relies on it. Compactions in parts: a merge begins in one of the tablets of a table, and is installed there. (Accumulo user manual: minor and major
-- compactions)
use Rattle.std.specs.Prelude.{ℕ, ℤ, List, [], ◌∷◌, ◌==◌, cond, Option, Some, None}
use Rattle.std.specs.Option.{option_map}
use Rattle.tab_cells.specs.declared.compaction.Compaction.{Compaction}
use Rattle.tab_tablet.specs.Merges.{Merge}
use Rattle.tab_tablet.specs.Tablets.{Tablet, capture, begins, installed}
use Rattle.tab_tablet.specs.declared.installed.Installed.{Installed}
use Rattle.tab_tablet.specs.declared.installed.Installed.TheVariants.{Stale}
use Rattle.tab_tablets.specs.ByRow.{at_row, tablet_of}

-- a merge of one of the tablets of a table, and the row for which that was found
pub record TabletMerge : Type 0 where
  pub row : List ℕ
  pub merge : Merge

-- the merge with this number that a compaction of this tablet begins with, if there is a tablet and anything to merge
abbrev pub capture_in : ℕ → Compaction → ℤ → ℕ → Option Tablet → Option Merge
capture_in number kind floor n None = None
capture_in number kind floor n (Some t) = capture number kind floor n t

-- a merge, if there is one, with the row for which its tablet was found
abbrev pub found_for : List ℕ → Option Merge → Option TabletMerge
found_for row o = option_map (λ m. record { row = row; merge = m }) o

-- the merge that begins in the tablet that holds the row, which there always is
abbrev pub begun_at : List ℕ → ℕ → Compaction → ℤ → ℕ → List Tablet → Option TabletMerge
begun_at row number kind floor n ts = found_for row (capture_in number kind floor n (tablet_of row ts))

-- the tablets then
abbrev pub begins_at : List ℕ → ℕ → Compaction → ℤ → ℕ → List Tablet → List Tablet
begins_at row number kind floor n ts = at_row row (λ t. begins number kind floor n t ∷ []) ts

-- A finished merge is installed in this tablet, which holds its row, if it is the one with its number still: a tablet keeps its rows for as
-- long as it has its number.
abbrev pub installed_in : TabletMerge → Option Tablet → List Tablet → Installed × List Tablet
installed_in m None ts = (Stale 0, ts)
installed_in m (Some t) ts = cond (t.number == m.merge.tablet) ((installed m.merge t).0, at_row m.row (λ x. (installed m.merge x).1 ∷ []) ts) (Stale 0, ts)

-- in the tablet that it was begun in
abbrev pub installs_in : TabletMerge → List Tablet → Installed × List Tablet
installs_in m ts = installed_in m (tablet_of m.row ts) ts
