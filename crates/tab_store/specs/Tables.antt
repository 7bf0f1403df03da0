-- To be believed by whoever relies on it. Tables by name, and what calls change of them.
use Rattle.std.specs.Prelude.{ℕ, ℤ, List, [], ◌∷◌, Option, Some, None, cond, find, bytes_eq}
use Rattle.std.specs.Option.{option_map}
use Rattle.tab_key.specs.Records.{Record}
use Rattle.tab_rules.specs.declared.constraint.Constraint.{Constraint}
use Rattle.tab_tablets.specs.Tablets.{Tablet, new_tablet}
use Rattle.tab_cells.specs.declared.compaction.Compaction.{Compaction}
use Rattle.tab_tablets.specs.Parts.{TabletMerge, begun_at}
use Rattle.tab_tablets.specs.Restored.{restored}
use Rattle.tab_history.specs.Settings.{Settings, made_with}
use Rattle.tab_history.specs.Held.{floor_of}
use Rattle.tab_history.specs.declared.event.TimeMode.{TimeMode}
use Rattle.tab_store.specs.declared.setting.Setting.{Setting}
use Rattle.tab_store.specs.declared.setting.Setting.TheVariants.{Constraints, Versions, Horizon}
use Rattle.tab_store.specs.Stores.{TableContents}

-- a table without its name
pub record TableState : Type 0 where
  pub settings : Settings
  pub tablets : List Tablet

-- a table under its name
abbrev pub named_table : List ℕ × TableState → TableContents
named_table e = record { name = e.0; settings = e.1.settings; tablets = e.1.tablets }

-- a table as it is made: one tablet with this number, that of all rows
abbrev pub made_table : TimeMode → ℕ → ℕ → TableState
made_table time versions number = record { settings = made_with time versions; tablets = new_tablet number None ∷ [] }

-- a table as it is restored: with these settings, and tablets that are numbered from this number on, end at these rows and hold these records
abbrev pub restored_table : TimeMode → ℕ → List Constraint → ℤ → ℕ → List (List ℕ) → List Record → TableState
restored_table time versions constraints horizon number ends us = record { settings = record { time = time; versions = versions; constraints = constraints; horizon = horizon }; tablets = restored number ends us }

-- the table with its tablets changed so
abbrev pub with_tablets : (List Tablet → List Tablet) → TableState → TableState
with_tablets f t = record t { tablets = f t.tablets }

-- the settings with one of them put in place of what it was
abbrev pub set_so : Setting → Settings → Settings
set_so (Constraints cs) s = record s { constraints = cs }
set_so (Versions many) s = record s { versions = many }
set_so (Horizon low) s = record s { horizon = low }

-- the table set so
abbrev pub with_setting : Setting → TableState → TableState
with_setting setting t = record t { settings = set_so setting t.settings }

-- the table of this name, without the name
abbrev pub state_of : TableContents → TableState
state_of t = record { settings = t.settings; tablets = t.tablets }

abbrev pub table_at : List TableContents → List ℕ → Option TableState
table_at ts q = option_map state_of (find (λ (t : TableContents). bytes_eq t.name q) ts)

-- the table of the name q once f has changed the one of the name n, if there is one
abbrev pub changed_table : List ℕ → (TableState → TableState) → List TableContents → List ℕ → Option TableState
changed_table n f ts q = cond (bytes_eq n q) (option_map f (table_at ts q)) (table_at ts q)

-- what a table that may be missing is set to
abbrev pub settings_at : Option TableState → Option Settings
settings_at o = option_map (λ (t : TableState). t.settings) o

-- the tablets of a table that may be missing
abbrev pub tablets_of : Option TableState → List Tablet
tablets_of None = []
tablets_of (Some t) = t.tablets

-- the merge that begins in the tablet of a table that holds the row, at this moment; none of a table that is missing
abbrev pub begun_in : List ℕ → ℕ → Compaction → ℤ → Option TableState → Option TabletMerge
begun_in row number kind now None = None
begun_in row number kind now (Some t) = begun_at row number kind (floor_of t.settings.time now t.settings.horizon) t.settings.versions t.tablets
