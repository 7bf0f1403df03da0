-- To be believed by whoever relies on it. What came of a file line, and its text.
use Rattle.std.specs.Prelude.{ℕ, List, [], ◌∷◌, codes, Ok, Err}
use Rattle.std.specs.Fmt.{decimal}
use Rattle.tab_core.specs.Stores.{CoreContents}
use Rattle.tab_lines.specs.declared.file_line.FileKind.{FileKind}
use Rattle.tab_lines.specs.declared.file_line.FileKind.TheVariants.{Save, Load}
use Rattle.tab_prog.specs.declared.files.Files.{Ghosts}
use Rattle.tab_prog.specs.declared.outcome.SaveFault.{SaveFault}
use Rattle.tab_prog.specs.declared.outcome.SaveFault.TheVariants as save
use Rattle.tab_prog.specs.declared.outcome.LoadFault.{LoadFault}
use Rattle.tab_prog.specs.declared.outcome.LoadFault.TheVariants as load
use Rattle.tab_shell.specs.Scripts.{ScriptState, replaced}
use Rattle.tab_text.specs.Lines.{line_text}

-- what came of a file line: an image was saved, or none; or this core was loaded, or none
pub data Outcome : Type 0 where
  Saved : Outcome
  NotSaved : SaveFault → Outcome
  Loaded : CoreContents → Outcome
  NotLoaded : LoadFault → Outcome

-- asked for this by a line with this name, where the script has this core, the files gave this, and are left so
abbrev pub GivesOutcome : {F : Type 0} → Ghosts F → FileKind → List ℕ → CoreContents → F → Outcome → F → Type 0
GivesOutcome f Save name core files Saved files' = f.saves files name core (Ok tt) files'
GivesOutcome f Save name core files (NotSaved fault) files' = f.saves files name core (Err fault) files'
GivesOutcome f Save name core files (Loaded loaded) files' = ⊥
GivesOutcome f Save name core files (NotLoaded fault) files' = ⊥
GivesOutcome f Load name core files Saved files' = ⊥
GivesOutcome f Load name core files (NotSaved fault) files' = ⊥
GivesOutcome f Load name core files (Loaded loaded) files' = f.loads files name (Ok loaded) files'
GivesOutcome f Load name core files (NotLoaded fault) files' = f.loads files name (Err fault) files'

-- why no image was saved
abbrev pub save_fault_text : SaveFault → List ℕ
save_fault_text save.Io = codes "fault save io\n"
save_fault_text save.NoMemory = codes "fault save memory\n"

-- why none was loaded
abbrev pub load_fault_text : LoadFault → List ℕ
load_fault_text load.Io = codes "fault load io\n"
load_fault_text load.NoMemory = codes "fault load memory\n"
load_fault_text (load.Version version) = line_text (codes "fault" ∷ codes "load" ∷ codes "version" ∷ decimal version ∷ [])
load_fault_text load.Bad = codes "fault load bad\n"

-- what is printed
abbrev pub outcome_text : Outcome → List ℕ
outcome_text Saved = codes "ok\n"
outcome_text (NotSaved fault) = save_fault_text fault
outcome_text (Loaded core) = codes "ok\n"
outcome_text (NotLoaded fault) = load_fault_text fault

-- the script behind it: a core that was loaded takes the place of its own
abbrev pub script_after : ScriptState → Outcome → ScriptState
script_after s Saved = s
script_after s (NotSaved fault) = s
script_after s (Loaded core) = replaced s core
script_after s (NotLoaded fault) = s
