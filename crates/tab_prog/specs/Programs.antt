-- To be believed by whoever relies on it. What a subcommand does, from its input to its output.
use Rattle.std.specs.Prelude.{ℕ, ◌≡◌, ◌⊎◌, List, [], ◌∷◌, Result, Ok, Err}
use Rattle.tab_history.specs.Bases.{new_core}
use Rattle.tab_history.specs.Histories.{world_of}
use Rattle.tab_history.specs.Refinement.{Refines}
use Rattle.tab_core.specs.Stores.{CoreContents, base_of, IsNewStore}
use Rattle.tab_io.specs.Writing.{HasPut, HasPutPart, Puts}
use Rattle.tab_io.specs.declared.reading.Input.{Ghosts as InputGhosts}
use Rattle.tab_io.specs.declared.writing.Output.{Ghosts}
use Rattle.tab_lines.specs.declared.file_line.FileLine.{FileLine}
use Rattle.tab_lines.specs.declared.file_line.FileKind.{FileKind}
use Rattle.tab_prog.specs.declared.scripting.ProgramFault.{ProgramFault}
use Rattle.tab_prog.specs.declared.scripting.ProgramFault.TheVariants as fault
use Rattle.tab_prog.specs.declared.files.Files.{Ghosts as FilesGhosts}
use Rattle.tab_prog.specs.Outcomes.{Outcome, GivesOutcome, outcome_text, script_after}
use Rattle.tab_shell.specs.declared.script.Ended.{Ended}
use Rattle.tab_shell.specs.declared.script.Ended.TheVariants.{Input, File}
use Rattle.tab_shell.specs.declared.script.ScriptFault.{ScriptFault}
use Rattle.tab_shell.specs.declared.script.ScriptFault.TheVariants as side
use Rattle.tab_shell.specs.Scripts.{ScriptState, new_script}
use Rattle.tab_shell.specs.Progress.{RunsScript}

-- ---- the work of one file line
-- the files gave an outcome: its text was put, or a beginning of it, and the script is left as it says
abbrev pub DoesWork : {F W E : Type 0} → FilesGhosts F → Ghosts W → FileKind → List ℕ → F → ScriptState → F → ScriptState → W → W → Result (Unit {0}) E → Type 0
DoesWork f g kind name files old files' new o o' r = (outcome : Outcome) × GivesOutcome f kind name old.core files outcome files' × (new ≡ script_after old outcome) × Puts g o o' (outcome_text outcome) r

-- ---- a chain of runs
-- The script runs over the input, and is left as the last one. Each run that ends at a file line is followed by the outcome that the files gave,
-- of which the text is put, and then by the next run, of the script as the outcome left it; where that text can't be put, the chain ends.
abbrev pub RunsOn : {F R W : Type 0} → FilesGhosts F → InputGhosts R → Ghosts W → List Outcome → ScriptState → F → R → W → ScriptState → F → R → W → Result (Unit {0}) ScriptFault → Type 0
RunsOn f i g [] script files input o last files' input' o' (Ok u) = RunsScript i g script input o last input' o' (Ok Input) × (files' ≡ files)
RunsOn f i g [] script files input o last files' input' o' (Err e) = RunsScript i g script input o last input' o' (Err e) × (files' ≡ files)
RunsOn {F} {R} {W} f i g (outcome ∷ outcomes) script files input o last files' input' o' r =
    (file : FileLine) × (mid : ScriptState) × (after : F) × (at : R) × (o1 o2 : W)
    × RunsScript i g script input o mid at o1 (Ok (File file)) × GivesOutcome f file.kind file.name mid.core files outcome after
    × ((HasPut g o1 o2 (outcome_text outcome) × RunsOn f i g outcomes (script_after mid outcome) after at o2 last files' input' o' r)
    ⊎ (HasPutPart g o1 o' (outcome_text outcome) × (last ≡ script_after mid outcome) × (files' ≡ after) × (input' ≡ at) × (r ≡ Err side.Write)))

-- the script runs over the input, whatever the files give, and is left as the last one
abbrev pub RunsTo : {F R W : Type 0} → FilesGhosts F → InputGhosts R → Ghosts W → ScriptState → F → R → W → ScriptState → F → R → W → Result (Unit {0}) ScriptFault → Type 0
RunsTo f i g script files input o last files' input' o' r = (outcomes : List Outcome) × RunsOn f i g outcomes script files input o last files' input' o' r

-- the script runs over the input, and is dropped
abbrev pub RunsThrough : {F R W : Type 0} → FilesGhosts F → InputGhosts R → Ghosts W → ScriptState → F → R → W → F → R → W → Result (Unit {0}) ScriptFault → Type 0
RunsThrough f i g script files input o files' input' o' r = (last : ScriptState) × RunsTo f i g script files input o last files' input' o' r

-- ---- subcommands
-- the side of a script that failed
abbrev pub program_fault : ScriptFault → ProgramFault
program_fault side.Read = fault.Read
program_fault side.Write = fault.Write

-- a script over a new core
abbrev pub IsFresh : ScriptState → Type 0
IsFresh script = (core : CoreContents) × IsNewStore core × Refines (world_of (base_of core)) (world_of new_core) × (script ≡ new_script core)

-- a script over a new core runs over the input
abbrev pub RunsFresh : {F R W : Type 0} → FilesGhosts F → InputGhosts R → Ghosts W → F → R → W → F → R → W → Result (Unit {0}) ScriptFault → Type 0
RunsFresh f i g files input o files' input' o' r = (script : ScriptState) × IsFresh script × RunsThrough f i g script files input o files' input' o' r

-- A script over a new core runs over the input; without memory for one nothing is read or written, and no file is touched.
abbrev pub RunsProgram : {F R W : Type 0} → FilesGhosts F → InputGhosts R → Ghosts W → F → R → W → F → R → W → Result (Unit {0}) ProgramFault → Type 0
RunsProgram f i g files input o files' input' o' (Ok u) = RunsFresh f i g files input o files' input' o' (Ok tt)
RunsProgram f i g files input o files' input' o' (Err fault.Read) = RunsFresh f i g files input o files' input' o' (Err side.Read)
RunsProgram f i g files input o files' input' o' (Err fault.Write) = RunsFresh f i g files input o files' input' o' (Err side.Write)
RunsProgram f i g files input o files' input' o' (Err fault.NoMemory) = (files' ≡ files) × (input' ≡ input) × (o' ≡ o)
