-- Chains of runs, what a loop over them counts down, and what a program tells of how they ended.
use Rattle.std.proofs.Common.{ℕ, ◌≡◌, ◌+◌, ◌*◌, ◌<◌, inl, inr, List, [], ◌∷◌, length, refl, subst, arith, Result, Ok, Err}
use Rattle.std.specs.Prelude.{min}
use Rattle.tab_io.specs.Writing.{HasPut, HasPutPart}
use Rattle.tab_io.specs.declared.reading.Input.{Ghosts as InputGhosts}
use Rattle.tab_io.specs.declared.writing.Output.{Ghosts}
use Rattle.tab_lines.specs.declared.file_line.FileLine.{FileLine}
use Rattle.tab_shell.specs.declared.script.Ended.TheVariants.{Input, File}
use Rattle.tab_shell.specs.declared.script.ScriptFault.{ScriptFault}
use Rattle.tab_shell.specs.declared.script.ScriptFault.TheVariants as side
use Rattle.tab_shell.specs.Scripts.{ScriptState}
use Rattle.tab_shell.specs.Progress.{RunsScript, ComesFurther}
use Rattle.tab_prog.specs.declared.files.Files.{Ghosts as FilesGhosts}
use Rattle.tab_prog.specs.Outcomes.{Outcome, GivesOutcome, outcome_text, script_after}
use Rattle.tab_prog.specs.Programs.{RunsOn, RunsTo, RunsFresh, RunsProgram, program_fault}

-- what is left of a chain: reads that may still be made, and then bytes that are here
abbrev pub to_do : {R : Type 0} → InputGhosts R → R → ℕ
to_do i input = i.budget input * 18446744073709551616 + min (length (i.front input)) 18446744073709551615

module _ {F R W : Type 0} (f : FilesGhosts F) (i : InputGhosts R) (g : Ghosts W) where
  -- the last run of a chain
  pub chain_ends : (s last : ScriptState) (files : F) (input input' : R) (o o' : W) → RunsScript i g s input o last input' o' (Ok Input) → RunsTo f i g s files input o last files input' o' (Ok tt)
  chain_ends s last files input input' o o' run = ([], (run, refl))

  pub chain_fails : (s last : ScriptState) (fault : ScriptFault) (files : F) (input input' : R) (o o' : W) → RunsScript i g s input o last input' o' (Err fault) → RunsTo f i g s files input o last files input' o' (Err fault)
  chain_fails s last fault files input input' o o' run = ([], (run, refl))

  -- one more run in front of it, and the work of its file line
  pub chain_more : (s mid new : ScriptState) (file : FileLine) (files after : F) (input at : R) (o o1 o2 : W) → RunsScript i g s input o mid at o1 (Ok (File file))
      → (outcome : Outcome) × GivesOutcome f file.kind file.name mid.core files outcome after × (new ≡ script_after mid outcome) × HasPut g o1 o2 (outcome_text outcome)
      → (last : ScriptState) (files' : F) (input' : R) (o' : W) (r : Result (Unit {0}) ScriptFault) → RunsTo f i g new after at o2 last files' input' o' r → RunsTo f i g s files input o last files' input' o' r
  chain_more s mid new file files after input at o o1 o2 run work last files' input' o' r more = (
    work.0 ∷ more.0,
    (file, mid, after, at, o1, o2, run, work.1, inl (work.3, subst (λ (x : ScriptState). RunsOn f i g more.0 x after at o2 last files' input' o' r) work.2 more.1)),
  )

  -- the outcome can't be put
  pub chain_stops : (s mid new : ScriptState) (file : FileLine) (files after : F) (input at : R) (o o1 o2 : W) → RunsScript i g s input o mid at o1 (Ok (File file))
      → (outcome : Outcome) × GivesOutcome f file.kind file.name mid.core files outcome after × (new ≡ script_after mid outcome) × HasPutPart g o1 o2 (outcome_text outcome) → RunsTo f i g s files input o new after at o2 (Err side.Write)
  chain_stops s mid new file files after input at o o1 o2 run work = (work.0 ∷ [], (file, mid, after, at, o1, o2, run, work.1, inr (work.3, work.2, refl, refl, refl)))

  -- what a program tells of a side that failed
  pub program_fails : (fault : ScriptFault) (files files' : F) (input input' : R) (o o' : W) → RunsFresh f i g files input o files' input' o' (Err fault) → RunsProgram f i g files input o files' input' o' (Err (program_fault fault))
  program_fails side.Read files files' input input' o o' runs = runs
  program_fails side.Write files files' input input' o o' runs = runs

pub fewer_to_do : {R : Type 0} (i : InputGhosts R) (a b : R) → ComesFurther i a b → to_do i b < to_do i a
fewer_to_do i a b (inl less) = omega (arith, less)
fewer_to_do i a b (inr (same, shorter, fits)) = omega (arith, same, shorter, fits)
