-- To be believed by whoever relies on it. What a page is told.
use Rattle.std.specs.Prelude.{ℕ, ◌≡◌, ◌+◌, ◌^◌, ◌⊎◌, List, [], ◌++◌, length, take, drop, Ok, Some, None}
use Rattle.tab_io.specs.declared.reading.Input.{Ghosts as InputGhosts}
use Rattle.tab_io.specs.declared.writing.Output.{Ghosts}
use Rattle.tab_lines.specs.Lines.{line_of}
use Rattle.tab_help.specs.Explaining.{IsLine, explanation}
use Rattle.tab_prog.specs.declared.files.Files.{Ghosts as FilesGhosts}
use Rattle.tab_prog.specs.Programs.{RunsProgram}

-- these bytes, with what they don't reach of what was there; as many as there is room for
abbrev pub filled : List ℕ → List ℕ → List ℕ
filled old bytes = take (length old) bytes ++ drop (length bytes) old

-- the length of these bytes is told, and they fill what was there
abbrev pub Fills : List ℕ → List ℕ → List ℕ → ℕ → Type 0
Fills bytes old new told = (told ≡ length bytes) × (new ≡ filled old bytes)

-- there was no memory: the largest number is told, and nothing was written
abbrev pub Lacks : List ℕ → List ℕ → ℕ → Type 0
Lacks old new told = (told + 1 ≡ 2 ^ 64) × (new ≡ old)

-- a script over a new core, whose input is these lines, runs to their end and writes these bytes
abbrev pub IsAnswered : {F R W : Type 0} → FilesGhosts F → InputGhosts R → Ghosts W → List ℕ → List ℕ → Type 0
IsAnswered {F} {R} {W} f i g lines answers =
    (files files' : F) × (input input' : R) × (output output' : W)
    × (i.remaining input ≡ Some lines) × (g.contents output ≡ Some []) × (g.held output ≡ []) × (g.contents output' ≡ Some answers)
    × RunsProgram f i g files input output files' input' output' (Ok tt)

-- the answers to the lines
abbrev pub Answers : {F R W : Type 0} → FilesGhosts F → InputGhosts R → Ghosts W → List ℕ → List ℕ → List ℕ → ℕ → Type 0
Answers f i g lines old new told = Lacks old new told ⊎ ((answers : List ℕ) × IsAnswered f i g lines answers × Fills answers old new told)

-- why the line is a fault, or nothing for what is a line
abbrev pub Explained : ℕ → List ℕ → List ℕ → List ℕ → ℕ → Type 0
Explained number line old new told =
    Lacks old new told ⊎ (IsLine line × (told ≡ 0) × (new ≡ old)) ⊎ ((line_of line ≡ None) × ((why : List ℕ) × Fills (explanation number why) old new told))
