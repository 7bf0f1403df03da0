-- For proofs. When a line is explained.
use Rattle.std.specs.Prelude.{ℕ, ◌≡◌, List, ◌++◌, codes, decimal, Result, Ok, Err, Some, None}
use Rattle.tab_io.specs.Writing.{HasPut, HasPutPart}
use Rattle.tab_io.specs.declared.writing.Output.{Ghosts}
use Rattle.tab_lines.specs.declared.line.Line.{Line}
use Rattle.tab_lines.specs.Lines.{line_of}
use Rattle.tab_help.specs.declared.explaining.Explanation.{Explanation}
use Rattle.tab_help.specs.declared.explaining.Explanation.TheVariants as told

-- the text is a line of a script
abbrev pub IsLine : List ℕ → Type 0
IsLine text = (says : Line) × (line_of text ≡ Some says)

-- the line's number, and why it is a fault
abbrev pub explanation : ℕ → List ℕ → List ℕ
explanation number why = codes "line " ++ (decimal number ++ why)

-- Nothing is put for a line; for a text that is none an explanation, or a beginning of one where a write failed. Without memory nothing is put.
abbrev pub Explains : {W E : Type 0} → Ghosts W → W → W → ℕ → List ℕ → Result Explanation E → Type 0
Explains g o o' number text (Ok told.Nothing) = IsLine text × (o' ≡ o)
Explains g o o' number text (Ok told.Reason) = (line_of text ≡ None) × ((why : List ℕ) × HasPut g o o' (explanation number why))
Explains g o o' number text (Ok told.NoMemory) = o' ≡ o
Explains g o o' number text (Err e) = (line_of text ≡ None) × ((why : List ℕ) × HasPutPart g o o' (explanation number why))
