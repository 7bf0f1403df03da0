-- To be believed. Reading as one function, which other definitions can compute with.
use Rattle.std.specs.Prelude.{ℕ, ◌+◌, List, [], ◌∷◌, Option, Some, None, Result, Ok, Err}
use Rattle.tab_label.specs.Grammar.{Label}
use Rattle.tab_label.specs.Machine.{State, start, step, ending}

-- at the end of the text: what it says, or its length
abbrev pub ended : ℕ → Option Label → Result Label ℕ
ended i None = Err i
ended i (Some m) = Ok m

-- behind a byte that was taken, or the offset of one that was not
abbrev pub next : ℕ → Option State → (State → Result Label ℕ) → Result Label ℕ
next i None on = Err i
next i (Some t) on = on t

-- what a text says whose remaining bytes stand at this offset, behind this state
unfoldable pub reads_on : List ℕ → ℕ → State → Result Label ℕ
reads_on [] i s = ended i (ending s)
reads_on (b ∷ bytes) i s = next i (step s b) (λ t. reads_on bytes (i + 1) t)

-- what the text says, or the length of its longest front that begins some label
unfoldable pub label_of : List ℕ → Result Label ℕ
label_of text = reads_on text 0 start
