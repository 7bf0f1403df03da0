-- For proofs. What is put of bytes, a part at a time.
use Rattle.std.specs.Prelude.{ℕ, ◌<◌, ◌≤◌, Result, Ok, Err, List, length, take}
use Rattle.tab_io.specs.Writing.{HasPut, HasPutPart}
use Rattle.tab_io.specs.declared.writing.Output.{Ghosts}
use Rattle.tab_text.specs.Words.{escaped}

-- the first bytes were put, escaped: some, and how many is told; or a beginning of them all
abbrev pub PutsSome : {W E : Type 0} → Ghosts W → W → W → List ℕ → Result ℕ E → Type 0
PutsSome g old new bytes (Ok n) = (0 < n) × (n ≤ length bytes) × HasPut g old new (escaped (take n bytes))
PutsSome g old new bytes (Err e) = HasPutPart g old new (escaped bytes)
