-- To be believed by whoever relies on it. What a function over an output does, said over the ghosts of the output.
use Rattle.std.specs.Prelude.{ℕ, ◌≡◌, ◌<◌, ◌⊎◌, Result, Ok, Err, List}
use Rattle.tab_io.specs.Streams.{Gathers, GathersPart}
use Rattle.tab_io.specs.declared.writing.Output.{Ghosts}

-- a write failed, or the budget of 2^64 - 1 writes is spent
abbrev pub WriteFailed : {W : Type 0} → Ghosts W → W → W → Type 0
WriteFailed g old new = (g.budget new ≡ 0) ⊎ (g.faults old < g.faults new)

-- the text was put behind what was gathered, and no write failed
pub record HasPut {W : Type 0} (g : Ghosts W) (old new : W) (text : List ℕ) : Type 0 where
  pub bytes : Gathers (g.contents old) (g.held old) (g.contents new) (g.held new) text
  pub faults : g.faults new ≡ g.faults old

-- a beginning of the text was put, and a write failed
pub record HasPutPart {W : Type 0} (g : Ghosts W) (old new : W) (text : List ℕ) : Type 0 where
  pub bytes : GathersPart (g.contents old) (g.held old) (g.contents new) (g.held new) text
  pub failed : WriteFailed g old new

-- the text was put; or a beginning of it, and a write failed
abbrev pub Puts : {W E : Type 0} → Ghosts W → W → W → List ℕ → Result (Unit {0}) E → Type 0
Puts g old new text (Ok u) = HasPut g old new text
Puts g old new text (Err e) = HasPutPart g old new text
