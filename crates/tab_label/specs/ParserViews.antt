-- For proofs. What the parser's own types stand for.
use Rattle.std.specs.Prelude.{◌≡◌, ◌==◌, ℕ, Bool, true, false, List, map, reverse, Result, Ok, Err, Option, Some, None}
use Rattle.tab_label.specs.declared.joiner.Joiner.{Joiner}
use Rattle.tab_label.specs.declared.joiner.Joiner.TheVariants.{And, Or}
use Rattle.tab_label.specs.declared.tree.Tree.{Tree}
use Rattle.tab_label.specs.declared.state.Frame.{Frame}
use Rattle.tab_label.specs.declared.state.Frame.TheVariants as frames
use Rattle.tab_label.specs.declared.state.Phase.{Phase}
use Rattle.tab_label.specs.declared.state.Phase.TheVariants as phases
use Rattle.tab_label.specs.declared.state.State.{State}
use Rattle.tab_label.specs.declared.state.StepError.{StepError}
use Rattle.tab_label.specs.declared.state.StepError.TheVariants as errors
use Rattle.tab_label.specs.Grammar.{Exprs, Start}
use Rattle.tab_label.specs.Views.{expr_of, followed}
use Rattle.tab_label.specs.Machine as machine

-- the expressions of trees in a row
abbrev pub exprs_of : List Tree → Exprs
exprs_of trees = followed Start (map expr_of trees)

-- what an open level stands for
abbrev pub frame_of : Frame → machine.Frame
frame_of frames.Fresh = machine.Fresh
frame_of (frames.Joined j v) = machine.Joined j (exprs_of v.items)

-- what the phase stands for
abbrev pub phase_of : Phase → machine.Phase
phase_of phases.Awaiting = machine.Awaiting
phase_of (phases.InPlain v) = machine.InPlain v.items
phase_of (phases.InQuotes v) = machine.InQuotes v.items
phase_of (phases.Escaping v) = machine.Escaping v.items
phase_of (phases.Behind t) = machine.Behind (expr_of t)

-- the levels below, the innermost first
abbrev pub levels_of : List Frame → List machine.Frame
levels_of frames = reverse (map frame_of frames)

-- what the reader's state stands for
abbrev pub state_of : State → machine.State
state_of s = record { below = levels_of s.below.items; frame = frame_of s.frame; phase = phase_of s.phase }

-- What a function returned, seen by view, is this, unless memory ran out.
abbrev pub Gives : {X Y : Type 0} → (X → Y) → Result X StepError → Option Y → Type 0
Gives view (Ok x) o = o ≡ Some (view x)
Gives view (Err errors.NoLabel) o = o ≡ None
Gives view (Err errors.NoMemory) o = Unit {0}

-- The state took the byte, or no state does, unless memory ran out.
abbrev pub Advances : Result (Unit {0}) StepError → machine.State → ℕ → machine.State → Type 0
Advances (Ok u) s b t = machine.step s b ≡ Some t
Advances (Err errors.NoLabel) s b t = machine.step s b ≡ None
Advances (Err errors.NoMemory) s b t = Unit {0}

-- the byte that spells the joiner
abbrev pub is_joined_by : Joiner → ℕ → Bool
is_joined_by And b = b == 38
is_joined_by Or b = b == 124

-- The state took the byte, or is as it was, unless memory ran out.
abbrev pub Takes : Result Bool StepError → machine.State → ℕ → machine.State → Type 0
Takes (Ok true) s b t = machine.step s b ≡ Some t
Takes (Ok false) s b t = t ≡ s
Takes (Err errors.NoLabel) s b t = ⊥
Takes (Err errors.NoMemory) s b t = Unit {0}
