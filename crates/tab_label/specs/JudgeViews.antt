-- For proofs. What the judge's own types stand for.
use Rattle.std.specs.Prelude.{◌≡◌, ◌≤◌, ℕ, Bool, List, take, reverse, slice_range, Option, Some, None, Result, Ok, Err}
use Rattle.tab_label.specs.declared.levels.Level.{Level}
use Rattle.tab_label.specs.declared.levels.Levels.{Levels}
use Rattle.tab_label.specs.declared.judgement.JudgePhase.{JudgePhase}
use Rattle.tab_label.specs.declared.judgement.JudgePhase.TheVariants as phases
use Rattle.tab_label.specs.declared.judgement.OpenLevel.{OpenLevel}
use Rattle.tab_label.specs.Judging as judging

-- the levels on the stack, the innermost first
abbrev pub levels_held : Levels → List Level
levels_held s = reverse (take s.count s.held)

-- the phase of a judge who stands at this index of the text
abbrev pub phase_at : List ℕ → ℕ → JudgePhase → judging.Phase
phase_at text i phases.Awaiting = judging.Awaiting
phase_at text i (phases.InPlain start) = judging.InPlain (slice_range text start i)
phase_at text i (phases.InQuotes start) = judging.InQuotes (slice_range text start i)
phase_at text i (phases.Escaping start) = judging.Escaping (slice_range text start i)
phase_at text i (phases.Behind value) = judging.Behind value

-- a term that is open began at or before this index
abbrev pub BeganBy : ℕ → JudgePhase → Type 0
BeganBy i phases.Awaiting = Unit {0}
BeganBy i (phases.InPlain start) = start ≤ i
BeganBy i (phases.InQuotes start) = start ≤ i
BeganBy i (phases.Escaping start) = start ≤ i
BeganBy i (phases.Behind value) = Unit {0}

-- the whole state of a judge who stands at this index of the text
abbrev pub judgement_at : List ℕ → ℕ → List Level → OpenLevel → judging.Judgement
judgement_at text i below innermost = record { below = below; level = innermost.level; phase = phase_at text i innermost.phase }

-- The step led to this level and phase, or to none.
abbrev pub LeadsTo : List ℕ → ℕ → Option OpenLevel → List Level → Option judging.Judgement → Type 0
LeadsTo text i (Some innermost) below o = (o ≡ Some (judgement_at text i below innermost)) × BeganBy i innermost.phase
LeadsTo text i None below o = o ≡ None

-- the value of a text of this length, or its length
abbrev pub or_length : Option Bool → ℕ → Result Bool ℕ
or_length (Some value) n = Ok value
or_length None n = Err n
