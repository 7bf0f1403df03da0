-- To be believed by whoever relies on it. A stretch with one more entry, by how its event ended.
use Rattle.std.specs.Prelude.{ℤ, ◌≡◌, List, [], ◌∷◌, cond}
use Rattle.std.specs.Int.{int_max}
use Rattle.tab_history.specs.Answers.{Told}
use Rattle.tab_history.specs.declared.event.Event.{Event}
use Rattle.tab_history.specs.declared.event.Step.TheVariants.{Event as IsEvent}
use Rattle.tab_lasting.specs.Lasting.{leaves_trace}
use Rattle.tab_event_record.specs.Outcomes.{outcome_of}
use Rattle.tab_event_record.specs.declared.outcome.Outcome.{Outcome}
use Rattle.tab_event_record.specs.declared.outcome.Outcome.TheVariants.{Void, Refused, Answered}
use Rattle.tab_journal.specs.Stretches.{Stretch, kept_behind, gathers}

-- the clock behind an event that met this one
abbrev pub clock_by : Outcome → ℤ → ℤ → ℤ
clock_by Void met clock = clock
clock_by Refused met clock = met
clock_by Answered met clock = met

-- the event, at the clock that it met, where it is to be kept
abbrev pub kept_by : Outcome → ℤ → Event → List Event
kept_by Answered met e = cond (leaves_trace e.act) (record e { moment = met } ∷ []) []
kept_by Void met e = []
kept_by Refused met e = []

abbrev pub gathers_by : Stretch → Event → Outcome → Stretch
gathers_by s e outcome = let met = int_max s.clock e.moment in kept_behind s (clock_by outcome met s.clock) (kept_by outcome met e)

-- ---- The law: what is kept of an entry hangs on how its event ended alone.
abbrev pub OutcomesSuffice : Type 0
OutcomesSuffice = (s : Stretch) (e : Event) (reply : Told) → gathers s (IsEvent e) reply ≡ gathers_by s e (outcome_of reply)
