-- To be believed by whoever relies on it. The entries of a stretch of a history that are to outlive a crash, gathered one after the other.
use Rattle.std.specs.Prelude.{ℤ, ℕ, ◌≡◌, Bool, true, false, List, [], ◌∷◌, ◌++◌, reverse}
use Rattle.tab_history.specs.Answers.{Told}
use Rattle.tab_history.specs.Histories.{Entry, World, clock_of, clock_at, clock_after}
use Rattle.tab_history.specs.declared.event.Event.{Event as TheEvent}
use Rattle.tab_history.specs.declared.event.Step.{Step}
use Rattle.tab_history.specs.declared.event.Step.TheVariants.{Event}
use Rattle.tab_history.specs.declared.reply.Reply.TheVariants.{Refused}
use Rattle.tab_lasting.specs.Lasting.{lasting_of, lasting}
use Rattle.tab_journal.specs.Spelling.{entries_bytes}

-- the event of a step
abbrev pub event_in : Step → List TheEvent
event_in (Event e) = e ∷ []
event_in step = []

-- the events of some entries, in their order
abbrev pub events_of : List Entry → List TheEvent
events_of [] = []
events_of (e ∷ es) = event_in e.step ++ events_of es

-- whether the reply refuses
abbrev pub is_refused : Told → Bool
is_refused (Refused r) = true
is_refused reply = false

-- the clock behind a stretch, the events of it that are to be kept, the oldest first, and their bytes
pub record Stretch : Type 0 where
  pub clock : ℤ
  pub entries : List TheEvent
  pub bytes : List ℕ

-- nothing, at this clock
abbrev pub begun : ℤ → Stretch
begun clock = record { clock = clock; entries = []; bytes = [] }

-- a stretch with these events behind it, and this clock
abbrev pub kept_behind : Stretch → ℤ → List TheEvent → Stretch
kept_behind s clock more = record { clock = clock; entries = s.entries ++ more; bytes = s.bytes ++ entries_bytes more }

-- a stretch with one more entry: what is to be kept of it is kept at the clock that it met, and the clock goes on
abbrev pub gathers : Stretch → Step → Told → Stretch
gathers s step reply = kept_behind s (clock_after step reply s.clock) (events_of (lasting_of (clock_at s.clock step) step reply))

-- a stretch with the entries of a history, of which the newest stands first
abbrev pub gathers_all : Stretch → List Entry → Stretch
gathers_all s [] = s
gathers_all s (e ∷ es) = gathers (gathers_all s es) e.step e.reply

-- the events of a history that are to be kept, each at the clock that it met, the oldest first
abbrev pub kept_events : World → List Entry → List TheEvent
kept_events w es = reverse (events_of (lasting w es))

-- ---- The law: what was gathered entry by entry is what is to be kept of all of them.
abbrev pub GatheredIsLasting : Type 0
GatheredIsLasting = (w : World) (es : List Entry) → gathers_all (begun w.clock) es ≡ record { clock = clock_of w es; entries = kept_events w es; bytes = entries_bytes (kept_events w es) }
