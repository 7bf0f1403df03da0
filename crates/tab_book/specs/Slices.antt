-- To be believed by whoever relies on it. Entries of a history, shared: what was asked, and how it ended.
use Rattle.std.specs.Prelude.{ℕ, ◌-◌, max, List, map, take, drop}
use Rattle.tab_history.specs.declared.event.Event.{Event}
use Rattle.tab_event_record.specs.declared.outcome.Outcome.{Outcome}
pub use Rattle.tab_event_record.specs.Outcomes.{outcome_of}
use Rattle.tab_book.specs.Entries.{Posted}

-- what was asked, and how it ended
pub record Shown : Type 0 where
  pub event : Event
  pub outcome : Outcome

abbrev pub shown : Posted → Shown
shown p = record { event = p.event; outcome = outcome_of p.reply }

-- entries in a row, and the number of the first
pub record Stretch : Type 0 where
  pub first : ℕ
  pub entries : List Shown

-- Of entries that are numbered from the first number on, those from another number on, at most so many. From a number below the first they are
-- those from the first on; behind the last there are none.
abbrev pub stretch_of : ℕ → List Posted → ℕ → ℕ → Stretch
stretch_of first entries from most = record { first = max from first; entries = map shown (take most (drop (max from first - first) entries)) }
