-- To be believed by whoever relies on it. What is left where the entries of a journal are done again.
use Rattle.std.specs.Prelude.{ℕ, ◌≡◌, ◌≢◌, List, ◌∷◌, ◌++◌, length, take, map, reverse, Some, None, Result, Ok, Err}
use Rattle.tab_history.specs.Answers.{Told}
use Rattle.tab_history.specs.Bases.{Base}
use Rattle.tab_history.specs.Histories.{Entry}
use Rattle.tab_history.specs.declared.event.Event.{Event}
use Rattle.tab_history.specs.declared.reply.Reply.TheVariants.{Done}
use Rattle.tab_core.specs.Stores.{CoreContents}
use Rattle.tab_core.specs.Recording.{RefinesHistory, IsLegalFrom, entry_of}
use Rattle.tab_journal.specs.Reading.{entries_from, entries_in}
use Rattle.tab_recovery.specs.declared.fault.ReplayFault.{ReplayFault}
use Rattle.tab_recovery.specs.declared.fault.ReplayFault.TheVariants.{Unfit, Bad, NoMemory}

-- these events, the oldest first, each of them done; the newest entry first
abbrev pub all_done : List Event → List Entry
all_done es = map (λ e. entry_of e Done) (reverse es)

-- From each base and history that the core refined, it went on by these entries: it refines the history with them, which is legal where it was.
pub record GoesOn (old : CoreContents) (more : List Entry) (new : CoreContents) : Type 0 where
  pub refines : (base : Base) (h : List Entry) → RefinesHistory old base h → RefinesHistory new base (more ++ h)
  pub legal : (base : Base) (h : List Entry) → RefinesHistory old base h → IsLegalFrom base h → IsLegalFrom base (more ++ h)

-- some of these events are done, and the next one was told something else
pub record StopsAt (old : CoreContents) (es : List Event) (new : CoreContents) : Type 0 where
  pub before : List Event
  pub here : Event
  pub behind : List Event
  pub parts : es ≡ before ++ here ∷ behind
  pub reply : Told
  pub unfit : reply ≢ Done
  pub goes : GoesOn old (entry_of here reply ∷ all_done before) new

-- What a replay of these bytes did to a core: all of their entries are done; or those before the one that doesn't fit, and it was told something
-- else; or all that are in front of what is no entry; or some, and memory lacked.
abbrev pub Recovers : CoreContents → List ℕ → Result ℕ ReplayFault → CoreContents → Type 0
Recovers old body (Ok count) new = (es : List Event) × (entries_in body ≡ Some es) × (count ≡ length es) × GoesOn old (all_done es) new
Recovers old body (Err Unfit) new = StopsAt old (entries_from body).0 new
Recovers old body (Err Bad) new = (entries_in body ≡ None) × GoesOn old (all_done (entries_from body).0) new
Recovers old body (Err NoMemory) new = (n : ℕ) × GoesOn old (all_done (take n (entries_from body).0)) new
