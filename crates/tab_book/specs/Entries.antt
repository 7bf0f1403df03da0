-- To be believed by whoever relies on it. The history of a book, and what a seat knows.
use Rattle.std.specs.Prelude.{ℕ, ◌≡◌, ◌+◌, ◌^◌, ◌<◌, ◌≤◌, List, [], ◌∷◌, length}
use Rattle.tab_history.specs.Bases.{Base}
use Rattle.tab_history.specs.Answers.{Told}
use Rattle.tab_history.specs.Histories.{Entry}
use Rattle.tab_history.specs.declared.event.Event.{Event}
use Rattle.tab_core.specs.Stores.{CoreContents}
use Rattle.tab_core.specs.Recording.{RefinesHistory, IsLegalFrom, entry_of}

-- an entry: the number of the seat that asked, what it asked, and what it was told
pub record Posted : Type 0 where
  pub seat : ℕ
  pub event : Event
  pub reply : Told

abbrev pub posted : ℕ → Event → Told → Posted
posted seat event reply = record { seat = seat; event = event; reply = reply }

-- a history, the newest entry first, with later ones, the oldest first
abbrev pub extend : List Entry → List Posted → List Entry
extend h [] = h
extend h (p ∷ ps) = extend (entry_of p.event p.reply ∷ h) ps

-- the history that the entries are: it has the newest first, and knows no seats
abbrev pub past : List Posted → List Entry
past ps = extend [] ps

-- a seat: its number, the number above all that it has seen, and how many entries are its
pub record SeatState : Type 0 where
  pub number : ℕ
  pub seen : ℕ
  pub count : ℕ

abbrev pub place : ℕ → ℕ → ℕ → SeatState
place number seen count = record { number = number; seen = seen; count = count }

-- a book: what its history began on, and the number of its first entry, which is how many were handed out before; the entries, the oldest
-- first, and the core; how many seats ever joined, how many are out, and how many entries those seats made that came back
pub record Record : Type 0 where
  pub base : Base
  pub first : ℕ
  pub entries : List Posted
  pub core : CoreContents
  pub joined : ℕ
  pub out : ℕ
  pub back : ℕ

-- the number of the next entry
abbrev pub next_of : Record → ℕ
next_of b = b.first + length b.entries

-- What each book keeps: its history is legal from the base and its core refines it; and the ledger, which is cut into so many parts, of
-- which each seat that is out has one and the book the rest, has counted the entries, those that were handed out too.
pub record IsKept (base : Base) (first : ℕ) (entries : List Posted) (core : CoreContents) (joined out parts rest total : ℕ) : Type 0 where
  pub legal : IsLegalFrom base (past entries)
  pub refines : RefinesHistory core base (past entries)
  pub counted : total ≡ first + length entries
  pub fits : first + length entries < 2 ^ 64
  pub cut : rest + out ≡ parts
  pub enough : 2 ^ 32 ≤ parts
  pub known : out ≤ joined
