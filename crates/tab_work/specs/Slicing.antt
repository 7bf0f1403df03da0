-- To be believed by whoever relies on it. Entries of a book that threads share.
use Rattle.std.specs.Prelude.{ℕ, ◌≡◌, List}
use Rattle.tab_history.specs.Bases.{Base}
use Rattle.tab_core.specs.Recording.{IsLegalFrom}
use Rattle.tab_book.specs.Entries.{Posted, past}
use Rattle.tab_book.specs.Slices.{Stretch, stretch_of}

-- They are those from that number on, at most so many, of a history that is legal from a base, and whose entries are numbered from a first
-- number on: those of the book, as long as it is locked.
pub record IsShared (from most : ℕ) (slice : Stretch) : Type 0 where
  pub base : Base
  pub first : ℕ
  pub entries : List Posted
  pub legal : IsLegalFrom base (past entries)
  pub is : slice ≡ stretch_of first entries from most
