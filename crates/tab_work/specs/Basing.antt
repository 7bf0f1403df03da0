-- To be believed by whoever relies on it. What the core of a book holds that threads share.
use Rattle.std.specs.Prelude.{ℕ, ◌≡◌, ◌+◌, List, length}
use Rattle.tab_history.specs.Bases.{Base}
use Rattle.tab_core.specs.Stores.{CoreContents, base_of}
use Rattle.tab_core.specs.Recording.{IsLegalFrom, RefinesHistory}
use Rattle.tab_book.specs.Entries.{Posted, past}

-- It is what a core holds that refines a history, legal from a base, whose entries are numbered from a first number up to this one: the book's,
-- as long as it is locked.
pub record IsTaken (taken : Base) (next : ℕ) : Type 0 where
  pub base : Base
  pub first : ℕ
  pub entries : List Posted
  pub core : CoreContents
  pub legal : IsLegalFrom base (past entries)
  pub refines : RefinesHistory core base (past entries)
  pub is : taken ≡ base_of core
  pub number : next ≡ first + length entries
