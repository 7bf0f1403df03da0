-- To be believed by whoever relies on it. What a book that threads share holds, counted.
use Rattle.std.specs.Prelude.{ℕ, ◌≡◌, ◌+◌, List, length}
use Rattle.tab_history.specs.Bases.{Base}
use Rattle.tab_core.specs.Stores.{CoreContents}
use Rattle.tab_core.specs.Totals.{totals_of}
use Rattle.tab_core.specs.Recording.{RefinesHistory, IsLegalFrom}
use Rattle.tab_book.specs.Entries.{Posted, past}
use Rattle.tab_work.specs.declared.holdings.Holdings.{Holdings}

-- It is what a core holds that refines a history, legal from a base, and how many entries that has, and with those before it: those of the
-- book, as long as it is locked.
pub record AreHeld (found : Holdings) : Type 0 where
  pub core : CoreContents
  pub base : Base
  pub history : List Posted
  pub before : ℕ
  pub legal : IsLegalFrom base (past history)
  pub refines : RefinesHistory core base (past history)
  pub tables : found.tables ≡ length core.tables
  pub counts : found.counts ≡ totals_of core.tables
  pub entries : found.entries ≡ length history
  pub events : found.events ≡ before + length history
