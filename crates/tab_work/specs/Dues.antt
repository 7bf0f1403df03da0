-- To be believed by whoever relies on it. What is due in a book that threads share.
use Rattle.std.specs.Prelude.{ℕ, ◌≡◌, List, Option, Some, None}
use Rattle.std.specs.List.{filter_map}
use Rattle.std.specs.Option.{option_map}
use Rattle.tab_history.specs.Bases.{Base}
use Rattle.tab_history.specs.Histories.{Entry}
use Rattle.tab_core.specs.DueType.{Due}
use Rattle.tab_core.specs.Due.{due_in, due_listed, target_of}
use Rattle.tab_core.specs.Stores.{TableContents, CoreContents}
use Rattle.tab_core.specs.Recording.{RefinesHistory, IsLegalFrom}

-- what is due, with the table and the least row of its tablet
abbrev pub aimed : List TableContents → Option Due → Option (Due × List ℕ × List ℕ)
aimed tables None = None
aimed tables (Some due) = option_map (λ at. (due, at.0, at.1)) (target_of due tables)

-- each of these, with the table and the least row of its tablet
abbrev pub all_aimed : List TableContents → List Due → List (Due × List ℕ × List ℕ)
all_aimed tables dues = filter_map (λ (due : Due). aimed tables (Some due)) dues

-- It is what is due first in a core that refines a history, legal from a base: those of the book, as long as it is locked.
pub record IsDue (found : Option (Due × List ℕ × List ℕ)) : Type 0 where
  pub core : CoreContents
  pub base : Base
  pub history : List Entry
  pub legal : IsLegalFrom base history
  pub refines : RefinesHistory core base history
  pub is : found ≡ aimed core.tables (due_in core.tables)

-- They are what is due first in such a core, so many works at most.
pub record AreDue (max : ℕ) (found : List (Due × List ℕ × List ℕ)) : Type 0 where
  pub core : CoreContents
  pub base : Base
  pub history : List Entry
  pub legal : IsLegalFrom base history
  pub refines : RefinesHistory core base history
  pub are : found ≡ all_aimed core.tables (due_listed max core.tables)
