-- For proofs. Where a session goes on.
use Rattle.std.specs.Prelude.{ℕ, ◌-◌, List, [], ◌∷◌, Option, Some, None, cond, length}
use Rattle.tab_key.specs.Order.{stands_before}
use Rattle.tab_key.specs.Records.{Record}
use Rattle.tab_session.specs.declared.bookmark.Bookmark.{Bookmark}
use Rattle.tab_session.specs.declared.bookmark.Bookmark.TheVariants.{Beginning, At}

-- from the first record that doesn't stand before r
abbrev pub from_record : Record → List Record → List Record
from_record r [] = []
from_record r (u ∷ us) = cond (stands_before u r) (from_record r us) (u ∷ us)

-- from the place of the bookmark on
abbrev pub from_mark : Bookmark → List Record → List Record
from_mark Beginning w = w
from_mark (At r) w = from_record r w

-- what is ahead of a session: nothing where it has no bookmark
abbrev pub ahead_of : Option Bookmark → List Record → List Record
ahead_of None w = []
ahead_of (Some b) w = from_mark b w

-- how many of the records lie behind it
abbrev pub given_of : Option Bookmark → List Record → ℕ
given_of b w = length w - length (ahead_of b w)
