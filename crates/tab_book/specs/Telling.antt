-- To be believed by whoever relies on it. Histories of books that look alike to a user tell them the same; and parts of which each follows on the one before.
use Rattle.std.specs.Prelude.{◌≡◌, ℕ, List, [], ◌∷◌, ◌++◌}
use Rattle.tab_history.specs.Bases.{Base}
use Rattle.tab_history.specs.Histories.{Entry, world_of}
use Rattle.tab_noninterference.specs.Hearing.{heard}
use Rattle.tab_server_law.specs.ServerNoninterference.{LookAlike}
use Rattle.tab_book.specs.Entries.{Posted}
use Rattle.tab_book.specs.Rotating.{Portion, FollowsOn}

-- Where the history h from the base b and the history k from the base c look alike to a user, they tell the user the same: what was replied
-- to their Opens, each with its whole list, to their Writes and to the questions for their rights, in order.
abbrev pub TellAlike : Base → List Entry → Base → List Entry → Type 0
TellAlike b h c k = (user : List ℕ) → LookAlike user b h c k → heard user (world_of b) h ≡ heard user (world_of c) k

-- each of these parts begins where the one before it ends, and the first of them where this one does
abbrev pub AreInTurn : Portion → List Portion → Type 0
AreInTurn p [] = Unit {0}
AreInTurn p (q ∷ ps) = FollowsOn p q × AreInTurn q ps

-- the entries of this part and of those, the oldest first
abbrev pub entries_in : Portion → List Portion → List Posted
entries_in p [] = p.entries
entries_in p (q ∷ ps) = p.entries ++ entries_in q ps
