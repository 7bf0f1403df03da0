-- To be believed. What concerns a user of the changes that events make: tables and their settings, himself and his rights, and updates whose label holds for him.
use Rattle.std.specs.Prelude.{ℕ, List, [], ◌∷◌, ◌++◌, Bool, cond, filter, bytes_eq}
use Rattle.tab_label.specs.Holding.{label_holds}
use Rattle.tab_history.specs.Changes.{Change, UserMade, UserDropped, AuthsSet, SystemGiven, SystemTaken, TableGiven, TableTaken, TableMade, TableDropped, ConstraintsSet, VersionsSet, HorizonSet, Written}
use Rattle.tab_cells.specs.Written.{TimedUpdate}

-- the change, where the test holds
abbrev pub only_if : Bool → Change → List Change
only_if b c = cond b (c ∷ []) []

-- a write of these updates, where there are any
abbrev pub if_any : List ℕ → List ℕ → List TimedUpdate → List Change
if_any t row [] = []
if_any t row (p ∷ ps) = Written t row (p ∷ ps) ∷ []

-- whether the label of the update holds under the authorizations
abbrev pub may_read : List (List ℕ) → TimedUpdate → Bool
may_read held p = label_holds p.label held

-- what concerns the user of one change, if he ever holds these authorizations
abbrev pub concerning : List (List ℕ) → List ℕ → Change → List Change
concerning held user (UserMade n) = only_if (bytes_eq n user) (UserMade n)
concerning held user (UserDropped n) = only_if (bytes_eq n user) (UserDropped n)
concerning held user (AuthsSet n set) = only_if (bytes_eq n user) (AuthsSet n set)
concerning held user (SystemGiven n p) = only_if (bytes_eq n user) (SystemGiven n p)
concerning held user (SystemTaken n p) = only_if (bytes_eq n user) (SystemTaken n p)
concerning held user (TableGiven n p t) = only_if (bytes_eq n user) (TableGiven n p t)
concerning held user (TableTaken n p t) = only_if (bytes_eq n user) (TableTaken n p t)
concerning held user (TableMade t time v) = TableMade t time v ∷ []
concerning held user (TableDropped t) = TableDropped t ∷ []
concerning held user (ConstraintsSet t cs) = ConstraintsSet t cs ∷ []
concerning held user (VersionsSet t many) = VersionsSet t many ∷ []
concerning held user (HorizonSet t low) = HorizonSet t low ∷ []
concerning held user (Written t row ps) = if_any t row (filter (may_read held) ps)

-- what concerns him of several changes
abbrev pub visible : List (List ℕ) → List ℕ → List Change → List Change
visible held user [] = []
visible held user (c ∷ j) = concerning held user c ++ visible held user j
