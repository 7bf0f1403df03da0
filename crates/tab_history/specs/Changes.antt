-- To be believed. The changes that accepted events make. All state is read from a list of them, the newest first.
use Rattle.std.specs.Prelude.{ℕ, ℤ, List, [], ◌∷◌, map, reverse}
use Rattle.tab_cells.specs.Written.{TimedUpdate, timed}
use Rattle.tab_rules.specs.declared.constraint.Constraint.{Constraint}
use Rattle.tab_policy.specs.declared.permission.SystemPermission.{SystemPermission}
use Rattle.tab_policy.specs.declared.permission.TablePermission.{TablePermission}
use Rattle.tab_policy.specs.declared.permission.TablePermission.TheVariants as table
use Rattle.tab_policy.specs.declared.permission.Permission.{Permission}
use Rattle.tab_policy.specs.declared.permission.Permission.TheVariants.{OfSystem, OfTable}
use Rattle.tab_history.specs.declared.event.TimeMode.{TimeMode}
use Rattle.tab_history.specs.declared.event.Act.{Act}
use Rattle.tab_history.specs.declared.event.Act.TheVariants.{Write, CreateTable, DropTable, SetConstraints, SetVersions, SetHorizon, CreateUser, DropUser, SetAuths, Grant, Revoke}

-- one change
pub data Change : Type 0 where
  -- the user is made
  UserMade : List ℕ → Change
  -- the user is dropped
  UserDropped : List ℕ → Change
  -- the user holds these authorizations, and no others
  AuthsSet : List ℕ → List (List ℕ) → Change
  -- the user has the system permission
  SystemGiven : List ℕ → SystemPermission → Change
  -- the user has the system permission no more
  SystemTaken : List ℕ → SystemPermission → Change
  -- the user has the permission for the table
  TableGiven : List ℕ → TablePermission → List ℕ → Change
  -- the user has the permission for the table no more
  TableTaken : List ℕ → TablePermission → List ℕ → Change
  -- the table is made, with this time mode and number of versions
  TableMade : List ℕ → TimeMode → ℕ → Change
  -- the table is dropped
  TableDropped : List ℕ → Change
  -- the table has these constraints, and no others
  ConstraintsSet : List ℕ → List Constraint → Change
  -- the table shows so many versions of a column
  VersionsSet : List ℕ → ℕ → Change
  -- the table takes no update below this time
  HorizonSet : List ℕ → ℤ → Change
  -- the table, the row and the updates, the last of them first
  Written : List ℕ → List ℕ → List TimedUpdate → Change

-- the creator of a table gets its five permissions
abbrev pub all_rights : List ℕ → List ℕ → List Change → List Change
all_rights user t rest = TableGiven user table.Read t ∷ TableGiven user table.Write t ∷ TableGiven user table.AlterTable t ∷ TableGiven user table.Grant t ∷ TableGiven user table.DropTable t ∷ rest

-- the user gets the permission
abbrev pub given : List ℕ → Permission → Change
given n (OfSystem p) = SystemGiven n p
given n (OfTable p t) = TableGiven n p t

-- the user loses the permission
abbrev pub taken : List ℕ → Permission → Change
taken n (OfSystem p) = SystemTaken n p
taken n (OfTable p t) = TableTaken n p t

-- What an accepted event of the user changes, where the clock is now. A compaction, whole or in parts, or a split changes nothing that is read
-- here, and who may save or load an image has changed nothing yet.
abbrev pub changes_of : ℤ → List ℕ → Act → List Change
changes_of now user (Write t m) = Written t m.row (reverse (map (timed now) m.updates)) ∷ []
changes_of now user (CreateTable t time n) = all_rights user t (TableMade t time n ∷ [])
changes_of now user (DropTable t) = TableDropped t ∷ []
changes_of now user (SetConstraints t cs) = ConstraintsSet t cs ∷ []
changes_of now user (SetVersions t many) = VersionsSet t many ∷ []
changes_of now user (SetHorizon t low) = HorizonSet t low ∷ []
changes_of now user (CreateUser n) = UserMade n ∷ []
changes_of now user (DropUser n) = UserDropped n ∷ []
changes_of now user (SetAuths n auths) = AuthsSet n auths ∷ []
changes_of now user (Grant n p) = given n p ∷ []
changes_of now user (Revoke n p) = taken n p ∷ []
changes_of now user act = []
