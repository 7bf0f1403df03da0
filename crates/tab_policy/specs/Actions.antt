-- To be believed. Which permissions admit which action. (This server's own profile of Accumulo's rules)
use Rattle.std.specs.Prelude.{ℕ, List, [], ◌∷◌, Option, Some, None}
use Rattle.tab_policy.specs.declared.permission.SystemPermission.{SystemPermission}
use Rattle.tab_policy.specs.declared.permission.SystemPermission.TheVariants as system
use Rattle.tab_policy.specs.declared.permission.TablePermission.TheVariants as table
use Rattle.tab_policy.specs.declared.permission.Permission.{Permission}
use Rattle.tab_policy.specs.declared.permission.Permission.TheVariants.{OfSystem, OfTable}
use Rattle.tab_policy.specs.declared.action.TableAction.{TableAction}
use Rattle.tab_policy.specs.declared.action.TableAction.TheVariants as on
use Rattle.tab_policy.specs.declared.action.ServerAction.{ServerAction}
use Rattle.tab_policy.specs.declared.action.ServerAction.TheVariants as server
use Rattle.tab_policy.specs.declared.action.Action.{Action as Lent}
use Rattle.tab_policy.specs.declared.action.Action.TheVariants as lent

-- an event's kind, with the table or the permission that it names
pub data Action : Type 0 where
  OnTable : TableAction → List ℕ → Action
  OnServer : ServerAction → Action
  Grant : Permission → Action
  Revoke : Permission → Action

-- the action, wherever what it names lies
abbrev pub asked_for : Lent → Action
asked_for (lent.OnTable a t) = OnTable a t.now
asked_for (lent.OnServer a) = OnServer a
asked_for (lent.Grant p) = Grant p.now
asked_for (lent.Revoke p) = Revoke p.now

-- the table that a permission is on
abbrev pub table_of : Permission → Option (List ℕ)
table_of (OfSystem p) = None
table_of (OfTable p t) = Some t

-- the table that must exist
abbrev pub table_named : Action → Option (List ℕ)
table_named (OnTable a t) = Some t
table_named (OnServer a) = None
table_named (Grant p) = table_of p
table_named (Revoke p) = table_of p

-- what admits a change of a table's settings or tablets
abbrev pub alters : List ℕ → List Permission
alters t = OfSystem system.AlterTable ∷ OfTable table.AlterTable t ∷ []

-- what admits a compaction: who may alter a table or write to it
abbrev pub compacts : List ℕ → List Permission
compacts t = OfSystem system.AlterTable ∷ OfTable table.AlterTable t ∷ OfTable table.Write t ∷ []

-- what admits granting and revoking a permission
abbrev pub hands_out : Permission → List Permission
hands_out (OfSystem p) = OfSystem system.Grant ∷ []
hands_out (OfTable p t) = OfSystem system.AlterTable ∷ OfTable table.Grant t ∷ []

-- what admits the action on the table
abbrev pub needs_on : TableAction → List ℕ → List Permission
needs_on on.Open t = OfTable table.Read t ∷ []
needs_on on.Write t = OfTable table.Write t ∷ []
needs_on on.DropTable t = OfSystem system.DropTable ∷ OfTable table.DropTable t ∷ []
needs_on on.AddSplit t = alters t
needs_on on.SplitBySize t = alters t
needs_on on.Splits t = alters t
needs_on on.Status t = alters t
needs_on on.SetConstraints t = alters t
needs_on on.SetVersions t = alters t
needs_on on.SetHorizon t = alters t
needs_on on.Flush t = compacts t
needs_on on.Compact t = compacts t
needs_on on.Begin t = compacts t
needs_on on.Install t = compacts t
needs_on on.Rights t = []

-- the permission that admits the action on users, new tables and the server
abbrev pub server_permission : ServerAction → SystemPermission
server_permission server.CreateTable = system.CreateTable
server_permission server.CreateUser = system.CreateUser
server_permission server.DropUser = system.DropUser
server_permission server.SetAuths = system.AlterUser
server_permission server.Save = system.System
server_permission server.Load = system.System
server_permission server.Rotate = system.System

-- the permissions of which any admits the action, in their order
abbrev pub needs : Action → List Permission
needs (OnTable a t) = needs_on a t
needs (OnServer a) = OfSystem (server_permission a) ∷ []
needs (Grant p) = hands_out p
needs (Revoke p) = hands_out p
