-- To be believed. Whether an action is admitted, and what stops it.
use Rattle.std.specs.Prelude.{ℕ, List, [], ◌∷◌, Bool, true, false, Option, Some, None, if◌then◌else◌}
use Rattle.std.specs.List.{list_any}
use Rattle.tab_policy.specs.declared.permission.SystemPermission.{SystemPermission}
use Rattle.tab_policy.specs.declared.permission.TablePermission.{TablePermission}
use Rattle.tab_policy.specs.declared.permission.Permission.{Permission}
use Rattle.tab_policy.specs.declared.permission.Permission.TheVariants.{OfSystem, OfTable}
use Rattle.tab_policy.specs.declared.decision.Denial.{Denial}
use Rattle.tab_policy.specs.declared.decision.Denial.TheVariants.{UnknownUser, NoTable, PermissionDenied}
use Rattle.tab_policy.specs.Actions.{Action, table_named, needs}

-- what a decision looks at: whether the caller is known, his permissions, and which tables exist
pub record Standing : Type 0 where
  pub known : Bool
  pub system : SystemPermission → Bool
  pub table : TablePermission → List ℕ → Bool
  pub exists : List ℕ → Bool

-- whether the caller has the permission
abbrev pub holds_permission : Standing → Permission → Bool
holds_permission s (OfSystem p) = s.system p
holds_permission s (OfTable p t) = s.table p t

-- the permission, unless one is held
abbrev pub unless_any : Bool → Permission → Option Permission
unless_any true p = None
unless_any false p = Some p

-- the first permission listed, where none of them is held
abbrev pub permission_missing : Standing → List Permission → Option Permission
permission_missing s [] = None
permission_missing s (p ∷ ps) = unless_any (list_any (holds_permission s) (p ∷ ps)) p

-- the named table, where it doesn't exist
abbrev pub table_missing : Standing → Option (List ℕ) → Option (List ℕ)
table_missing s None = None
table_missing s (Some t) = if s.exists t then None else Some t

-- a missing table comes before a missing permission
abbrev pub judged : Option (List ℕ) → Option Permission → Option Denial
judged (Some t) missing = Some (NoTable t)
judged None (Some p) = Some (PermissionDenied p)
judged None None = None

-- why the action isn't admitted, if it isn't: an unknown caller first, then a table that doesn't exist, then the permissions
abbrev pub decision : Standing → Action → Option Denial
decision s a = if s.known then judged (table_missing s (table_named a)) (permission_missing s (needs a)) else Some UnknownUser
