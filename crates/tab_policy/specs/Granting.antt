-- For proofs. Which right a grant gives and a revocation takes.
use Rattle.std.specs.Prelude.{ℕ, List, Bool, false, ◌&&◌, bytes_eq}
use Rattle.tab_policy.specs.declared.permission.SystemPermission.{SystemPermission}
use Rattle.tab_policy.specs.declared.permission.TablePermission.{TablePermission}
use Rattle.tab_policy.specs.declared.permission.Permission.{Permission}
use Rattle.tab_policy.specs.declared.permission.Permission.TheVariants.{OfSystem, OfTable}
use Rattle.tab_policy.specs.Permissions.{same_system, same_table}
use Rattle.tab_policy.specs.State.{State, user_exists, table_exists}

-- whether this permission of the user m is the system permission p of the user n
abbrev pub is_system_right : List ℕ → Permission → List ℕ → SystemPermission → Bool
is_system_right m (OfSystem q) n p = bytes_eq m n && same_system q p
is_system_right m (OfTable q s) n p = false

-- whether this permission of the user m is the permission p of the user n on the table t
abbrev pub is_table_right : List ℕ → Permission → List ℕ → TablePermission → List ℕ → Bool
is_table_right m (OfSystem q) n p t = false
is_table_right m (OfTable q s) n p t = bytes_eq m n && (same_table q p && bytes_eq s t)

-- whether the user, and the table of a permission on a table, exist
abbrev pub can_hold : State → List ℕ → Permission → Bool
can_hold s m (OfSystem q) = user_exists s m
can_hold s m (OfTable q t) = user_exists s m && table_exists s t
