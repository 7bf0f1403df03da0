-- For proofs. The permissions that admit an action, as one for the whole server and some for one table.
use Rattle.std.specs.Prelude.{ℕ, List, [], ◌∷◌, ◌||◌, Bool, true, false, Option, Some, None}
use Rattle.std.specs.List.{list_any}
use Rattle.std.specs.Option.{option_map_or}
use Rattle.tab_policy.specs.declared.permission.SystemPermission.{SystemPermission}
use Rattle.tab_policy.specs.declared.permission.TablePermission.{TablePermission}
use Rattle.tab_policy.specs.declared.permission.Permission.{Permission}
use Rattle.tab_policy.specs.declared.permission.Permission.TheVariants.{OfSystem, OfTable}
use Rattle.tab_policy.specs.declared.sets.SystemPermissions.{SystemPermissions}
use Rattle.tab_policy.specs.declared.sets.TablePermissions.{TablePermissions}
use Rattle.tab_policy.specs.Sets.{system_contains, table_contains}

-- the permissions on the table
abbrev pub on_table : List ℕ → List TablePermission → List Permission
on_table t [] = []
on_table t (p ∷ ps) = OfTable p t ∷ on_table t ps

-- the permission for the whole server, if there is one, and then those on the table
abbrev pub listed : Option SystemPermission → List TablePermission → List ℕ → List Permission
listed None ps t = on_table t ps
listed (Some p) ps t = OfSystem p ∷ on_table t ps

-- the first of them
abbrev pub first_of_needs : Option SystemPermission → List TablePermission → Option (List ℕ) → Option Permission
first_of_needs (Some p) ps t = Some (OfSystem p)
first_of_needs None [] t = None
first_of_needs None (p ∷ ps) None = None
first_of_needs None (p ∷ ps) (Some t) = Some (OfTable p t)

-- whether one of them is in these sets
abbrev pub is_met : Option SystemPermission → List TablePermission → SystemPermissions → TablePermissions → Bool
is_met system ps held rights = option_map_or (system_contains held) system false || list_any (table_contains rights) ps

-- whether there is none
abbrev pub are_none : Option SystemPermission → List TablePermission → Bool
are_none None [] = true
are_none None (p ∷ ps) = false
are_none (Some p) ps = false
