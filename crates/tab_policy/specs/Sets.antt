-- To be believed. Sets of permissions, read by their members.
use Rattle.std.specs.Prelude.{List, Bool, filter}
use Rattle.tab_policy.specs.declared.permission.SystemPermission.{SystemPermission}
use Rattle.tab_policy.specs.declared.permission.SystemPermission.TheVariants as system
use Rattle.tab_policy.specs.declared.permission.TablePermission.{TablePermission}
use Rattle.tab_policy.specs.declared.permission.TablePermission.TheVariants as table
use Rattle.tab_policy.specs.declared.sets.SystemPermissions.{SystemPermissions}
use Rattle.tab_policy.specs.declared.sets.TablePermissions.{TablePermissions}
use Rattle.tab_policy.specs.Permissions.{all_system, all_table}

-- whether the set has the system permission
abbrev pub system_contains : SystemPermissions → SystemPermission → Bool
system_contains s system.Grant = s.grant
system_contains s system.CreateTable = s.create_table
system_contains s system.DropTable = s.drop_table
system_contains s system.AlterTable = s.alter_table
system_contains s system.CreateUser = s.create_user
system_contains s system.DropUser = s.drop_user
system_contains s system.AlterUser = s.alter_user
system_contains s system.System = s.system

-- whether the set has the table permission
abbrev pub table_contains : TablePermissions → TablePermission → Bool
table_contains s table.Read = s.read
table_contains s table.Write = s.write
table_contains s table.AlterTable = s.alter_table
table_contains s table.Grant = s.grant
table_contains s table.DropTable = s.drop_table

-- the members in the order of the system permissions
abbrev pub system_members : SystemPermissions → List SystemPermission
system_members s = filter (system_contains s) all_system

-- the members in the order of the table permissions
abbrev pub table_members : TablePermissions → List TablePermission
table_members s = filter (table_contains s) all_table
