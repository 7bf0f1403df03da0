-- To be believed. The permissions, their order and their names. (Accumulo user manual: permissions)
use Rattle.std.specs.Prelude.{ℕ, List, [], ◌∷◌, Bool, ◌==◌, Option, find, bytes_eq, codes}
use Rattle.tab_policy.specs.declared.permission.SystemPermission.{SystemPermission}
use Rattle.tab_policy.specs.declared.permission.SystemPermission.TheVariants as system
use Rattle.tab_policy.specs.declared.permission.TablePermission.{TablePermission}
use Rattle.tab_policy.specs.declared.permission.TablePermission.TheVariants as table

-- the system permissions in their order
abbrev pub all_system : List SystemPermission
all_system = system.Grant ∷ system.CreateTable ∷ system.DropTable ∷ system.AlterTable ∷ system.CreateUser ∷ system.DropUser ∷ system.AlterUser ∷ system.System ∷ []

-- the table permissions in their order
abbrev pub all_table : List TablePermission
all_table = table.Read ∷ table.Write ∷ table.AlterTable ∷ table.Grant ∷ table.DropTable ∷ []

-- the place of a system permission in their order
abbrev pub system_place : SystemPermission → ℕ
system_place system.Grant = 0
system_place system.CreateTable = 1
system_place system.DropTable = 2
system_place system.AlterTable = 3
system_place system.CreateUser = 4
system_place system.DropUser = 5
system_place system.AlterUser = 6
system_place system.System = 7

-- the place of a table permission in their order
abbrev pub table_place : TablePermission → ℕ
table_place table.Read = 0
table_place table.Write = 1
table_place table.AlterTable = 2
table_place table.Grant = 3
table_place table.DropTable = 4

-- whether the two are one system permission
abbrev pub same_system : SystemPermission → SystemPermission → Bool
same_system p q = system_place p == system_place q

-- whether the two are one table permission
abbrev pub same_table : TablePermission → TablePermission → Bool
same_table p q = table_place p == table_place q

-- the name of a system permission
abbrev pub system_name : SystemPermission → List ℕ
system_name system.Grant = codes "GRANT"
system_name system.CreateTable = codes "CREATE_TABLE"
system_name system.DropTable = codes "DROP_TABLE"
system_name system.AlterTable = codes "ALTER_TABLE"
system_name system.CreateUser = codes "CREATE_USER"
system_name system.DropUser = codes "DROP_USER"
system_name system.AlterUser = codes "ALTER_USER"
system_name system.System = codes "SYSTEM"

-- the name of a table permission
abbrev pub table_name : TablePermission → List ℕ
table_name table.Read = codes "READ"
table_name table.Write = codes "WRITE"
table_name table.AlterTable = codes "ALTER_TABLE"
table_name table.Grant = codes "GRANT"
table_name table.DropTable = codes "DROP_TABLE"

-- the system permission of this name, if there is one
abbrev pub system_by_name : List ℕ → Option SystemPermission
system_by_name name = find (λ p. bytes_eq (system_name p) name) all_system

-- the table permission of this name, if there is one
abbrev pub table_by_name : List ℕ → Option TablePermission
table_by_name name = find (λ p. bytes_eq (table_name p) name) all_table
