-- For proofs. Changes of what is kept of a user.
use Rattle.std.specs.Prelude.{ℕ, List, Bool}
use Rattle.tab_policy.specs.declared.permission.SystemPermission.{SystemPermission}
use Rattle.tab_policy.specs.declared.permission.SystemPermission.TheVariants as system
use Rattle.tab_policy.specs.declared.sets.SystemPermissions.{SystemPermissions}
use Rattle.tab_policy.specs.declared.account.Account.{Account}

-- the account with these authorizations
abbrev pub with_auths : List (List ℕ) → Account → Account
with_auths set a = record a { auths = set }

-- the set with or without the permission
abbrev pub system_set : SystemPermission → Bool → SystemPermissions → SystemPermissions
system_set system.Grant held s = record s { grant = held }
system_set system.CreateTable held s = record s { create_table = held }
system_set system.DropTable held s = record s { drop_table = held }
system_set system.AlterTable held s = record s { alter_table = held }
system_set system.CreateUser held s = record s { create_user = held }
system_set system.DropUser held s = record s { drop_user = held }
system_set system.AlterUser held s = record s { alter_user = held }
system_set system.System held s = record s { system = held }

-- the account with or without the system permission
abbrev pub with_system : SystemPermission → Bool → Account → Account
with_system p held a = record a { system = system_set p held a.system }
