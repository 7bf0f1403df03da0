-- To be believed. What a policy holds, and how it is read.
use Rattle.std.specs.Prelude.{ℕ, ◌≡◌, List, [], Bool, false, ◌||◌, Option, Some, None, IfSome, is_some, length, bytes_eq}
use Rattle.tab_policy.specs.declared.permission.SystemPermission.{SystemPermission}
use Rattle.tab_policy.specs.declared.permission.TablePermission.{TablePermission}
use Rattle.tab_policy.specs.declared.sets.TablePermissions.{TablePermissions}
use Rattle.tab_policy.specs.declared.account.Account.{Account}
use Rattle.tab_policy.specs.declared.decision.Caller.{Caller}
use Rattle.tab_policy.specs.Sets.{system_contains, table_contains}
use Rattle.tab_policy.specs.Entries.{at_name, at_life}
use Rattle.tab_policy.specs.Decisions.{Standing}
pub use Rattle.tab_policy.specs.Roots.{root}

-- the users with what they hold, and the tables, each by name. The rights on a table are by the lives of the users who have them
pub record State : Type 0 where
  pub users : List (List ℕ × Account)
  pub tables : List (List ℕ × List (ℕ × TablePermissions))

-- the authorizations of an account
abbrev pub account_auths : Option Account → List (List ℕ)
account_auths None = []
account_auths (Some a) = a.auths

-- whether an account was granted the system permission
abbrev pub account_system : Option Account → SystemPermission → Bool
account_system None p = false
account_system (Some a) p = system_contains a.system p

-- the life that the user of an account is in
abbrev pub account_life : Option Account → Option ℕ
account_life None = None
account_life (Some a) = Some a.life

-- whether a set of rights that may be absent has the permission
abbrev pub some_contains : Option TablePermissions → TablePermission → Bool
some_contains None p = false
some_contains (Some s) p = table_contains s p

-- whether the rights on a table, if there is one, give the permission to whoever is in the life, if anybody is
abbrev pub table_gives : Option (List (ℕ × TablePermissions)) → Option ℕ → TablePermission → Bool
table_gives None life p = false
table_gives (Some rights) None p = false
table_gives (Some rights) (Some l) p = some_contains (at_life l rights) p

-- whether there is a user of this name
unfoldable pub user_exists : State → List ℕ → Bool
user_exists s n = is_some (at_name n s.users)

-- how many users there are
unfoldable pub user_count : State → ℕ
user_count s = length s.users

-- the authorizations that the user holds, none where there is no such user
unfoldable pub auths_of : State → List ℕ → List (List ℕ)
auths_of s n = account_auths (at_name n s.users)

-- whether the system permission was granted to the user and not revoked since
unfoldable pub system_granted : State → List ℕ → SystemPermission → Bool
system_granted s n p = account_system (at_name n s.users) p

-- whether the permission on the table was granted to the user and not revoked since
unfoldable pub table_granted : State → List ℕ → TablePermission → List ℕ → Bool
table_granted s n p t = table_gives (at_name t s.tables) (account_life (at_name n s.users)) p

-- whether there is a table of this name
unfoldable pub table_exists : State → List ℕ → Bool
table_exists s t = is_some (at_name t s.tables)

-- root has every system permission
abbrev pub has_system : State → List ℕ → SystemPermission → Bool
has_system s n p = bytes_eq n root || system_granted s n p

-- what a decision looks at, for this caller
abbrev pub standing_of : State → List ℕ → Standing
standing_of s user = record {
  known = user_exists s user;
  system = has_system s user;
  table = table_granted s user;
  exists = table_exists s;
}

-- What was found of the user holds: his authorizations, his system permissions, and his permissions on the table, if one is named.
pub record IsCaller (caller : Caller) (s : State) (user : List ℕ) (named : Option (List ℕ)) : Type 0 where
  pub authorizations : caller.authorizations.now ≡ auths_of s user
  pub system : (p : SystemPermission) → system_contains caller.system p ≡ has_system s user p
  pub on_table : IfSome named (λ t. (p : TablePermission) → table_contains caller.on_table p ≡ table_granted s user p t)

-- ---- the whole state, as it is read
-- all that is read of a policy: which users and tables there are, how many users, and what each user holds
pub record Readings : Type 0 where
  pub users : List ℕ → Bool
  pub count : ℕ
  pub auths : List ℕ → List (List ℕ)
  pub system : List ℕ → SystemPermission → Bool
  pub rights : List ℕ → TablePermission → List ℕ → Bool
  pub tables : List ℕ → Bool

-- what is read of this policy
unfoldable pub readings : State → Readings
readings s = record { users = user_exists s; count = user_count s; auths = auths_of s; system = system_granted s; rights = table_granted s; tables = table_exists s }
