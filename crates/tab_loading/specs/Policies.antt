-- For proofs. What is read of a policy once users of an image are put into it, and its tables with the rights on them.
use Rattle.std.specs.Prelude.{ℕ, List, [], true, false, ◌&&◌, cond, ◌+◌, bytes_eq}
use Rattle.std.specs.List.{fold, list_any}
use Rattle.tab_policy.specs.Permissions.{same_system, same_table}
use Rattle.tab_policy.specs.Roots.{root}
use Rattle.tab_policy.specs.Sets.{system_contains, table_contains}
use Rattle.tab_policy.specs.State.{Readings}
use Rattle.tab_policy.specs.declared.permission.SystemPermission.{SystemPermission}
use Rattle.tab_policy.specs.declared.permission.TablePermission.{TablePermission}
use Rattle.tab_policy.specs.declared.sets.SystemPermissions.{SystemPermissions}
use Rattle.tab_policy.specs.declared.sets.TablePermissions.{TablePermissions}
use Rattle.tab_image.specs.declared.table.ImageRight.{ImageRight}
use Rattle.tab_image.specs.declared.table.ImageTable.{ImageTable}
use Rattle.tab_image.specs.declared.table.TableHead.{TableHead}
use Rattle.tab_image.specs.declared.user.ImageUser.{ImageUser}

-- ---- users
-- of a new policy: root alone, with all system permissions
abbrev pub new_readings : Readings
new_readings = record { users = bytes_eq root; count = 1; auths = λ n. []; system = λ n p. bytes_eq root n; rights = λ n p t. false; tables = λ t. false }

-- once the user, if he is there, was granted those of these system permissions that are in the set
abbrev pub granted : List ℕ → SystemPermissions → List SystemPermission → Readings → Readings
granted m held ps r = record r {
  system = λ n p. cond (r.users m && (bytes_eq m n && (system_contains held p && list_any (λ q. same_system q p) ps))) true (r.system n p);
}

-- once the user is there, with all that the image says of him and nothing else, whoever had his name before
abbrev pub with_user : Readings → ImageUser → Readings
with_user r u = record r {
  users = λ n. cond (bytes_eq u.name n) true (r.users n);
  count = cond (r.users u.name) r.count (r.count + 1);
  auths = λ n. cond (bytes_eq u.name n) u.authorizations (r.auths n);
  system = λ n p. cond (bytes_eq u.name n) (system_contains u.system p) (r.system n p);
  rights = λ n p t. cond (bytes_eq u.name n) false (r.rights n p t);
}

-- ---- tables
-- once the user was granted those of these permissions on the table that are in the set, if he and the table are there
abbrev pub granted_on : List ℕ → List ℕ → TablePermissions → List TablePermission → Readings → Readings
granted_on s m held ps r = record r {
  rights = λ n p t. cond ((r.users m && r.tables s) && (bytes_eq m n && ((table_contains held p && list_any (λ q. same_table q p) ps) && bytes_eq s t))) true (r.rights n p t);
}

-- once the user holds all of these on the table, if he and the table are there
abbrev pub with_right : List ℕ → Readings → ImageRight → Readings
with_right s r right = record r {
  rights = λ n p t. cond ((r.users right.user && r.tables s) && (bytes_eq right.user n && (table_contains right.held p && bytes_eq s t))) true (r.rights n p t);
}

-- once the table is there, with nobody's rights on it
abbrev pub with_name : Readings → List ℕ → Readings
with_name r s = record r {
  rights = λ n p t. cond (bytes_eq s t) false (r.rights n p t);
  tables = λ t. cond (bytes_eq s t) true (r.tables t);
}

-- .. with the rights that the image says
abbrev pub with_head : Readings → TableHead → Readings
with_head r head = fold (with_right head.name) (with_name r head.name) head.rights

abbrev pub with_table : Readings → ImageTable → Readings
with_table r t = with_head r t.head
