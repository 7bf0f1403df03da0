-- To be believed by whoever relies on it. The parts of what an image says of a user and of a table, with these texts.
use Rattle.std.specs.Prelude.{ℕ, List, [], true, false, cond, bytes_eq, int_lt}
use Rattle.std.specs.List.{flat_map, list_any}
use Rattle.tab_policy.specs.Permissions.{all_system, all_table}
use Rattle.tab_policy.specs.Roots.{root}
use Rattle.tab_policy.specs.Sets.{system_contains, table_contains}
use Rattle.tab_policy.specs.declared.permission.SystemPermission.{SystemPermission}
use Rattle.tab_policy.specs.declared.permission.TablePermission.{TablePermission}
use Rattle.tab_history.specs.Settings.{least}
use Rattle.tab_image.specs.declared.user.ImageUser.{ImageUser}
use Rattle.tab_image.specs.declared.table.ImageRight.{ImageRight}
use Rattle.tab_image.specs.declared.table.TableHead.{TableHead}
use Rattle.tab_image.specs.declared.table.ImageTable.{ImageTable}
use Rattle.tab_walk.specs.Texts.{Texts}
use Rattle.tab_walk.specs.declared.rights.ToldRights.{ToldRights}
use Rattle.tab_walk.specs.declared.rights.ToldRights.TheVariants.{All, Changed}
use Rattle.tab_walk.specs.declared.users.UserPart.{UserPart}
use Rattle.tab_walk.specs.declared.users.UserPart.TheVariants.{Named, Created as NewUser, Authorized, System, Granted}
use Rattle.tab_walk.specs.declared.tables.TablePart.{TablePart}
use Rattle.tab_walk.specs.declared.tables.TablePart.TheVariants.{Created, Constrained, Bounded, Split, Filled, Unheld, Held}

-- ---- a user
-- a system permission that he holds
abbrev pub system_text : Texts → ImageUser → SystemPermission → List ℕ
system_text t u p = cond (system_contains u.system p) (t.system u.name p) []

-- root is there from the first, and has all system permissions
abbrev pub user_part : Texts → ImageUser → UserPart → List ℕ
user_part t u Named = t.user u.name
user_part t u NewUser = cond (bytes_eq u.name root) [] (t.user u.name)
user_part t u Authorized = t.authorizations u.name u.authorizations
user_part t u System = flat_map (system_text t u) all_system
user_part t u Granted = cond (bytes_eq u.name root) [] (flat_map (system_text t u) all_system)

-- these parts of a user
abbrev pub user_text : Texts → List UserPart → ImageUser → List ℕ
user_text t parts u = flat_map (user_part t u) parts

-- ---- who may what on a table
-- root, who made the table, lacks a permission on it
abbrev pub lost_text : Texts → List ℕ → TablePermission → List ℕ
lost_text t table p = t.right table root p false

-- .. each of them where he holds none
abbrev pub unheld_text : Texts → TableHead → List ℕ
unheld_text t h = cond (list_any (λ r. bytes_eq r.user root) h.rights) [] (flat_map (lost_text t h.name) all_table)

-- a permission of somebody, or only what differs from what held when root made the table: root keeps it or loses it, another gets it or doesn't
abbrev pub right_text : Texts → ToldRights → List ℕ → ImageRight → TablePermission → List ℕ
right_text t All table r p = t.right table r.user p (table_contains r.held p)
right_text t Changed table r p = cond (bytes_eq r.user root) (cond (table_contains r.held p) [] (lost_text t table p)) (cond (table_contains r.held p) (t.right table r.user p true) [])

-- all permissions of one user
abbrev pub rights_text : Texts → ToldRights → List ℕ → ImageRight → List ℕ
rights_text t told table r = flat_map (right_text t told table r) all_table

-- ---- a table
-- a horizon above the least one
abbrev pub horizon_text : Texts → TableHead → List ℕ
horizon_text t h = cond (int_lt least h.horizon) (t.horizon h.name h.horizon) []

abbrev pub table_part : Texts → ImageTable → TablePart → List ℕ
table_part t x Created = t.table x.head
table_part t x Constrained = t.constraints x.head
table_part t x Bounded = horizon_text t x.head
table_part t x Split = flat_map (t.split x.head.name) x.head.ends
table_part t x Filled = t.records x
table_part t x Unheld = unheld_text t x.head
table_part t x (Held told) = flat_map (rights_text t told x.head.name) x.head.rights

-- these parts of a table
abbrev pub table_text : Texts → List TablePart → ImageTable → List ℕ
table_text t parts x = flat_map (table_part t x) parts
