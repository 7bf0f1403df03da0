-- To be believed by whoever relies on it. Which image is the image of what a core holds.
use Rattle.std.specs.Prelude.{ℕ, ◌≡◌, List, filter, length, map}
use Rattle.std.specs.Map.{keys_of}
use Rattle.tab_key.specs.Sorted.{sorted}
use Rattle.tab_label.specs.Sets.{set_of}
use Rattle.tab_policy.specs.Holders.{AreUsers, has_any}
use Rattle.tab_policy.specs.State.{State, user_count, auths_of, system_granted, table_granted}
use Rattle.tab_policy.specs.declared.permission.SystemPermission.TheVariants as system
use Rattle.tab_policy.specs.declared.permission.TablePermission.TheVariants as table
use Rattle.tab_policy.specs.declared.sets.SystemPermissions.{SystemPermissions}
use Rattle.tab_policy.specs.declared.sets.TablePermissions.{TablePermissions}
use Rattle.tab_image.specs.declared.image.Image.{Image}
use Rattle.tab_image.specs.declared.table.ImageRight.{ImageRight}
use Rattle.tab_image.specs.declared.table.ImageTable.{ImageTable}
use Rattle.tab_image.specs.declared.table.TableHead.{TableHead}
use Rattle.tab_image.specs.declared.user.ImageUser.{ImageUser}
use Rattle.tab_store.specs.ByRow.{records_of_all, ends_of}
use Rattle.tab_store.specs.Stores.{TableContents, CoreContents}

-- ---- users
-- the system permissions that were granted to the user and not revoked since
abbrev pub system_of : State → List ℕ → SystemPermissions
system_of s n = record {
  grant = system_granted s n system.Grant;
  create_table = system_granted s n system.CreateTable;
  drop_table = system_granted s n system.DropTable;
  alter_table = system_granted s n system.AlterTable;
  create_user = system_granted s n system.CreateUser;
  drop_user = system_granted s n system.DropUser;
  alter_user = system_granted s n system.AlterUser;
  system = system_granted s n system.System;
}

-- the user with these permissions and his authorizations
abbrev pub user_of : State → List ℕ → ImageUser
user_of s n = record { name = n; system = system_of s n; authorizations = auths_of s n }

-- ---- rights
-- what the user holds on the table
abbrev pub held_of : State → List ℕ → List ℕ → TablePermissions
held_of s t n = record {
  read = table_granted s n table.Read t;
  write = table_granted s n table.Write t;
  alter_table = table_granted s n table.AlterTable t;
  grant = table_granted s n table.Grant t;
  drop_table = table_granted s n table.DropTable t;
}

abbrev pub right_of : State → List ℕ → List ℕ → ImageRight
right_of s t n = record { user = n; held = held_of s t n }

-- of these users all who hold anything on the table, each with all that he holds
abbrev pub rights_of : State → List (List ℕ) → List ℕ → List ImageRight
rights_of s names t = filter (λ (r : ImageRight). has_any r.held) (map (right_of s t) names)

-- ---- tables
-- its name, its settings, the rights of these users on it, and its end rows
abbrev pub head_of : State → List (List ℕ) → TableContents → TableHead
head_of s names t = record {
  name = t.name;
  time = t.settings.time;
  versions = t.settings.versions;
  constraints = t.settings.constraints;
  horizon = t.settings.horizon;
  rights = rights_of s names t.name;
  ends = ends_of t.tablets;
}

-- with all records of its tablets, in their order
abbrev pub table_of : State → List (List ℕ) → TableContents → ImageTable
table_of s names t = record { head = head_of s names t; records = sorted (records_of_all t.tablets) }

-- ---- the whole
-- all that a core with these users holds
abbrev pub image_with : CoreContents → List (List ℕ) → Image
image_with h names = record { clock = h.clock; next = h.next; users = map (user_of h.policy) names; tables = map (table_of h.policy names) h.tables }

-- the names of all users, as a set
unfoldable pub user_names : State → List (List ℕ)
user_names s = set_of (keys_of s.users)

-- no two users have one name
abbrev pub HaveOwnNames : State → Type 0
HaveOwnNames s = length (user_names s) ≡ user_count s

-- all that a core with its users holds
abbrev pub core_image : CoreContents → Image
core_image h = image_with h (user_names h.policy)

-- the image says all that the core holds: its users are all that there are, by name
pub record IsImageOf (h : CoreContents) (image : Image) : Type 0 where
  pub names : List (List ℕ)
  pub users : AreUsers h.policy names
  pub says : image ≡ image_with h names
