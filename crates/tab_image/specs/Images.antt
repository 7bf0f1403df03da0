-- To be believed by whoever relies on it. What an image is: a relation between bytes and what they say. It says nothing of how bytes are read. What an image says is the Rust
-- structs of `user`, `table` and `image` themselves.
use Rattle.std.specs.Prelude.{ℕ, ℤ, ◌≡◌, ◌⊎◌, ◌≤◌, ◌<◌, ◌^◌, ◌==◌, ◌&&◌, Bool, true, false, List, [], length, map, bytes_eq, IsOk, cond, FitsSigned}
use Rattle.std.specs.List.{AllByRecursion, list_all, list_any}
use Rattle.std.specs.List.Sorted.{IsStrictlySortedBy}
use Rattle.std.specs.Int.{w64}
use Rattle.tab_key.specs.Encoding.{IsShort, FitsNumbers}
use Rattle.tab_key.specs.Names.{IsName}
use Rattle.tab_key.specs.Records.{Record}
use Rattle.tab_key.specs.Order.{record_cmp}
use Rattle.tab_key.specs.declared.key.Kind.TheVariants.{Delete}
use Rattle.tab_key.specs.declared.limited_part.TheConstants.{MAX_PART_LEN, MAX_UPDATES}
use Rattle.tab_label.specs.Sets.{IsRising}
use Rattle.tab_label.specs.Reading.{label_of}
use Rattle.tab_rules.specs.Constraints.{constraint_set_of}
use Rattle.tab_policy.specs.Holders.{has_any}
use Rattle.tab_policy.specs.Permissions.{all_system}
use Rattle.tab_policy.specs.Roots.{root}
use Rattle.tab_policy.specs.Sets.{system_contains}
use Rattle.tab_history.specs.Checks.{too_many_auths}
use Rattle.tab_history.specs.Settings.{least, is_version_count}
use Rattle.tab_history.specs.declared.event.TimeMode.TheVariants.{Server}
use Rattle.tab_codec.specs.Parts.{table_bits}
use Rattle.tab_image.specs.declared.user.ImageUser.{ImageUser}
use Rattle.tab_image.specs.declared.table.ImageRight.{ImageRight}
use Rattle.tab_image.specs.declared.table.TableHead.{TableHead}
use Rattle.tab_image.specs.declared.table.ImageTable.{ImageTable}
use Rattle.tab_image.specs.declared.image.Image.{Image}
pub use Rattle.tab_image.specs.Spelling.{magic}
use Rattle.tab_image.specs.Spelling.{image_bytes}

-- ---- versions
-- those that there are; of the first one no table has a horizon
abbrev pub IsKnown : ℕ → Type 0
IsKnown version = (version ≡ 1) ⊎ (version ≡ 2)

-- the version that is written
abbrev pub written_version : ℕ
written_version = 2

-- ---- which images have a spelling
-- a name, and a set of authorizations: a list that rises strictly
pub record FitsUser (u : ImageUser) : Type 0 where
  pub name : IsName u.name
  pub rising : IsRising u.authorizations

-- one permission at least
pub record FitsRight (r : ImageRight) : Type 0 where
  pub user : IsName r.user
  pub some : 0 < table_bits r.held

-- a horizon of eight bytes with a sign; in the first version, where no byte says it, the least one
abbrev pub FitsHorizon : ℕ → ℤ → Type 0
FitsHorizon version horizon = cond (version == 1) (horizon ≡ least) (FitsSigned w64 horizon)

-- 1 to 1,000 versions; constraints in the one form of their set; no list over its count, and no row over its limit
pub record FitsHead (version : ℕ) (t : TableHead) : Type 0 where
  pub name : IsName t.name
  pub versions : is_version_count t.versions ≡ true
  pub constraints : constraint_set_of t.constraints ≡ t.constraints
  pub horizon : FitsHorizon version t.horizon
  pub rights : AllByRecursion FitsRight t.rights
  pub rights_few : length t.rights < 2 ^ 32
  pub ends : AllByRecursion (λ row. length row ≤ MAX_PART_LEN) t.ends
  pub ends_few : length t.ends < 2 ^ 32

-- parts within the limit, and numbers of their widths
pub record FitsRecord (r : Record) : Type 0 where
  pub short : IsShort r
  pub numbers : FitsNumbers r.key.timestamp r.seq r.idx

pub record FitsTable (version : ℕ) (t : ImageTable) : Type 0 where
  pub head : FitsHead version t.head
  pub records : AllByRecursion FitsRecord t.records
  pub records_few : length t.records < 2 ^ 64

pub record Fits (version : ℕ) (i : Image) : Type 0 where
  pub clock : FitsSigned w64 i.clock
  pub next : i.next < 2 ^ 64
  pub users : AllByRecursion FitsUser i.users
  pub users_few : length i.users < 2 ^ 32
  pub tables : AllByRecursion (FitsTable version) i.tables
  pub tables_few : length i.tables < 2 ^ 32

-- ---- what else must hold
-- The limits that bytes keep by their widths are asked for here too: what is read of an input whose bytes aren't known must keep them.
-- root is a user, and has all system permissions
abbrev pub is_root : ImageUser → Bool
is_root u = bytes_eq u.name root && list_all (system_contains u.system) all_system

-- there is a user of this name
abbrev pub has_user : List ImageUser → List ℕ → Bool
has_user users name = list_any (λ u. bytes_eq u.name name) users

-- a user's authorizations are within the limits, and root alone may grant system permissions
pub record IsSaneUser (u : ImageUser) : Type 0 where
  pub few : too_many_auths u.authorizations ≡ false
  pub grant : u.system.grant ≡ true → u.name ≡ root

-- no part of a record is too long; it is of an accepted mutation, and has a label that is one; a marker has no value
pub record IsSaneRecord (next : ℕ) (r : Record) : Type 0 where
  pub short : IsShort r
  pub seq : r.seq < next
  pub idx : r.idx < MAX_UPDATES
  pub marker : r.kind ≡ Delete → r.value ≡ []
  pub label : IsOk (label_of r.key.label)

-- its rights are of users that there are, one permission at least; rights, end rows and records rise strictly; no end row is too long, and
-- there are fewer than 2^32; a table that gives its timestamps has no horizon, which is the least one
pub record IsSaneTable (users : List ImageUser) (next : ℕ) (t : ImageTable) : Type 0 where
  pub rights : IsRising (map (λ r. r.user) t.head.rights)
  pub known : AllByRecursion (λ r. has_user users r.user ≡ true) t.head.rights
  pub some : AllByRecursion (λ r. has_any r.held ≡ true) t.head.rights
  pub ends : IsRising t.head.ends
  pub ends_short : AllByRecursion (λ row. length row ≤ MAX_PART_LEN) t.head.ends
  pub ends_few : length t.head.ends < 2 ^ 32
  pub server : t.head.time ≡ Server → t.head.horizon ≡ least
  pub records : IsStrictlySortedBy record_cmp t.records
  pub each : AllByRecursion (IsSaneRecord next) t.records

-- users and tables rise strictly, there are fewer than 2^32 of each, root is there, and each user and each table is sane
pub record IsSane (i : Image) : Type 0 where
  pub users : IsRising (map (λ u. u.name) i.users)
  pub users_few : length i.users < 2 ^ 32
  pub root_there : list_any is_root i.users ≡ true
  pub each_user : AllByRecursion IsSaneUser i.users
  pub tables : IsRising (map (λ t. t.head.name) i.tables)
  pub tables_few : length i.tables < 2 ^ 32
  pub each_table : AllByRecursion (IsSaneTable i.users i.next) i.tables

-- ---- images
-- the bytes are an image of this version, and say this: they are its spelling, and all conditions hold
pub record IsImage (version : ℕ) (bytes : List ℕ) (i : Image) : Type 0 where
  pub known : IsKnown version
  pub spelled : bytes ≡ image_bytes version i
  pub fits : Fits version i
  pub sane : IsSane i
