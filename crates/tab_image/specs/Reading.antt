-- For proofs. Reading an image, from left to right.
use Rattle.std.specs.Prelude.{ℕ, ℤ, ◌≡◌, ◌≢◌, ◌<◌, ◌^◌, ◌↔◌, ◌==◌, nat_lt, Bool, ◌&&◌, ◌||◌, List, ◌++◌, take, drop, codes, bytes_eq, Option, Some, None, Result, Ok, Err, if◌then◌else◌}
use Rattle.std.specs.Int.{w16, to_be_bytes}
use Rattle.tab_key.specs.Records.{Record}
use Rattle.tab_policy.specs.declared.sets.SystemPermissions.{SystemPermissions}
use Rattle.tab_policy.specs.declared.sets.TablePermissions.{TablePermissions}
use Rattle.tab_history.specs.Settings.{least}
use Rattle.tab_codec.specs.Parts.{IsBytes, system_in, table_in}
use Rattle.tab_codec.specs.Reading.{Reader, and_then, picked, whole, u8_at, u16_at, u32_at, u64_at, i64_at, bytes_at, field_at, name_at, parts_at, only_if, kind_at, time_at, versions_at, constraints_at}
use Rattle.tab_image.specs.declared.fault.ImageFault.{ImageFault}
use Rattle.tab_image.specs.declared.fault.ImageFault.TheVariants as fault
use Rattle.tab_image.specs.declared.user.ImageUser.{ImageUser}
use Rattle.tab_image.specs.declared.table.ImageRight.{ImageRight}
use Rattle.tab_image.specs.declared.table.TableHead.{TableHead}
use Rattle.tab_image.specs.declared.table.ImageTable.{ImageTable}
use Rattle.tab_image.specs.declared.image.Image.{Image}
use Rattle.tab_image.specs.Images.{magic, IsImage}
use Rattle.tab_key.specs.Bytes.{bytes_cmp}
use Rattle.tab_image.specs.Conditions.{rises, is_short, is_sane}

-- one part, and then what it leads to
infixl 10 ◌>>=◌
unfoldable pub ◌>>=◌ : {A B : Type 0} → Reader A → (A → Reader B) → Reader B
reads >>= next = and_then reads next

-- this, of which no byte is left to be read
unfoldable pub made : {A : Type 0} → A → Reader A
made x bytes = Some (x, bytes)

-- one part, where something is picked by it
unfoldable pub picked_by : {A B : Type 0} → (A → Option B) → Reader A → Reader B
picked_by pick reads = picked pick reads

-- A count, and that many parts, one after another. Where the count says too much the bytes end before the parts do.
unfoldable pub all_at : {A : Type 0} → Reader ℕ → Reader A → Reader (List A)
all_at count reads = do
  n ← count
  parts_at reads n

-- a field within the limit
unfoldable pub part_at : Reader (List ℕ)
part_at = picked_by (only_if is_short) field_at

-- ---- users
abbrev pub system_of : ℕ → Option SystemPermissions
system_of bits = if nat_lt bits 256 then Some (system_in bits) else None

unfoldable pub system_at : Reader SystemPermissions
system_at = picked_by system_of u8_at

unfoldable pub texts_at : Reader (List (List ℕ))
texts_at = all_at u32_at field_at

-- the list, where it is a set
abbrev pub set_of_list : List (List ℕ) → Option (List (List ℕ))
set_of_list = only_if (rises bytes_cmp)

unfoldable pub set_at : Reader (List (List ℕ))
set_at = picked_by set_of_list texts_at

unfoldable pub user_at : Reader ImageUser
user_at = do
  name ← name_at
  system ← system_at
  authorizations ← set_at
  made (record { name = name; system = system; authorizations = authorizations })

unfoldable pub users_at : Reader (List ImageUser)
users_at = all_at u32_at user_at

-- ---- tables
abbrev pub held_of : ℕ → Option TablePermissions
held_of bits = if nat_lt 0 bits && nat_lt bits 32 then Some (table_in bits) else None

unfoldable pub held_at : Reader TablePermissions
held_at = picked_by held_of u8_at

unfoldable pub right_at : Reader ImageRight
right_at = do
  user ← name_at
  held ← held_at
  made (record { user = user; held = held })

unfoldable pub rights_at : Reader (List ImageRight)
rights_at = all_at u32_at right_at

unfoldable pub ends_at : Reader (List (List ℕ))
ends_at = all_at u32_at part_at

unfoldable pub record_at : Reader Record
record_at = do
  row ← part_at
  family ← part_at
  qualifier ← part_at
  label ← part_at
  timestamp ← i64_at
  kind ← kind_at
  seq ← u64_at
  idx ← u32_at
  value ← part_at
  made (record { key = record { row = row; family = family; qualifier = qualifier; label = label; timestamp = timestamp }; kind = kind; value = value; seq = seq; idx = idx })

unfoldable pub records_at : Reader (List Record)
records_at = all_at u64_at record_at

-- a horizon, which in the first version is the least one, without a byte
unfoldable pub horizon_at : ℕ → Reader ℤ
horizon_at version = if version == 1 then made least else i64_at

unfoldable pub head_at : ℕ → Reader TableHead
head_at version = do
  name ← name_at
  time ← time_at
  versions ← versions_at
  constraints ← constraints_at
  horizon ← horizon_at version
  rights ← rights_at
  ends ← ends_at
  made (record { name = name; time = time; versions = versions; constraints = constraints; horizon = horizon; rights = rights; ends = ends })

unfoldable pub table_at : ℕ → Reader ImageTable
table_at version = do
  head ← head_at version
  records ← records_at
  made (record { head = head; records = records })

unfoldable pub tables_at : ℕ → Reader (List ImageTable)
tables_at version = all_at u32_at (table_at version)

-- ---- the whole
-- nothing but that the bytes are these
abbrev pub same_as : List ℕ → List ℕ → Option (Unit {0})
same_as text bytes = if bytes_eq bytes text then Some tt else None

-- the four bytes at the end
unfoldable pub mark_at : Reader (Unit {0})
mark_at = picked_by (same_as (codes "END!")) (bytes_at 4)

unfoldable pub body_at : ℕ → Reader Image
body_at version = do
  clock ← i64_at
  next ← u64_at
  users ← users_at
  tables ← tables_at version
  mark ← mark_at
  made (record { clock = clock; next = next; users = users; tables = tables })

-- the image, where the conditions hold
abbrev pub if_sane : Option Image → Result Image ImageFault
if_sane None = Err fault.Bad
if_sane (Some image) = if is_sane image then Ok image else Err fault.Bad

-- whether there is this version
abbrev pub is_known : ℕ → Bool
is_known version = version == 1 || version == 2

-- the image behind this version, if the version is known
abbrev pub versioned : Option (ℕ × List ℕ) → Result Image ImageFault
versioned None = Err fault.Bad
versioned (Some v) = if is_known v.0 then if_sane (whole (body_at v.0 v.1)) else Err (fault.Version v.0)

-- the image that the bytes spell, or why they spell none
unfoldable pub image_of : List ℕ → Result Image ImageFault
image_of bytes = if bytes_eq (take 6 bytes) magic then versioned (u16_at (drop 6 bytes)) else Err fault.Bad

-- ---- The law: reading gives exactly the image that the bytes spell, in whichever version.
abbrev pub ImagesAreRead : Type 0
ImagesAreRead = (bytes : List ℕ) (image : Image) → IsBytes bytes → (image_of bytes ≡ Ok image) ↔ ((version : ℕ) × IsImage version bytes image)

-- ---- The law: a version is told exactly where the first six bytes are right and the two behind them say neither 1 nor 2.
abbrev pub VersionsAreTold : Type 0
VersionsAreTold = (bytes : List ℕ) (n : ℕ) → IsBytes bytes
    → (image_of bytes ≡ Err (fault.Version n)) ↔ ((rest : List ℕ) × (bytes ≡ magic ++ (to_be_bytes w16 n ++ rest)) × (n < 2 ^ 16) × (n ≢ 1) × (n ≢ 2))
