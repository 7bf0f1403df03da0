-- To be believed by whoever relies on it. The bytes that an image and each of its parts have in a version. Those of `written_version` are written.
use Rattle.std.specs.Prelude.{ℕ, ℤ, ◌==◌, List, [], ◌++◌, length, codes, if◌then◌else◌}
use Rattle.std.specs.List.{flat_map}
use Rattle.tab_key.specs.Records.{Record}
use Rattle.tab_rules.specs.declared.constraint.Constraint.{Constraint}
use Rattle.tab_history.specs.declared.event.TimeMode.{TimeMode}
use Rattle.tab_codec.specs.Parts.{kind_byte, time_byte, system_bits, table_bits, constraint_bits}
unfoldable pub use Rattle.tab_codec.specs.Spelling.{u16, u32, u64, i64}
pub use Rattle.tab_codec.specs.Spelling.{u8, field, counted}
use Rattle.tab_image.specs.declared.user.ImageUser.{ImageUser}
use Rattle.tab_image.specs.declared.table.ImageRight.{ImageRight}
use Rattle.tab_image.specs.declared.table.TableHead.{TableHead}
use Rattle.tab_image.specs.declared.table.ImageTable.{ImageTable}
use Rattle.tab_image.specs.declared.image.Image.{Image}

-- ---- a user: his name, his system permissions, and the set of his authorizations
unfoldable pub user_bytes : ImageUser → List ℕ
user_bytes u = field u.name ++ (u8 (system_bits u.system) ++ counted field u.authorizations)

-- ---- a table
-- a user's name, and his permissions
unfoldable pub right_bytes : ImageRight → List ℕ
right_bytes r = field r.user ++ u8 (table_bits r.held)

-- its horizon, which the first version doesn't say
unfoldable pub horizon_bytes : ℕ → ℤ → List ℕ
horizon_bytes version horizon = if version == 1 then [] else i64 horizon

-- how its columns are kept
unfoldable pub settings_bytes : ℕ → TimeMode → ℕ → List Constraint → ℤ → List ℕ
settings_bytes version time versions constraints horizon = u8 (time_byte time) ++ (u32 versions ++ (u8 (constraint_bits constraints) ++ horizon_bytes version horizon))

-- its name, settings, rights and end rows
unfoldable pub head_bytes : ℕ → TableHead → List ℕ
head_bytes version t = field t.name ++ (settings_bytes version t.time t.versions t.constraints t.horizon ++ (counted right_bytes t.rights ++ counted field t.ends))

-- row, family, qualifier, label, timestamp, kind, the number of its mutation, its place there, and the value
unfoldable pub record_bytes : Record → List ℕ
record_bytes r =
    field r.key.row ++ (field r.key.family ++ (field r.key.qualifier ++ (field r.key.label
    ++ (i64 r.key.timestamp ++ (u8 (kind_byte r.kind) ++ (u64 r.seq ++ (u32 r.idx ++ field r.value)))))))

-- a count of eight bytes, and so many records
unfoldable pub records_bytes : List Record → List ℕ
records_bytes rs = u64 (length rs) ++ flat_map record_bytes rs

-- all that isn't records, and then its records
unfoldable pub table_bytes : ℕ → ImageTable → List ℕ
table_bytes version t = head_bytes version t.head ++ records_bytes t.records

-- ---- the whole
-- the six bytes with which an image begins
abbrev pub magic : List ℕ
magic = codes "TABIMG"

unfoldable pub magic_bytes : List ℕ
magic_bytes = magic

-- all before the users: the six bytes, the version, the clock and the next number
unfoldable pub front_bytes : ℕ → ℤ → ℕ → List ℕ
front_bytes version clock next = magic_bytes ++ (u16 version ++ (i64 clock ++ u64 next))

-- the mark of the end
unfoldable pub end_bytes : List ℕ
end_bytes = codes "END!"

unfoldable pub image_bytes : ℕ → Image → List ℕ
image_bytes version i = front_bytes version i.clock i.next ++ (counted user_bytes i.users ++ (counted (table_bytes version) i.tables ++ end_bytes))
