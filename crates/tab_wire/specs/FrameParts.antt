-- To be believed by whoever relies on it. How the parts that frames alone have lie in bytes, as relations: columns, permissions, updates, extents of compactions.
use Rattle.std.specs.Prelude.{ℕ, ℤ, ◌≡◌, ◌<◌, ◌^◌, List, [], ◌∷◌, ◌++◌, length, Option, FitsSigned}
use Rattle.std.specs.Int.{w64}
use Rattle.std.specs.List.{AllByRecursion}
use Rattle.tab_key.specs.declared.key.Kind.{Kind}
use Rattle.tab_key.specs.declared.key.Kind.TheVariants.{Delete, Put}
use Rattle.tab_key.specs.declared.column.Column.{Column}
use Rattle.tab_key.specs.declared.column.Column.TheVariants.{Family, Qualified}
use Rattle.tab_mutation.specs.Mutations.{Update, Mutation}
use Rattle.tab_policy.specs.Permissions.{system_place, table_place}
use Rattle.tab_policy.specs.declared.permission.Permission.{Permission}
use Rattle.tab_policy.specs.declared.permission.Permission.TheVariants.{OfSystem, OfTable}
use Rattle.tab_history.specs.declared.event.Extent.{Extent}
use Rattle.tab_history.specs.declared.event.Extent.TheVariants.{Partial, Full}
use Rattle.tab_codec.specs.Parts.{IsField, IsNameField, kind_byte}
use Rattle.tab_codec.specs.Spelling.{Spells, i64, field, counted, optional, FitsOptional}

-- a column: a family, and 0, or 1 and a qualifier
abbrev pub IsColumn : List ℕ → Column → Type 0
IsColumn bytes (Family family) = (f : List ℕ) × (bytes ≡ f ++ 0 ∷ []) × IsField f family
IsColumn bytes (Qualified family qualifier) = (f : List ℕ) × (q : List ℕ) × (bytes ≡ f ++ 1 ∷ q) × IsField f family × IsField q qualifier

-- 0 and the place of a system permission, or 1, the place of a table permission, and the table
abbrev pub IsPermission : List ℕ → Permission → Type 0
IsPermission bytes (OfSystem permission) = bytes ≡ 0 ∷ system_place permission ∷ []
IsPermission bytes (OfTable permission table) = (t : List ℕ) × (bytes ≡ 1 ∷ table_place permission ∷ t) × IsNameField t table

-- what a compaction merges
abbrev pub extent_byte : Extent → ℕ
extent_byte Partial = 0
extent_byte Full = 1

abbrev pub IsExtent : List ℕ → Extent → Type 0
IsExtent bytes extent = bytes ≡ extent_byte extent ∷ []

-- ---- updates and mutations, as they are written
abbrev pub timestamp_bytes : Option ℤ → List ℕ
timestamp_bytes = optional i64

-- the value of a put; no byte stands for that of a marker
abbrev pub value_part : Kind → List ℕ → List ℕ
value_part Delete value = []
value_part Put value = field value

abbrev pub update_bytes : Update → List ℕ
update_bytes u = kind_byte u.kind ∷ (field u.family ++ (field u.qualifier ++ (field u.label ++ (timestamp_bytes u.timestamp ++ value_part u.kind u.value))))

abbrev pub mutation_bytes : Mutation → List ℕ
mutation_bytes m = field m.row ++ counted update_bytes m.updates

-- ---- which of them have a spelling: fields of at most 2^32 - 1 bytes, timestamps of eight bytes, and markers without a value
abbrev pub FitsValue : Kind → List ℕ → Type 0
FitsValue Delete value = value ≡ []
FitsValue Put value = length value < 2 ^ 32

pub record FitsUpdate (u : Update) : Type 0 where
  pub family : length u.family < 2 ^ 32
  pub qualifier : length u.qualifier < 2 ^ 32
  pub label : length u.label < 2 ^ 32
  pub timestamp : FitsOptional (λ t. FitsSigned w64 t) u.timestamp
  pub value : FitsValue u.kind u.value

pub record FitsMutation (m : Mutation) : Type 0 where
  pub row : length m.row < 2 ^ 32
  pub few : length m.updates < 2 ^ 32
  pub updates : AllByRecursion FitsUpdate m.updates

-- a mutation, in its one spelling
abbrev pub IsMutation : List ℕ → Mutation → Type 0
IsMutation = Spells mutation_bytes FitsMutation
