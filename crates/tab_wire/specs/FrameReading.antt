-- For proofs. Reading the parts that frames alone have.
use Rattle.std.specs.Prelude.{ℕ, ℤ, ◌==◌, List, [], slice_get, Option, Some, None, if◌then◌else◌}
use Rattle.std.specs.Option.{option_map}
use Rattle.tab_key.specs.declared.key.Kind.{Kind}
use Rattle.tab_key.specs.declared.key.Kind.TheVariants.{Delete, Put}
use Rattle.tab_key.specs.declared.range.Bounds.{Bounds}
use Rattle.tab_key.specs.declared.column.Column.{Column}
use Rattle.tab_key.specs.declared.column.Column.TheVariants.{Family, Qualified}
use Rattle.tab_mutation.specs.Mutations.{Update, Mutation}
use Rattle.tab_policy.specs.Permissions.{all_system, all_table}
use Rattle.tab_policy.specs.declared.permission.Permission.{Permission}
use Rattle.tab_policy.specs.declared.permission.Permission.TheVariants.{OfSystem, OfTable}
use Rattle.tab_history.specs.declared.event.Extent.{Extent}
use Rattle.tab_history.specs.declared.event.Extent.TheVariants.{Partial, Full}
use Rattle.tab_codec.specs.Reading.{◌>>=◌, Reader, and_then, mapped, picked, given, nothing_at, u8_at, u32_at, i64_at, field_at, name_at, counted_at, tagged, optional_at, bounds_at, kind_at}

-- a column of this family
abbrev pub column_by : List ℕ → ℕ → Reader Column
column_by family flag = if flag == 0 then given (Family family) else if flag == 1 then mapped (λ qualifier. Qualified family qualifier) field_at else nothing_at

unfoldable pub column_at : Reader Column
column_at bytes = and_then field_at (λ family. tagged (column_by family)) bytes

-- the permission at a place
abbrev pub system_permission : ℕ → Option Permission
system_permission place = option_map (λ p. OfSystem p) (slice_get all_system place)

abbrev pub table_permission : ℕ → List ℕ → Option Permission
table_permission place table = option_map (λ p. OfTable p table) (slice_get all_table place)

abbrev pub permission_by : ℕ → Reader Permission
permission_by flag =
    if flag == 0 then picked system_permission u8_at
    else if flag == 1 then and_then u8_at (λ place. picked (table_permission place) name_at)
    else nothing_at

unfoldable pub permission_at : Reader Permission
permission_at bytes = tagged permission_by bytes

abbrev pub extent_of : ℕ → Option Extent
extent_of b = if b == 0 then Some Partial else if b == 1 then Some Full else None

unfoldable pub extent_at : Reader Extent
extent_at bytes = picked extent_of u8_at bytes

-- ---- updates

-- the value of a put; a delete marker has none
abbrev pub value_at : Kind → Reader (List ℕ)
value_at Delete = given []
value_at Put = field_at

unfoldable pub timestamp_at : Reader (Option ℤ)
timestamp_at bytes = optional_at i64_at bytes

unfoldable pub update_at : Reader Update
update_at bytes = do
  kind ← kind_at bytes
  family ← field_at kind.1
  qualifier ← field_at family.1
  label ← field_at qualifier.1
  timestamp ← timestamp_at label.1
  value ← value_at kind.0 timestamp.1
  Some (record { kind = kind.0; family = family.0; qualifier = qualifier.0; label = label.0; timestamp = timestamp.0; value = value.0 }, value.1)

-- ---- counts of parts; an update has at least 14 bytes, a column 5, two bounds 2

unfoldable pub updates_at : Reader (List Update)
updates_at bytes = counted_at u32_at 14 update_at bytes

unfoldable pub columns_at : Reader (List Column)
columns_at bytes = counted_at u32_at 5 column_at bytes

unfoldable pub ranges_at : Reader (List Bounds)
ranges_at bytes = counted_at u32_at 2 bounds_at bytes

-- a row and its updates
unfoldable pub mutation_at : Reader Mutation
mutation_at bytes = do
  row ← field_at bytes
  updates ← updates_at row.1
  Some (record { row = row.0; updates = updates.0 }, updates.1)
