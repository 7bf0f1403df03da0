-- For proofs. What a line says.
use Rattle.std.specs.Prelude.{ℕ, ◌==◌, Bool, false, List, [], ◌∷◌, codes, Option, Some, None, if◌then◌else◌}
use Rattle.std.specs.Option.{option_map, option_and_then}
use Rattle.std.specs.Str.{bytes_eq}
use Rattle.tab_key.specs.declared.range.Bounds.{Bounds}
use Rattle.tab_key.specs.declared.range.Bound.TheVariants.{Unbounded}
use Rattle.tab_label.specs.Sets.{set_of}
use Rattle.tab_policy.specs.declared.permission.Permission.{Permission}
use Rattle.tab_history.specs.declared.event.TimeMode.{TimeMode}
use Rattle.tab_history.specs.declared.event.TimeMode.TheVariants.{Any}
use Rattle.tab_rules.specs.Constraints.{constraint_set_of}
use Rattle.tab_history.specs.declared.event.Act.TheVariants as act
use Rattle.tab_history.specs.declared.event.Given.TheVariants.{InSlot}
use Rattle.tab_history.specs.declared.event.Scan.{Scan}
use Rattle.tab_lines.specs.declared.line.Line.{Line}
use Rattle.tab_lines.specs.declared.line.Line.TheVariants as line
use Rattle.tab_lines.specs.declared.command.Command.{Command}
use Rattle.tab_lines.specs.declared.command.Command.TheVariants as command
use Rattle.tab_lines.specs.declared.file_line.FileKind.{FileKind}
use Rattle.tab_lines.specs.declared.file_line.FileKind.TheVariants.{Save, Load}
use Rattle.tab_lines.specs.declared.updates.TimestampForm.TheVariants.{Optional}
use Rattle.tab_lines.specs.Gives.{◌>>=◌, field, ends, optional}
use Rattle.tab_lines.specs.Words.{words_of}
use Rattle.tab_text.specs.Reading.{bytes_of}
use Rattle.tab_lines.specs.Fields.{name_of, unsigned_of, small_of, signed_of, time_word, version_count, versions_word, extent_word, compaction_word, file_name_of, system_permission, table_permission, list_of, constraints_of, bound_of, columns_of}
use Rattle.tab_lines.specs.Updates.{row_of, with_updates, put_of, delete_of, updates_of}
use Rattle.tab_mutation.specs.Mutations.{with_update}

-- one word, which spells a name
unfoldable pub name_alone : List (List ℕ) → Option (List ℕ)
name_alone words = do
  name ← field name_of words
  end ← ends name.1
  Some name.0

-- one word names a system permission, two name a table permission and its table
abbrev pub permission_of : List (List ℕ) → Option Permission
permission_of [] = None
permission_of (word ∷ []) = system_permission word
permission_of (word ∷ table ∷ []) = table_permission word table
permission_of (word ∷ table ∷ more ∷ words) = None

-- a user and a permission: the words behind the command of a line grant U P, grant U P T, revoke U P or revoke U P T
unfoldable pub grant_of : List (List ℕ) → Option (List ℕ × Permission)
grant_of words = do
  user ← field name_of words
  permission ← permission_of user.1
  Some (user.0, permission)

-- the settings behind a word that says who gives the timestamps, or without one
abbrev pub settings_at : Option TimeMode → List ℕ → List (List ℕ) → Option (TimeMode × ℕ)
settings_at (Some time) word words = do
  versions ← optional 1 versions_word words
  end ← ends versions.1
  Some (time, versions.0)
settings_at None word words = do
  versions ← versions_word word
  end ← ends words
  Some (Any, versions)

-- the settings of a new table: at most one word that says who gives the timestamps, then at most one that says how many versions
abbrev pub settings : List (List ℕ) → Option (TimeMode × ℕ)
settings [] = Some (Any, 1)
settings (word ∷ words) = settings_at (time_word word) word words

-- the words behind the command of a line createtable T [time=any|time=server] [versions=N]
unfoldable pub createtable_of : List (List ℕ) → Option Line
createtable_of words = do
  table ← field name_of words
  settings ← settings table.1
  Some (line.Act (act.CreateTable table.0 settings.0 settings.1))

-- the words behind the command of a line setauths U LIST
unfoldable pub setauths_of : List (List ℕ) → Option Line
setauths_of words = do
  user ← field name_of words
  auths ← field list_of user.1
  end ← ends auths.1
  Some (line.Act (act.SetAuths user.0 (set_of auths.0)))

-- the words behind the command of a line constraints T LIST
unfoldable pub constraints_line_of : List (List ℕ) → Option Line
constraints_line_of words = do
  table ← field name_of words
  constraints ← field constraints_of table.1
  end ← ends constraints.1
  Some (line.Act (act.SetConstraints table.0 (constraint_set_of constraints.0)))

-- the words behind the command of a line versions T N
unfoldable pub versions_line_of : List (List ℕ) → Option Line
versions_line_of words = do
  table ← field name_of words
  many ← field version_count table.1
  end ← ends many.1
  Some (line.Act (act.SetVersions table.0 many.0))

-- the words behind the command of a line horizon T TS
unfoldable pub horizon_of : List (List ℕ) → Option Line
horizon_of words = do
  table ← field name_of words
  timestamp ← field signed_of table.1
  end ← ends timestamp.1
  Some (line.Act (act.SetHorizon table.0 timestamp.0))

-- the words behind the command of a line insert T ROW FAM QUAL LABEL VALUE [TS]
unfoldable pub insert_of : List (List ℕ) → Option Line
insert_of words = do
  table ← field name_of words
  mutation ← field row_of table.1
  update ← put_of Optional mutation.1
  end ← ends update.1
  Some (line.Act (act.Write table.0 (with_update mutation.0 update.0)))

-- the words behind the command of a line delete T ROW FAM QUAL LABEL [TS]
unfoldable pub delete_line_of : List (List ℕ) → Option Line
delete_line_of words = do
  table ← field name_of words
  mutation ← field row_of table.1
  update ← delete_of Optional mutation.1
  end ← ends update.1
  Some (line.Act (act.Write table.0 (with_update mutation.0 update.0)))

-- the words behind the command of a line mutate T ROW and updates
unfoldable pub mutate_of : List (List ℕ) → Option Line
mutate_of words = do
  table ← field name_of words
  mutation ← field row_of table.1
  updates ← updates_of mutation.1
  Some (line.Act (act.Write table.0 (with_updates mutation.0 updates)))

-- both bounds or neither
abbrev pub bounds_of : List (List ℕ) → Option (Bounds × List (List ℕ))
bounds_of [] = Some (record { low = Unbounded; high = Unbounded }, [])
bounds_of (word ∷ words) = do
  low ← field bound_of (word ∷ words)
  high ← field bound_of low.1
  Some (record { low = low.0; high = high.0 }, high.1)

-- what the words behind the command of a line scan T AUTHS [LOW HIGH [COLS]] ask, or of a line open with the same words
unfoldable pub scan_words : List (List ℕ) → Option Scan
scan_words words = do
  table ← field name_of words
  auths ← field list_of table.1
  bounds ← bounds_of auths.1
  columns ← optional [] columns_of bounds.1
  end ← ends columns.1
  Some (record { table = table.0; bounds = bounds.0; columns = columns.0; authorizations = set_of auths.0 })

-- the words behind the command of a line next K N
unfoldable pub next_of : List (List ℕ) → Option Line
next_of words = do
  session ← field small_of words
  count ← field small_of session.1
  end ← ends count.1
  Some (line.Next session.0 count.0)

-- pairs of bounds
abbrev pub ranges_of : List (List ℕ) → Option (List Bounds)
ranges_of [] = Some []
ranges_of (low ∷ []) = None
ranges_of (low ∷ high ∷ words) = option_and_then (λ l. option_and_then (λ h. option_map (λ ranges. record { low = l; high = h } ∷ ranges) (ranges_of words)) (bound_of high)) (bound_of low)

-- the words behind the command of a line many K and pairs LOW HIGH
unfoldable pub many_of : List (List ℕ) → Option Line
many_of words = do
  session ← field small_of words
  ranges ← ranges_of session.1
  Some (line.Many session.0 ranges)

-- the words behind the command of a line close K
unfoldable pub close_of : List (List ℕ) → Option Line
close_of words = do
  session ← field small_of words
  end ← ends session.1
  Some (line.Close session.0)

-- the words behind the command of a line compact T partial or compact T full
unfoldable pub compact_of : List (List ℕ) → Option Line
compact_of words = do
  table ← field name_of words
  extent ← field extent_word table.1
  end ← ends extent.1
  Some (line.Act (act.Compact table.0 extent.0))

-- the words behind the command of a line begin T ROW and minor, partial or full
unfoldable pub begin_of : List (List ℕ) → Option Line
begin_of words = do
  table ← field name_of words
  row ← field bytes_of table.1
  kind ← field compaction_word row.1
  end ← ends kind.1
  Some (line.Act (act.Begin table.0 row.0 kind.0))

-- the words behind the command of a line merge K
unfoldable pub merge_of : List (List ℕ) → Option Line
merge_of words = do
  job ← field unsigned_of words
  end ← ends job.1
  Some (line.Merge job.0)

-- the words behind the command of a line install T K
unfoldable pub install_of : List (List ℕ) → Option Line
install_of words = do
  table ← field name_of words
  job ← field unsigned_of table.1
  end ← ends job.1
  Some (line.Act (act.Install table.0 (InSlot job.0)))

-- the words behind the command of a line addsplit T ROW
unfoldable pub addsplit_of : List (List ℕ) → Option Line
addsplit_of words = do
  table ← field name_of words
  row ← field bytes_of table.1
  end ← ends row.1
  Some (line.Act (act.AddSplit table.0 row.0))

-- the words behind the command of a line splitsize T ROW LIMIT
unfoldable pub splitsize_of : List (List ℕ) → Option Line
splitsize_of words = do
  table ← field name_of words
  row ← field bytes_of table.1
  limit ← field unsigned_of row.1
  end ← ends limit.1
  Some (line.Act (act.SplitBySize table.0 row.0 limit.0))

-- the words behind the command of a line save FILE or load FILE
unfoldable pub file_of : FileKind → List (List ℕ) → Option Line
file_of kind words = do
  name ← field file_name_of words
  end ← ends name.1
  Some (line.File (record { kind = kind; name = name.0 }))

-- the words behind the command of a line rotate: there are none
unfoldable pub rotate_of : List (List ℕ) → Option Line
rotate_of words = do
  end ← ends words
  Some (line.Act act.Rotate)

-- the words behind the command of a line at MOMENT
unfoldable pub at_of : List (List ℕ) → Option Line
at_of words = do
  moment ← field signed_of words
  end ← ends moment.1
  Some (line.At moment.0)

-- the first word of a line
abbrev pub command_of : List ℕ → Option Command
command_of word =
    if bytes_eq word (codes "as") then Some command.As
    else if bytes_eq word (codes "at") then Some command.At
    else if bytes_eq word (codes "createtable") then Some command.CreateTable
    else if bytes_eq word (codes "droptable") then Some command.DropTable
    else if bytes_eq word (codes "createuser") then Some command.CreateUser
    else if bytes_eq word (codes "dropuser") then Some command.DropUser
    else if bytes_eq word (codes "setauths") then Some command.SetAuths
    else if bytes_eq word (codes "grant") then Some command.Grant
    else if bytes_eq word (codes "revoke") then Some command.Revoke
    else if bytes_eq word (codes "rights") then Some command.Rights
    else if bytes_eq word (codes "constraints") then Some command.Constraints
    else if bytes_eq word (codes "versions") then Some command.Versions
    else if bytes_eq word (codes "horizon") then Some command.Horizon
    else if bytes_eq word (codes "insert") then Some command.Insert
    else if bytes_eq word (codes "delete") then Some command.Delete
    else if bytes_eq word (codes "mutate") then Some command.Mutate
    else if bytes_eq word (codes "scan") then Some command.Scan
    else if bytes_eq word (codes "open") then Some command.Open
    else if bytes_eq word (codes "next") then Some command.Next
    else if bytes_eq word (codes "many") then Some command.Many
    else if bytes_eq word (codes "close") then Some command.Close
    else if bytes_eq word (codes "flush") then Some command.Flush
    else if bytes_eq word (codes "compact") then Some command.Compact
    else if bytes_eq word (codes "begin") then Some command.Begin
    else if bytes_eq word (codes "merge") then Some command.Merge
    else if bytes_eq word (codes "install") then Some command.Install
    else if bytes_eq word (codes "status") then Some command.Status
    else if bytes_eq word (codes "addsplit") then Some command.AddSplit
    else if bytes_eq word (codes "splitsize") then Some command.SplitSize
    else if bytes_eq word (codes "splits") then Some command.Splits
    else if bytes_eq word (codes "save") then Some command.Save
    else if bytes_eq word (codes "load") then Some command.Load
    else if bytes_eq word (codes "rotate") then Some command.Rotate
    else None

-- the words after the command
abbrev pub commanded : Command → List (List ℕ) → Option Line
commanded command.As words = option_map (λ user. line.As user) (name_alone words)
commanded command.At words = at_of words
commanded command.CreateTable words = createtable_of words
commanded command.DropTable words = option_map (λ table. line.Act (act.DropTable table)) (name_alone words)
commanded command.CreateUser words = option_map (λ user. line.Act (act.CreateUser user)) (name_alone words)
commanded command.DropUser words = option_map (λ user. line.Act (act.DropUser user)) (name_alone words)
commanded command.SetAuths words = setauths_of words
commanded command.Grant words = option_map (λ grant. line.Act (act.Grant grant.0 grant.1)) (grant_of words)
commanded command.Revoke words = option_map (λ grant. line.Act (act.Revoke grant.0 grant.1)) (grant_of words)
commanded command.Rights words = option_map (λ table. line.Act (act.Rights table)) (name_alone words)
commanded command.Constraints words = constraints_line_of words
commanded command.Versions words = versions_line_of words
commanded command.Horizon words = horizon_of words
commanded command.Insert words = insert_of words
commanded command.Delete words = delete_line_of words
commanded command.Mutate words = mutate_of words
commanded command.Scan words = option_map (λ scan. line.Scan scan) (scan_words words)
commanded command.Open words = option_map (λ scan. line.Open scan) (scan_words words)
commanded command.Next words = next_of words
commanded command.Many words = many_of words
commanded command.Close words = close_of words
commanded command.Flush words = option_map (λ table. line.Act (act.Flush table)) (name_alone words)
commanded command.Compact words = compact_of words
commanded command.Begin words = begin_of words
commanded command.Merge words = merge_of words
commanded command.Install words = install_of words
commanded command.Status words = option_map (λ table. line.Act (act.Status table)) (name_alone words)
commanded command.AddSplit words = addsplit_of words
commanded command.SplitSize words = splitsize_of words
commanded command.Splits words = option_map (λ table. line.Act (act.Splits table)) (name_alone words)
commanded command.Save words = file_of Save words
commanded command.Load words = file_of Load words
commanded command.Rotate words = rotate_of words

-- what the words of a line say; no words say nothing
abbrev pub said : List (List ℕ) → Option Line
said [] = Some line.Blank
said (word ∷ words) = command_of word >>= λ c. commanded c words

-- whether the first byte is #
abbrev pub is_comment : List ℕ → Bool
is_comment [] = false
is_comment (b ∷ bs) = b == 35

-- what a line says, if it is of the grammar
abbrev pub line_of : List ℕ → Option Line
line_of text = if is_comment text then Some line.Blank else said (words_of text)
