-- To be believed by whoever relies on it. The lines of a text, and the texts of replies.
use Rattle.std.specs.Prelude.{ℕ, ◌≡◌, ◌==◌, ◌⊎◌, Bool, cond, List, [], ◌∷◌, ◌++◌, length, map, codes, if◌then◌else◌}
use Rattle.std.specs.List.{flat_map}
use Rattle.std.specs.Fmt.{decimal, signed_decimal}
use Rattle.tab_key.specs.Records.{Cell}
use Rattle.tab_key.specs.declared.limited_part.LimitedPart.{LimitedPart}
use Rattle.tab_key.specs.declared.limited_part.LimitedPart.TheVariants as part
use Rattle.tab_history.specs.declared.reply.Refusal.{Refusal}
use Rattle.tab_history.specs.declared.reply.Refusal.TheVariants as refusal
use Rattle.tab_history.specs.declared.reply.Reply.TheVariants.{Done, Refused, Opened, Batch, Ranges, Rights as OwnRights, Counted, Rows, Begun, Nothing}
use Rattle.tab_history.specs.declared.rights.Rights.{Rights}
use Rattle.tab_history.specs.declared.counts.Counts.{Counts}
use Rattle.tab_history.specs.declared.split_fault.SplitFault.{SplitFault}
use Rattle.tab_history.specs.declared.split_fault.SplitFault.TheVariants as fault
use Rattle.tab_history.specs.Answers.{Told}
use Rattle.tab_lines.specs.Words.{parts_at, is_filled}
use Rattle.tab_text.specs.Words.{word}
use Rattle.tab_text.specs.Lines.{line_text, after_spaces, cell_text}
use Rattle.tab_policy.specs.declared.sets.SystemPermissions.{SystemPermissions}
use Rattle.tab_policy.specs.declared.sets.TablePermissions.{TablePermissions}
use Rattle.tab_policy.specs.Sets.{system_members, table_members}
use Rattle.tab_policy.specs.Permissions.{system_name, table_name}
use Rattle.tab_rules.specs.declared.violation.Violation.{Violation}
use Rattle.tab_rules.specs.Constraints.{constraint_number}
use Rattle.tab_policy.specs.declared.permission.SystemPermission.{SystemPermission}
use Rattle.tab_policy.specs.declared.permission.TablePermission.{TablePermission}
use Rattle.tab_policy.specs.declared.permission.Permission.{Permission}
use Rattle.tab_policy.specs.declared.permission.Permission.TheVariants.{OfSystem, OfTable}

-- ---- lines
-- the parts without the last one, where that is empty
abbrev pub without_last_empty : List (List ℕ) → List (List ℕ)
without_last_empty [] = []
without_last_empty (p ∷ []) = if is_filled p then p ∷ [] else []
without_last_empty (p ∷ q ∷ ps) = p ∷ without_last_empty (q ∷ ps)

-- the lines are what stands between line feeds; the last one may lack its line feed
unfoldable pub lines_of : List ℕ → List (List ℕ)
lines_of text = without_last_empty (parts_at 10 text)

-- whole lines: nothing, or a text that ends in a line feed
abbrev pub EndsLine : List ℕ → Type 0
EndsLine text = (text ≡ []) ⊎ ((front : List ℕ) × (text ≡ front ++ 10 ∷ []))

-- ---- replies
-- what is too large
abbrev pub part_name : LimitedPart → List ℕ
part_name part.Updates = codes "updates"
part_name part.Row = codes "row"
part_name part.Family = codes "family"
part_name part.Qualifier = codes "qualifier"
part_name part.Label = codes "label"
part_name part.Value = codes "value"
part_name part.Columns = codes "columns"
part_name part.Authorizations = codes "authorizations"
part_name part.Ranges = codes "ranges"
part_name part.Sessions = codes "sessions"
part_name part.Numbers = codes "numbers"

-- a permission, by its kind and name
abbrev pub system_word : SystemPermission → List ℕ
system_word p = codes "System" ++ (46 ∷ system_name p)

abbrev pub table_word : TablePermission → List ℕ
table_word p = codes "Table" ++ (46 ∷ table_name p)

abbrev pub permission_words : Permission → List (List ℕ)
permission_words (OfSystem p) = system_word p ∷ []
permission_words (OfTable p t) = table_word p ∷ word t ∷ []

-- constraint:code:update
abbrev pub violation_word : Violation → List ℕ
violation_word f = decimal (constraint_number f.constraint) ++ (58 ∷ (decimal f.code ++ (58 ∷ decimal f.update)))

-- why a tablet isn't split
abbrev pub split_word : SplitFault → List ℕ
split_word fault.Present = codes "present"
split_word fault.Small = codes "small"
split_word fault.OneRow = codes "onerow"

-- the number, the name and the words of a refusal
abbrev pub refusal_words : Refusal → List (List ℕ)
refusal_words (refusal.UnknownUser user) = codes "1" ∷ codes "UnknownUser" ∷ word user ∷ []
refusal_words (refusal.NoTable t) = codes "2" ∷ codes "NoTable" ∷ word t ∷ []
refusal_words (refusal.PermissionDenied p) = codes "3" ∷ codes "PermissionDenied" ∷ permission_words p
refusal_words (refusal.BadAuthorizations term) = codes "4" ∷ codes "BadAuthorizations" ∷ word term ∷ []
refusal_words (refusal.MalformedVisibility update offset) = codes "5" ∷ codes "MalformedVisibility" ∷ decimal update ∷ decimal offset ∷ []
refusal_words (refusal.ConstraintViolation violations) = codes "6" ∷ codes "ConstraintViolation" ∷ map violation_word violations
refusal_words (refusal.TimestampNotAllowed update) = codes "7" ∷ codes "TimestampNotAllowed" ∷ decimal update ∷ []
refusal_words refusal.EmptyMutation = codes "8" ∷ codes "EmptyMutation" ∷ []
refusal_words (refusal.TooLarge p) = codes "9" ∷ codes "TooLarge" ∷ part_name p ∷ []
refusal_words (refusal.TableExists t) = codes "10" ∷ codes "TableExists" ∷ word t ∷ []
refusal_words (refusal.UserExists user) = codes "11" ∷ codes "UserExists" ∷ word user ∷ []
refusal_words (refusal.NoUser user) = codes "12" ∷ codes "NoUser" ∷ word user ∷ []
refusal_words refusal.BadRange = codes "13" ∷ codes "BadRange" ∷ []
refusal_words (refusal.Stale count) = codes "14" ∷ codes "Stale" ∷ decimal count ∷ []
refusal_words (refusal.NoSession slot) = codes "15" ∷ codes "NoSession" ∷ decimal slot ∷ []
refusal_words (refusal.NoJob slot) = codes "15" ∷ codes "NoSession" ∷ decimal slot ∷ []
refusal_words refusal.NoMemory = codes "17" ∷ codes "NoMemory" ∷ []
refusal_words refusal.RootFixed = codes "18" ∷ codes "RootFixed" ∷ []
refusal_words refusal.GrantInvalid = codes "19" ∷ codes "GrantInvalid" ∷ []
refusal_words (refusal.BadSplit f) = codes "20" ∷ codes "BadSplit" ∷ split_word f ∷ []
refusal_words (refusal.VersionsRaised present) = codes "21" ∷ codes "VersionsRaised" ∷ decimal present ∷ []
refusal_words (refusal.HorizonLowered present) = codes "22" ∷ codes "HorizonLowered" ∷ signed_decimal present ∷ []
refusal_words (refusal.BelowHorizon update) = codes "22" ∷ codes "BelowHorizon" ∷ decimal update ∷ []
refusal_words refusal.ServerTime = codes "22" ∷ codes "ServerTime" ∷ []

abbrev pub refusal_text : Refusal → List ℕ
refusal_text r = line_text (codes "refused" ∷ refusal_words r)

-- the permissions of a set, in their order
unfoldable pub system_text : SystemPermissions → List ℕ
system_text held = codes "system" ++ (after_spaces (map system_name (system_members held)) ++ 10 ∷ [])

unfoldable pub table_text : TablePermissions → List ℕ
table_text held = codes "table" ++ (after_spaces (map table_name (table_members held)) ++ 10 ∷ [])

-- a word behind a space, where something is held
abbrev pub held_word : Bool → List ℕ → List ℕ
held_word held w = cond held (32 ∷ w) []

-- an authorization
abbrev pub auth_text : List ℕ → List ℕ
auth_text term = line_text (codes "auth" ∷ word term ∷ [])

-- a user's own rights: his system permissions, those on the table, his authorizations, and an end
abbrev pub rights_text : Rights → List ℕ
rights_text r = system_text r.system ++ (table_text r.table ++ (flat_map auth_text r.authorizations ++ codes "end\n"))

-- what a table's tablets hold
abbrev pub counts_text : Counts → List ℕ
counts_text c = line_text (codes "tablets" ∷ decimal c.tablets ∷ codes "sources" ∷ decimal c.sources ∷ codes "records" ∷ decimal c.records ∷ [])

-- an end row
abbrev pub row_text : List ℕ → List ℕ
row_text row = line_text (word row ∷ [])

-- the end rows of a table's tablets, and an end
abbrev pub rows_text : List (List ℕ) → List ℕ
rows_text rows = flat_map row_text rows ++ codes "end\n"

-- the cells in a range, and a line behind them
abbrev pub range_text : List Cell → List ℕ
range_text cells = flat_map cell_text cells ++ codes "range\n"

-- The text of a reply. An opened session has none, nor has a job that was begun: the lines that ask for them say what is printed of them. Nor
-- does a batch say whether more comes.
abbrev pub reply_text : Told → List ℕ
reply_text Done = codes "ok\n"
reply_text (Refused r) = refusal_text r
reply_text (Opened session) = []
reply_text (Batch cells) = flat_map cell_text cells
reply_text (Ranges ranges) = flat_map range_text ranges
reply_text (OwnRights rights) = rights_text rights
reply_text (Counted counts) = counts_text counts
reply_text (Rows rows) = rows_text rows
reply_text (Begun job) = []
reply_text Nothing = codes "nothing\n"

-- the number of a session that was opened and kept
abbrev pub session_text : ℕ → List ℕ
session_text number = line_text (codes "session" ∷ decimal number ∷ [])

-- the reply to a line that opens a session, which gets this number
abbrev pub opened_text : ℕ → Told → List ℕ
opened_text number (Opened session) = session_text number
opened_text number reply = reply_text reply

-- the number of a job that was begun and kept
abbrev pub job_text : ℕ → List ℕ
job_text number = line_text (codes "job" ∷ decimal number ∷ [])

-- the reply to a line that may begin a job, which gets this number
abbrev pub begun_text : ℕ → Told → List ℕ
begun_text number (Begun job) = job_text number
begun_text number reply = reply_text reply

-- whether more may come behind a batch
abbrev pub mark_text : Bool → List ℕ
mark_text more = cond more (codes "more\n") (codes "end\n")

-- the reply to a line that asks for so many cells: more may come behind a batch that has as many
abbrev pub next_text : ℕ → Told → List ℕ
next_text count (Batch cells) = flat_map cell_text cells ++ mark_text (length cells == count)
next_text count reply = reply_text reply

-- The reply as a line with this number says it: a session that isn't there is named by the number, not by its slot.
abbrev pub renumbered : ℕ → Told → Told
renumbered number (Refused (refusal.NoSession slot)) = Refused (refusal.NoSession number)
renumbered number reply = reply

-- a line outside the grammar
abbrev pub fault_text : List ℕ
fault_text = codes "line fault\n"

-- all cells of a scan, and an end
abbrev pub scan_text : List Cell → List ℕ
scan_text cells = flat_map cell_text cells ++ codes "end\n"

-- the cells of some batches of a scan, and that memory lacked for the next one
abbrev pub lacking_text : List Cell → List ℕ
lacking_text cells = flat_map cell_text cells ++ refusal_text refusal.NoMemory
