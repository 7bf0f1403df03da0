-- For proofs. What the frames of replies tell, as a function.
use Rattle.std.specs.Prelude.{ℕ, ◌==◌, nat_lt, List, Option, Some, None, if◌then◌else◌}
use Rattle.tab_key.specs.Records.{Record}
use Rattle.tab_key.specs.Encoding.{is_short}
use Rattle.tab_key.specs.declared.key.Kind.TheVariants.{Put}
use Rattle.tab_key.specs.declared.limited_part.LimitedPart.{LimitedPart}
use Rattle.tab_key.specs.declared.limited_part.LimitedPart.TheVariants as part
use Rattle.tab_label.specs.Sets.{set_of}
use Rattle.tab_rules.specs.declared.constraint.Constraint.{Constraint}
use Rattle.tab_rules.specs.declared.constraint.Constraint.TheVariants.{KeySize, Alphanumeric, Numeric, Visibility}
use Rattle.tab_rules.specs.declared.violation.Violation.{Violation}
use Rattle.tab_policy.specs.declared.sets.TablePermissions.{TablePermissions}
use Rattle.tab_history.specs.declared.reply.Refusal.{Refusal}
use Rattle.tab_history.specs.declared.reply.Refusal.TheVariants as refusal
use Rattle.tab_history.specs.declared.counts.Counts.{Counts}
use Rattle.tab_history.specs.declared.rights.Rights.{Rights}
use Rattle.tab_history.specs.declared.split_fault.SplitFault.{SplitFault}
use Rattle.tab_history.specs.declared.split_fault.SplitFault.TheVariants.{Present, Small, OneRow}
use Rattle.tab_codec.specs.Parts.{system_in, table_in}
use Rattle.tab_codec.specs.Reading.{◌>>=◌, Reader, mapped, picked, nothing_at, given, whole, only_if, u8_at, u32_at, u64_at, i64_at, field_at, name_at, list_at, counted_at, tagged}
use Rattle.tab_wire.specs.declared.reason.Reason.{Reason}
use Rattle.tab_wire.specs.declared.reason.Reason.TheVariants as reason
use Rattle.tab_wire.specs.declared.reply_frame.ReplyFrame.{ReplyFrame}
use Rattle.tab_wire.specs.declared.reply_frame.ReplyFrame.TheVariants as told
use Rattle.tab_wire.specs.FrameReading.{permission_at}

-- ---- what one byte says
abbrev pub part_of : ℕ → Option LimitedPart
part_of n =
    if n == 1 then Some part.Updates
    else if n == 2 then Some part.Row
    else if n == 3 then Some part.Family
    else if n == 4 then Some part.Qualifier
    else if n == 5 then Some part.Label
    else if n == 6 then Some part.Value
    else if n == 7 then Some part.Columns
    else if n == 8 then Some part.Authorizations
    else if n == 9 then Some part.Ranges
    else if n == 10 then Some part.Sessions
    else if n == 11 then Some part.Numbers
    else None

abbrev pub reason_of : ℕ → Option Reason
reason_of n =
    if n == 1 then Some reason.Empty
    else if n == 2 then Some reason.TooLong
    else if n == 3 then Some reason.Cut
    else if n == 4 then Some reason.Opcode
    else if n == 5 then Some reason.Field
    else if n == 6 then Some reason.Order
    else None

abbrev pub split_fault_of : ℕ → Option SplitFault
split_fault_of n = if n == 0 then Some Present else if n == 1 then Some Small else if n == 2 then Some OneRow else None

abbrev pub constraint_of : ℕ → Option Constraint
constraint_of n = if n == 1 then Some KeySize else if n == 2 then Some Alphanumeric else if n == 3 then Some Numeric else if n == 4 then Some Visibility else None

-- ---- refusals
unfoldable pub violation_at : Reader Violation
violation_at bytes = do
  constraint ← picked constraint_of u8_at bytes
  code ← u8_at constraint.1
  update ← u32_at code.1
  Some (record { constraint = constraint.0; code = code.0; update = update.0 }, update.1)

unfoldable pub violations_at : Reader (List Violation)
violations_at bytes = counted_at u32_at 6 violation_at bytes

unfoldable pub malformed_at : Reader Refusal
malformed_at bytes = do
  update ← u32_at bytes
  offset ← u32_at update.1
  Some (refusal.MalformedVisibility update.0 offset.0, offset.1)

-- what goes with a refusal by the horizon
abbrev pub horizon_by : ℕ → Reader Refusal
horizon_by flag =
    if flag == 0 then mapped (λ present. refusal.HorizonLowered present) i64_at
    else if flag == 1 then mapped (λ update. refusal.BelowHorizon update) u32_at
    else if flag == 2 then given refusal.ServerTime
    else nothing_at

-- what goes with the number of a refusal
abbrev pub refusal_by : ℕ → Reader Refusal
refusal_by n =
    if n == 1 then mapped (λ user. refusal.UnknownUser user) name_at
    else if n == 2 then mapped (λ table. refusal.NoTable table) name_at
    else if n == 3 then mapped (λ permission. refusal.PermissionDenied permission) permission_at
    else if n == 4 then mapped (λ term. refusal.BadAuthorizations term) field_at
    else if n == 5 then malformed_at
    else if n == 6 then mapped (λ violations. refusal.ConstraintViolation violations) violations_at
    else if n == 7 then mapped (λ update. refusal.TimestampNotAllowed update) u32_at
    else if n == 8 then given refusal.EmptyMutation
    else if n == 9 then mapped (λ p. refusal.TooLarge p) (picked part_of u8_at)
    else if n == 10 then mapped (λ table. refusal.TableExists table) name_at
    else if n == 11 then mapped (λ user. refusal.UserExists user) name_at
    else if n == 12 then mapped (λ user. refusal.NoUser user) name_at
    else if n == 13 then given refusal.BadRange
    else if n == 14 then mapped (λ count. refusal.Stale count) u64_at
    else if n == 15 then mapped (λ slot. refusal.NoSession slot) u32_at
    else if n == 17 then given refusal.NoMemory
    else if n == 18 then given refusal.RootFixed
    else if n == 19 then given refusal.GrantInvalid
    else if n == 20 then mapped (λ fault. refusal.BadSplit fault) (picked split_fault_of u8_at)
    else if n == 21 then mapped (λ present. refusal.VersionsRaised present) u32_at
    else if n == 22 then tagged horizon_by
    else nothing_at

-- 16 is a frame that asked nothing, all else a refusal
abbrev pub refused_by : ℕ → Reader ReplyFrame
refused_by n = if n == 16 then mapped (λ why. told.BadFrame why) (picked reason_of u8_at) else mapped (λ r. told.Refused r) (refusal_by n)

unfoldable pub refused_at : Reader ReplyFrame
refused_at bytes = tagged refused_by bytes

-- ---- other replies
-- a cell, as a put; one whose parts are too long for a record is none
unfoldable pub cell_at : Reader Record
cell_at bytes = do
  row ← field_at bytes
  family ← field_at row.1
  qualifier ← field_at family.1
  label ← field_at qualifier.1
  timestamp ← i64_at label.1
  value ← field_at timestamp.1
  shown ← only_if is_short (record { key = record { row = row.0; family = family.0; qualifier = qualifier.0; label = label.0; timestamp = timestamp.0 }; kind = Put; value = value.0; seq = 0; idx = 0 })
  Some (shown, value.1)

abbrev pub end_of : ℕ → Option ReplyFrame
end_of n = if n == 0 then Some told.End else if n == 1 then Some told.End else None

unfoldable pub counts_at : Reader Counts
counts_at bytes = do
  tablets ← u64_at bytes
  sources ← u64_at tablets.1
  records ← u64_at sources.1
  Some (record { tablets = tablets.0; sources = sources.0; records = records.0 }, records.1)

-- the permissions on a table: the five lowest bits alone
abbrev pub table_of : ℕ → Option TablePermissions
table_of bits = if nat_lt bits 32 then Some (table_in bits) else None

unfoldable pub rights_at : Reader Rights
rights_at bytes = do
  system ← u8_at bytes
  table ← picked table_of u8_at system.1
  members ← list_at table.1
  Some (record { system = system_in system.0; table = table.0; authorizations = set_of members.0 }, members.1)

-- ---- all frames
-- what goes with the opcode of a reply
abbrev pub told_by : ℕ → Reader ReplyFrame
told_by op =
    if op == 128 then given told.Done
    else if op == 129 then refused_at
    else if op == 130 then mapped (λ cell. told.Cell cell) cell_at
    else if op == 131 then picked end_of u8_at
    else if op == 132 then mapped (λ number. told.Opened number) u32_at
    else if op == 133 then mapped (λ row. told.Row row) field_at
    else if op == 134 then given told.RangeEnd
    else if op == 135 then mapped (λ counts. told.Counted counts) counts_at
    else if op == 136 then mapped (λ rights. told.Rights rights) rights_at
    else nothing_at

-- what all bytes of a frame tell
unfoldable pub told_in : List ℕ → Option ReplyFrame
told_in bytes = whole (tagged told_by bytes)
