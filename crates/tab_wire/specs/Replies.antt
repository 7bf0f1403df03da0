-- To be believed by whoever relies on it. The bytes of each reply.
use Rattle.std.specs.Prelude.{ℕ, ◌%◌, ◌^◌, ◌==◌, Bool, false, cond, List, [], ◌∷◌, ◌++◌, length}
use Rattle.std.specs.List.{flat_map}
use Rattle.tab_key.specs.Records.{Cell}
use Rattle.tab_key.specs.declared.limited_part.LimitedPart.{LimitedPart}
use Rattle.tab_key.specs.declared.limited_part.LimitedPart.TheVariants as part
use Rattle.tab_policy.specs.Permissions.{system_place, table_place}
use Rattle.tab_policy.specs.declared.permission.Permission.{Permission}
use Rattle.tab_policy.specs.declared.permission.Permission.TheVariants.{OfSystem, OfTable}
use Rattle.tab_rules.specs.Constraints.{constraint_number}
use Rattle.tab_rules.specs.declared.violation.Violation.{Violation}
use Rattle.tab_history.specs.declared.reply.Refusal.{Refusal}
use Rattle.tab_history.specs.declared.reply.Refusal.TheVariants as refusal
use Rattle.tab_history.specs.declared.reply.Reply.TheVariants as reply
use Rattle.tab_history.specs.declared.counts.Counts.{Counts}
use Rattle.tab_history.specs.declared.rights.Rights.{Rights}
use Rattle.tab_history.specs.declared.split_fault.SplitFault.{SplitFault}
use Rattle.tab_history.specs.declared.split_fault.SplitFault.TheVariants.{Present, Small, OneRow}
use Rattle.tab_history.specs.Answers.{Told}
unfoldable pub use Rattle.tab_codec.specs.Spelling.{u32, u64, i64}
pub use Rattle.tab_codec.specs.Spelling.{field, list}
use Rattle.tab_wire.specs.declared.reason.Reason.{Reason}
use Rattle.tab_wire.specs.declared.reason.Reason.TheVariants as reason
use Rattle.tab_codec.specs.Parts.{system_bits, table_bits}

-- a frame with these bytes
abbrev pub frame : List ℕ → List ℕ
frame bytes = u32 (length bytes) ++ bytes

abbrev pub permission_bytes : Permission → List ℕ
permission_bytes (OfSystem p) = 0 ∷ system_place p ∷ []
permission_bytes (OfTable p t) = 1 ∷ table_place p ∷ field t

-- ---- refusals
abbrev pub part_number : LimitedPart → ℕ
part_number part.Updates = 1
part_number part.Row = 2
part_number part.Family = 3
part_number part.Qualifier = 4
part_number part.Label = 5
part_number part.Value = 6
part_number part.Columns = 7
part_number part.Authorizations = 8
part_number part.Ranges = 9
part_number part.Sessions = 10
part_number part.Numbers = 11

abbrev pub reason_number : Reason → ℕ
reason_number reason.Empty = 1
reason_number reason.TooLong = 2
reason_number reason.Cut = 3
reason_number reason.Opcode = 4
reason_number reason.Field = 5
reason_number reason.Order = 6

abbrev pub split_number : SplitFault → ℕ
split_number Present = 0
split_number Small = 1
split_number OneRow = 2

abbrev pub violation_bytes : Violation → List ℕ
violation_bytes v = constraint_number v.constraint ∷ v.code ∷ u32 v.update

-- The number of a refusal and its fields. No frame asks for a job, so no connection is told of one: there is a frame all the same, with what
-- four bytes hold of the job's number.
abbrev pub refusal_bytes : Refusal → List ℕ
refusal_bytes (refusal.UnknownUser user) = 1 ∷ field user
refusal_bytes (refusal.NoTable table) = 2 ∷ field table
refusal_bytes (refusal.PermissionDenied p) = 3 ∷ permission_bytes p
refusal_bytes (refusal.BadAuthorizations term) = 4 ∷ field term
refusal_bytes (refusal.MalformedVisibility update offset) = 5 ∷ (u32 update ++ u32 offset)
refusal_bytes (refusal.ConstraintViolation violations) = 6 ∷ (u32 (length violations) ++ flat_map violation_bytes violations)
refusal_bytes (refusal.TimestampNotAllowed update) = 7 ∷ u32 update
refusal_bytes refusal.EmptyMutation = 8 ∷ []
refusal_bytes (refusal.TooLarge p) = 9 ∷ part_number p ∷ []
refusal_bytes (refusal.TableExists table) = 10 ∷ field table
refusal_bytes (refusal.UserExists user) = 11 ∷ field user
refusal_bytes (refusal.NoUser user) = 12 ∷ field user
refusal_bytes refusal.BadRange = 13 ∷ []
refusal_bytes (refusal.Stale count) = 14 ∷ u64 count
refusal_bytes (refusal.NoSession slot) = 15 ∷ u32 slot
refusal_bytes (refusal.NoJob slot) = 15 ∷ u32 (slot % 2 ^ 32)
refusal_bytes refusal.NoMemory = 17 ∷ []
refusal_bytes refusal.RootFixed = 18 ∷ []
refusal_bytes refusal.GrantInvalid = 19 ∷ []
refusal_bytes (refusal.BadSplit fault) = 20 ∷ split_number fault ∷ []
refusal_bytes (refusal.VersionsRaised present) = 21 ∷ u32 present
refusal_bytes (refusal.HorizonLowered present) = 22 ∷ 0 ∷ i64 present
refusal_bytes (refusal.BelowHorizon update) = 22 ∷ 1 ∷ u32 update
refusal_bytes refusal.ServerTime = 22 ∷ 2 ∷ []

-- ---- replies
-- A reply with what its frames need beside it: the number of a session, and whether a batch was as long as it was asked to be.
pub data Sent : Type 0 where
  Ok : Sent
  Refused : Refusal → Sent
  BadFrame : Reason → Sent
  Opened : ℕ → Sent
  Batch : Bool → List Cell → Sent
  Ranges : List (List Cell) → Sent
  Splits : List (List ℕ) → Sent
  Status : Counts → Sent
  OwnRights : Rights → Sent

-- the fields of a cell
abbrev pub cell_fields : Cell → List ℕ
cell_fields c = field c.key.row ++ (field c.key.family ++ (field c.key.qualifier ++ (field c.key.label ++ (i64 c.key.timestamp ++ field c.value))))

abbrev pub cell_frame : Cell → List ℕ
cell_frame c = frame (130 ∷ cell_fields c)

-- more to come, or the end
abbrev pub end_frame : Bool → List ℕ
end_frame more = frame (131 ∷ cond more 0 1 ∷ [])

abbrev pub range_frames : List Cell → List ℕ
range_frames cells = flat_map cell_frame cells ++ frame (134 ∷ [])

abbrev pub row_frame : List ℕ → List ℕ
row_frame row = frame (133 ∷ field row)

-- the frames of a reply
abbrev pub sent_bytes : Sent → List ℕ
sent_bytes Ok = frame (128 ∷ [])
sent_bytes (Refused r) = frame (129 ∷ refusal_bytes r)
sent_bytes (BadFrame reason) = frame (129 ∷ 16 ∷ reason_number reason ∷ [])
sent_bytes (Opened number) = frame (132 ∷ u32 number)
sent_bytes (Batch more cells) = flat_map cell_frame cells ++ end_frame more
sent_bytes (Ranges ranges) = flat_map range_frames ranges ++ end_frame false
sent_bytes (Splits rows) = flat_map row_frame rows ++ end_frame false
sent_bytes (Status counts) = frame (135 ∷ (u64 counts.tablets ++ (u64 counts.sources ++ u64 counts.records)))
sent_bytes (OwnRights rights) = frame (136 ∷ system_bits rights.system ∷ table_bits rights.table ∷ list rights.authorizations)

-- The reply to an event, or to a batch of n cells; a session gets this number. No connection is told that a job was begun, or that there is
-- nothing to merge.
abbrev pub sent_of : ℕ → ℕ → Told → Sent
sent_of number n reply.Done = Ok
sent_of number n (reply.Refused r) = Refused r
sent_of number n (reply.Opened session) = Opened number
sent_of number n (reply.Batch cells) = Batch (length cells == n) cells
sent_of number n (reply.Ranges ranges) = Ranges ranges
sent_of number n (reply.Rights rights) = OwnRights rights
sent_of number n (reply.Counted counts) = Status counts
sent_of number n (reply.Rows rows) = Splits rows
sent_of number n (reply.Begun job) = Ok
sent_of number n reply.Nothing = Ok
