-- Worked examples, computed: bytes of frames, what they ask, and the bytes of replies.
use Rattle.std.specs.Prelude.{ℕ, pos, negsuc, ◌≡◌, ◌==◌, ◌-◌, ◌+◌, ◌*◌, nat_le, true, false, List, [], ◌∷◌, codes, Option, Some, None, Ok, Err, refl, if◌then◌else◌}
use Rattle.tab_key.specs.declared.key.Kind.TheVariants.{Put}
use Rattle.tab_key.specs.declared.range.Bound.TheVariants.{Unbounded, Inclusive, Exclusive}
use Rattle.tab_key.specs.Records.{Cell}
use Rattle.tab_rules.specs.declared.constraint.Constraint.TheVariants.{Alphanumeric, Visibility}
use Rattle.tab_policy.specs.declared.permission.Permission.TheVariants.{OfSystem, OfTable}
use Rattle.tab_policy.specs.declared.permission.SystemPermission.TheVariants as system
use Rattle.tab_policy.specs.declared.permission.TablePermission.TheVariants as table
use Rattle.tab_key.specs.declared.limited_part.LimitedPart.TheVariants as part
use Rattle.tab_history.specs.declared.event.Extent.TheVariants.{Full}
use Rattle.tab_history.specs.declared.event.TimeMode.TheVariants.{Any}
use Rattle.tab_history.specs.declared.reply.Refusal.TheVariants as refusal
use Rattle.tab_history.specs.declared.split_fault.SplitFault.TheVariants.{OneRow}
use Rattle.tab_history.specs.declared.event.Act.TheVariants as act
use Rattle.tab_history.specs.Sessions.{Opening, opened, closed, session_in}
use Rattle.tab_history.specs.Answers.{next_answer}
use Rattle.tab_history.specs.declared.reply.Reply.TheVariants as reply
use Rattle.tab_codec.specs.Reading.{u16_at, u32_at, u64_at, i64_at, field_at, name_at, list_at, bound_at, bounds_at, kind_at, time_at, versions_at, constraints_at}
use Rattle.tab_wire.specs.declared.request.Request.TheVariants as asks
use Rattle.tab_wire.specs.declared.reason.Reason.TheVariants as reason
use Rattle.tab_wire.specs.FrameReading.{column_at, permission_at, extent_at, timestamp_at, update_at, updates_at, columns_at, ranges_at, mutation_at}
use Rattle.tab_wire.specs.Requests.{create_table_at, set_auths_at, grant_at, revoke_at, set_constraints_at, write_at, open_at, next_at, many_at, close_at, compact_at, add_split_at, set_versions_at, set_horizon_at, request_in, request_of}
use Rattle.tab_wire.specs.declared.reply_frame.ReplyFrame.TheVariants as told
use Rattle.tab_wire.specs.Tells.{refused_at, told_in}
use Rattle.tab_wire.specs.Stream.{Frame, Broken, piece_at, pieces_of}
use Rattle.tab_wire.specs.Replies as sent
use Rattle.tab_wire.specs.Replies.{sent_bytes, sent_of, u32, u64, i64}
use Rattle.tab_wire.specs.Sending.{act_bytes}

-- ---- bytes in hexadecimal, as tables of frames are written: two digits a byte, spaces passed over
abbrev pub digit : ℕ → ℕ
digit c = if nat_le c 57 then c - 48 else c - 87

-- the bytes that the digits spell
abbrev pub hex_from : Option ℕ → List ℕ → List ℕ
hex_from high [] = []
hex_from None (c ∷ cs) = if c == 32 then hex_from None cs else hex_from (Some (digit c)) cs
hex_from (Some high) (c ∷ cs) = (16 * high + digit c) ∷ hex_from None cs

abbrev pub hex : List ℕ → List ℕ
hex text = hex_from None text

-- all that the examples look into
looked_into : ℕ
unfolding u16_at u32_at u64_at i64_at field_at name_at list_at bound_at bounds_at column_at permission_at extent_at kind_at timestamp_at update_at time_at versions_at constraints_at updates_at columns_at ranges_at mutation_at create_table_at set_auths_at grant_at revoke_at set_constraints_at write_at open_at next_at many_at close_at compact_at add_split_at set_versions_at set_horizon_at request_in request_of refused_at told_in piece_at pieces_of opened closed session_in u32 u64 i64
looked_into = 0

-- ---- Hello, and what is no frame
hello : pieces_of (hex (codes "00000009 01 00000004 726f6f74")) ≡ Frame (1 ∷ hex (codes "00000004 726f6f74")) ∷ []
unfolding looked_into
hello = refl

hello_asks : request_of false (1 ∷ hex (codes "00000004 726f6f74")) ≡ Ok (asks.Hello (codes "root"))
unfolding looked_into
hello_asks = refl

hello_told : sent_bytes sent.Ok ≡ hex (codes "00000001 80")
unfolding looked_into
hello_told = refl

empty : pieces_of (hex (codes "00000000")) ≡ Broken reason.Empty ∷ []
unfolding looked_into
empty = refl

empty_told : sent_bytes (sent.BadFrame reason.Empty) ≡ hex (codes "00000003 81 10 01")
unfolding looked_into
empty_told = refl

too_long : pieces_of (hex (codes "00800001")) ≡ Broken reason.TooLong ∷ []
unfolding looked_into
too_long = refl

too_long_told : sent_bytes (sent.BadFrame reason.TooLong) ≡ hex (codes "00000003 81 10 02")
unfolding looked_into
too_long_told = refl

cut : pieces_of (hex (codes "000000")) ≡ Broken reason.Cut ∷ []
unfolding looked_into
cut = refl

cut_body : pieces_of (hex (codes "00000002 80")) ≡ Broken reason.Cut ∷ []
unfolding looked_into
cut_body = refl

-- the longest frame is a frame that is cut here
longest : pieces_of (hex (codes "00800000")) ≡ Broken reason.Cut ∷ []
unfolding looked_into
longest = refl

cut_told : sent_bytes (sent.BadFrame reason.Cut) ≡ hex (codes "00000003 81 10 03")
unfolding looked_into
cut_told = refl

-- a frame, and the end of the connection behind it
then_empty : pieces_of (hex (codes "00000001 18 00000000 00000001 18")) ≡ Frame (24 ∷ []) ∷ Broken reason.Empty ∷ []
unfolding looked_into
then_empty = refl

-- ---- a session
abbrev pub t : List ℕ
t = codes "t"

opens : request_of true (hex (codes "0b 00000001 74 00 00 00000000 00000000"))
    ≡ Ok (asks.Act (act.Open (record { table = t; bounds = record { low = Unbounded; high = Unbounded }; columns = []; authorizations = [] })))
unfolding looked_into
opens = refl

opened_told : sent_bytes (sent_of 0 0 (reply.Opened tt)) ≡ hex (codes "00000005 84 00000000")
unfolding looked_into
opened_told = refl

next_asks : request_of true (hex (codes "0c 00000000 00000001")) ≡ Ok (asks.Next 0 1)
unfolding looked_into
next_asks = refl

-- the session of an empty table: a batch of one is short
next_of_nothing : sent_bytes (sent_of 0 1 (next_answer (session_in (Opening [] ∷ []) 0) 0 1)) ≡ hex (codes "00000002 83 01")
unfolding looked_into
next_of_nothing = refl

-- a batch of none never ends a session
next_none : sent_bytes (sent_of 0 0 (next_answer (session_in (Opening [] ∷ []) 0) 0 0)) ≡ hex (codes "00000002 83 00")
unfolding looked_into
next_none = refl

no_session : sent_bytes (sent_of 0 1 (next_answer (session_in (Opening [] ∷ []) 1) 1 1)) ≡ hex (codes "00000006 81 0f 00000001")
unfolding looked_into
no_session = refl

-- ---- a table, a put, and its cell
creates : request_of true (hex (codes "02 00000001 74 00 00000001")) ≡ Ok (asks.Act (act.CreateTable t Any 1))
unfolding looked_into
creates = refl

writes : request_of true (hex (codes "0a 00000001 74 00000001 72 00000001 01 00000001 66 00000001 71 00000000 01 0000000000000005 00000001 76"))
    ≡ Ok (asks.Act (act.Write t (record { row = codes "r"; updates = record { kind = Put; family = codes "f"; qualifier = codes "q"; label = []; timestamp = Some (pos 5); value = codes "v" } ∷ [] })))
unfolding looked_into
writes = refl

abbrev pub cell : Cell
cell = record { key = record { row = codes "r"; family = codes "f"; qualifier = codes "q"; label = []; timestamp = pos 5 }; value = codes "v" }

-- two were asked for, and there is one
next_two : sent_bytes (sent_of 0 2 (next_answer (session_in (Opening (cell ∷ []) ∷ []) 0) 0 2))
    ≡ hex (codes "00000021 82 00000001 72 00000001 66 00000001 71 00000000 0000000000000005 00000001 76 00000002 83 01")
unfolding looked_into
next_two = refl

-- ---- what is no request, after Hello
unknown : request_of true (hex (codes "18")) ≡ Err reason.Opcode
unfolding looked_into
unknown = refl

-- no version is asked for
no_version : request_of true (hex (codes "02 00000001 74 00 00000000")) ≡ Err reason.Field
unfolding looked_into
no_version = refl

-- a count that the rest can't hold
too_many : request_of true (hex (codes "0a 00000001 74 00000001 72 ffffffff 01 00 00")) ≡ Err reason.Field
unfolding looked_into
too_many = refl

hello_again : request_of true (hex (codes "01 00000004 726f6f74")) ≡ Err reason.Order
unfolding looked_into
hello_again = refl

-- a byte is left over
left_over : request_of true (hex (codes "0f 00000001 74 00")) ≡ Err reason.Field
unfolding looked_into
left_over = refl

-- ---- before Hello
order_first : request_of false (hex (codes "0f 00000001 74")) ≡ Err reason.Order
unfolding looked_into
order_first = refl

-- the fields aren't looked at
order_before_field : request_of false (hex (codes "0f 00")) ≡ Err reason.Order
unfolding looked_into
order_before_field = refl

opcode_first : request_of false (hex (codes "18")) ≡ Err reason.Opcode
unfolding looked_into
opcode_first = refl

-- a Hello whose name is none is refused by its fields, and the connection is still without Hello
bad_hello : request_of false (hex (codes "01 00000000")) ≡ Err reason.Field
unfolding looked_into
bad_hello = refl

-- ---- other forms
grants : request_of true (hex (codes "07 00000003 626f62 01 00 00000001 74")) ≡ Ok (asks.Act (act.Grant (codes "bob") (OfTable table.Read t)))
unfolding looked_into
grants = refl

grants_system : request_of true (hex (codes "07 00000003 626f62 00 07")) ≡ Ok (asks.Act (act.Grant (codes "bob") (OfSystem system.System)))
unfolding looked_into
grants_system = refl

-- there are five table permissions
grants_none : request_of true (hex (codes "07 00000003 626f62 01 05 00000001 74")) ≡ Err reason.Field
unfolding looked_into
grants_none = refl

constrains : request_of true (hex (codes "09 00000001 74 0a")) ≡ Ok (asks.Act (act.SetConstraints t (Alphanumeric ∷ Visibility ∷ [])))
unfolding looked_into
constrains = refl

ranges : request_of true (hex (codes "0d 00000000 00000001 01 00000001 61 02 00000001 62"))
    ≡ Ok (asks.Many 0 (record { low = Inclusive (codes "a"); high = Exclusive (codes "b") } ∷ []))
unfolding looked_into
ranges = refl

-- authorizations are a set, in whatever order they come
sets_auths : request_of true (hex (codes "06 00000004 726f6f74 00000003 00000001 62 00000001 61 00000001 62")) ≡ Ok (asks.Act (act.SetAuths (codes "root") (codes "a" ∷ codes "b" ∷ [])))
unfolding looked_into
sets_auths = refl

-- ---- settings that change
sets_versions : request_of true (hex (codes "15 00000001 74 000003e8")) ≡ Ok (asks.Act (act.SetVersions t 1000))
unfolding looked_into
sets_versions = refl

sets_no_versions : request_of true (hex (codes "15 00000001 74 00000000")) ≡ Err reason.Field
unfolding looked_into
sets_no_versions = refl

sets_too_many_versions : request_of true (hex (codes "15 00000001 74 000003e9")) ≡ Err reason.Field
unfolding looked_into
sets_too_many_versions = refl

sets_horizon : request_of true (hex (codes "16 00000001 74 0000000000000005")) ≡ Ok (asks.Act (act.SetHorizon t (pos 5)))
unfolding looked_into
sets_horizon = refl

-- in two's complement
sets_horizon_below_0 : request_of true (hex (codes "16 00000001 74 ffffffffffffffff")) ≡ Ok (asks.Act (act.SetHorizon t (negsuc 0)))
unfolding looked_into
sets_horizon_below_0 = refl

sets_horizon_short : request_of true (hex (codes "16 00000001 74 00000000000005")) ≡ Err reason.Field
unfolding looked_into
sets_horizon_short = refl

sets_horizon_long : request_of true (hex (codes "16 00000001 74 000000000000000500")) ≡ Err reason.Field
unfolding looked_into
sets_horizon_long = refl

versions_sent : act_bytes (act.SetVersions t 1) ≡ hex (codes "15 00000001 74 00000001")
unfolding looked_into
versions_sent = refl

horizon_sent : act_bytes (act.SetHorizon t (negsuc 0)) ≡ hex (codes "16 00000001 74 ffffffffffffffff")
unfolding looked_into
horizon_sent = refl

-- ---- a history that is handed out
rotates : request_of true (hex (codes "17")) ≡ Ok (asks.Act act.Rotate)
unfolding looked_into
rotates = refl

-- it has no fields
rotates_with_a_table : request_of true (hex (codes "17 00000001 74")) ≡ Err reason.Field
unfolding looked_into
rotates_with_a_table = refl

rotates_before_hello : request_of false (hex (codes "17")) ≡ Err reason.Order
unfolding looked_into
rotates_before_hello = refl

rotation_sent : act_bytes act.Rotate ≡ hex (codes "17")
rotation_sent = refl

-- no frame asks for a save
save_not_sent : act_bytes act.Save ≡ []
save_not_sent = refl

-- ---- compactions, splits and counts
flushes : request_of true (hex (codes "0f 00000001 74")) ≡ Ok (asks.Act (act.Flush t))
unfolding looked_into
flushes = refl

compacts : request_of true (hex (codes "10 00000001 74 01")) ≡ Ok (asks.Act (act.Compact t Full))
unfolding looked_into
compacts = refl

compacts_neither : request_of true (hex (codes "10 00000001 74 02")) ≡ Err reason.Field
unfolding looked_into
compacts_neither = refl

splits : request_of true (hex (codes "11 00000001 74 00000001 6d")) ≡ Ok (asks.Act (act.AddSplit t (codes "m")))
unfolding looked_into
splits = refl

rows_told : sent_bytes (sent_of 0 0 (reply.Rows (codes "m" ∷ []))) ≡ hex (codes "00000006 85 00000001 6d 00000002 83 01")
unfolding looked_into
rows_told = refl

counts_told : sent_bytes (sent_of 0 0 (reply.Counted (record { tablets = 1; sources = 2; records = 258 }))) ≡ hex (codes "00000019 87 0000000000000001 0000000000000002 0000000000000102")
unfolding looked_into
counts_told = refl

-- ---- refusals
refused_name : sent_bytes (sent.Refused (refusal.NoTable t)) ≡ hex (codes "00000007 81 02 00000001 74")
unfolding looked_into
refused_name = refl

refused_table_permission : sent_bytes (sent.Refused (refusal.PermissionDenied (OfTable table.Write t))) ≡ hex (codes "00000009 81 03 01 01 00000001 74")
unfolding looked_into
refused_table_permission = refl

refused_system_permission : sent_bytes (sent.Refused (refusal.PermissionDenied (OfSystem system.System))) ≡ hex (codes "00000004 81 03 00 07")
unfolding looked_into
refused_system_permission = refl

refused_label : sent_bytes (sent.Refused (refusal.MalformedVisibility 1 64)) ≡ hex (codes "0000000a 81 05 00000001 00000040")
unfolding looked_into
refused_label = refl

refused_constraints : sent_bytes (sent.Refused (refusal.ConstraintViolation (record { constraint = Alphanumeric; code = 3; update = 2 } ∷ []))) ≡ hex (codes "0000000c 81 06 00000001 02 03 00000002")
unfolding looked_into
refused_constraints = refl

refused_ranges : sent_bytes (sent.Refused (refusal.TooLarge part.Ranges)) ≡ hex (codes "00000003 81 09 09")
unfolding looked_into
refused_ranges = refl

refused_sessions : sent_bytes (sent.Refused (refusal.TooLarge part.Sessions)) ≡ hex (codes "00000003 81 09 0a")
unfolding looked_into
refused_sessions = refl

-- how many sources there are; and a job's number, of which four bytes are told
refused_stale : sent_bytes (sent.Refused (refusal.Stale 1)) ≡ hex (codes "0000000a 81 0e 0000000000000001")
unfolding looked_into
refused_stale = refl

refused_job : sent_bytes (sent.Refused (refusal.NoJob 4294967298)) ≡ hex (codes "00000006 81 0f 00000002")
unfolding looked_into
refused_job = refl

begun_told : sent_bytes (sent_of 0 0 (reply.Begun tt)) ≡ hex (codes "00000001 80")
unfolding looked_into
begun_told = refl

refused_split : sent_bytes (sent.Refused (refusal.BadSplit OneRow)) ≡ hex (codes "00000003 81 14 02")
unfolding looked_into
refused_split = refl

refused_old : sent_bytes (sent.Refused (refusal.BelowHorizon 0)) ≡ hex (codes "00000007 81 16 01 00000000")
unfolding looked_into
refused_old = refl

refused_more_versions : sent_bytes (sent.Refused (refusal.VersionsRaised 2)) ≡ hex (codes "00000006 81 15 00000002")
unfolding looked_into
refused_more_versions = refl

refused_lower_horizon : sent_bytes (sent.Refused (refusal.HorizonLowered (negsuc 0))) ≡ hex (codes "0000000b 81 16 00 ffffffffffffffff")
unfolding looked_into
refused_lower_horizon = refl

refused_horizon : sent_bytes (sent.Refused refusal.ServerTime) ≡ hex (codes "00000003 81 16 02")
unfolding looked_into
refused_horizon = refl

-- a client reads them
told_more_versions : told_in (hex (codes "81 15 00000002")) ≡ Some (told.Refused (refusal.VersionsRaised 2))
unfolding looked_into
told_more_versions = refl

told_lower_horizon : told_in (hex (codes "81 16 00 8000000000000000")) ≡ Some (told.Refused (refusal.HorizonLowered (negsuc 9223372036854775807)))
unfolding looked_into
told_lower_horizon = refl

told_old : told_in (hex (codes "81 16 01 00000003")) ≡ Some (told.Refused (refusal.BelowHorizon 3))
unfolding looked_into
told_old = refl

told_horizon : told_in (hex (codes "81 16 02")) ≡ Some (told.Refused refusal.ServerTime)
unfolding looked_into
told_horizon = refl

told_none : told_in (hex (codes "81 16 03")) ≡ None
unfolding looked_into
told_none = refl

-- ---- several ranges of one session
many_told : sent_bytes (sent.Ranges ([] ∷ (cell ∷ []) ∷ []))
    ≡ hex (codes "00000001 86 00000021 82 00000001 72 00000001 66 00000001 71 00000000 0000000000000005 00000001 76 00000001 86 00000002 83 01")
unfolding looked_into
many_told = refl
