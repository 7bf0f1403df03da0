-- For proofs. What the bytes of a frame ask, as a function.
use Rattle.std.specs.Prelude.{ℕ, zero, suc, Bool, true, false, List, [], ◌∷◌, slice_get, Option, Some, None, Result, Ok, Err, if◌then◌else◌}
use Rattle.tab_label.specs.Sets.{set_of}
use Rattle.tab_history.specs.declared.event.Act.TheVariants as act
use Rattle.tab_codec.specs.Reading.{◌>>=◌, Reader, mapped, given, whole, u32_at, i64_at, field_at, name_at, list_at, bounds_at, time_at, versions_at, constraints_at}
use Rattle.tab_wire.specs.declared.opcode.Opcode.{Opcode}
use Rattle.tab_wire.specs.declared.opcode.Opcode.TheVariants as op
use Rattle.tab_wire.specs.declared.request.Request.{Request}
use Rattle.tab_wire.specs.declared.request.Request.TheVariants as asks
use Rattle.tab_wire.specs.declared.reason.Reason.{Reason}
use Rattle.tab_wire.specs.declared.reason.Reason.TheVariants as reason
use Rattle.tab_wire.specs.FrameReading.{columns_at, permission_at, extent_at, mutation_at, ranges_at}

-- ---- the first byte
-- the opcodes from 1 on
abbrev pub all_opcodes : List Opcode
all_opcodes = op.Hello ∷ op.CreateTable ∷ op.DropTable ∷ op.CreateUser ∷ op.DropUser ∷ op.SetAuths ∷ op.Grant ∷ op.Revoke ∷ op.SetConstraints ∷ op.Write ∷ op.Open ∷ op.Next ∷ op.Many ∷ op.Close ∷ op.Flush ∷ op.Compact ∷ op.AddSplit ∷ op.Splits ∷ op.Status ∷ op.Rights ∷ op.SetVersions ∷ op.SetHorizon ∷ op.Rotate ∷ []

abbrev pub opcode_of : ℕ → Option Opcode
opcode_of zero = None
opcode_of (suc place) = slice_get all_opcodes place

-- ---- the fields of each opcode
-- a name alone
abbrev pub named_at : (List ℕ → Request) → Reader Request
named_at says = mapped says name_at

unfoldable pub create_table_at : Reader Request
create_table_at bytes = do
  table ← name_at bytes
  time ← time_at table.1
  versions ← versions_at time.1
  Some (asks.Act (act.CreateTable table.0 time.0 versions.0), versions.1)

unfoldable pub set_auths_at : Reader Request
set_auths_at bytes = do
  user ← name_at bytes
  members ← list_at user.1
  Some (asks.Act (act.SetAuths user.0 (set_of members.0)), members.1)

unfoldable pub grant_at : Reader Request
grant_at bytes = do
  user ← name_at bytes
  permission ← permission_at user.1
  Some (asks.Act (act.Grant user.0 permission.0), permission.1)

unfoldable pub revoke_at : Reader Request
revoke_at bytes = do
  user ← name_at bytes
  permission ← permission_at user.1
  Some (asks.Act (act.Revoke user.0 permission.0), permission.1)

unfoldable pub set_constraints_at : Reader Request
set_constraints_at bytes = do
  table ← name_at bytes
  constraints ← constraints_at table.1
  Some (asks.Act (act.SetConstraints table.0 constraints.0), constraints.1)

unfoldable pub write_at : Reader Request
write_at bytes = do
  table ← name_at bytes
  mutation ← mutation_at table.1
  Some (asks.Act (act.Write table.0 mutation.0), mutation.1)

unfoldable pub open_at : Reader Request
open_at bytes = do
  table ← name_at bytes
  bounds ← bounds_at table.1
  columns ← columns_at bounds.1
  members ← list_at columns.1
  Some (asks.Act (act.Open (record { table = table.0; bounds = bounds.0; columns = columns.0; authorizations = set_of members.0 })), members.1)

unfoldable pub next_at : Reader Request
next_at bytes = do
  slot ← u32_at bytes
  count ← u32_at slot.1
  Some (asks.Next slot.0 count.0, count.1)

unfoldable pub many_at : Reader Request
many_at bytes = do
  slot ← u32_at bytes
  ranges ← ranges_at slot.1
  Some (asks.Many slot.0 ranges.0, ranges.1)

unfoldable pub close_at : Reader Request
close_at bytes = mapped (λ slot. asks.Close slot) u32_at bytes

unfoldable pub compact_at : Reader Request
compact_at bytes = do
  table ← name_at bytes
  extent ← extent_at table.1
  Some (asks.Act (act.Compact table.0 extent.0), extent.1)

unfoldable pub add_split_at : Reader Request
add_split_at bytes = do
  table ← name_at bytes
  row ← field_at table.1
  Some (asks.Act (act.AddSplit table.0 row.0), row.1)

unfoldable pub set_versions_at : Reader Request
set_versions_at bytes = do
  table ← name_at bytes
  versions ← versions_at table.1
  Some (asks.Act (act.SetVersions table.0 versions.0), versions.1)

unfoldable pub set_horizon_at : Reader Request
set_horizon_at bytes = do
  table ← name_at bytes
  horizon ← i64_at table.1
  Some (asks.Act (act.SetHorizon table.0 horizon.0), horizon.1)

-- the fields of an opcode
abbrev pub fields_at : Opcode → Reader Request
fields_at op.Hello bytes = named_at (λ user. asks.Hello user) bytes
fields_at op.CreateTable bytes = create_table_at bytes
fields_at op.DropTable bytes = named_at (λ table. asks.Act (act.DropTable table)) bytes
fields_at op.CreateUser bytes = named_at (λ user. asks.Act (act.CreateUser user)) bytes
fields_at op.DropUser bytes = named_at (λ user. asks.Act (act.DropUser user)) bytes
fields_at op.SetAuths bytes = set_auths_at bytes
fields_at op.Grant bytes = grant_at bytes
fields_at op.Revoke bytes = revoke_at bytes
fields_at op.SetConstraints bytes = set_constraints_at bytes
fields_at op.Write bytes = write_at bytes
fields_at op.Open bytes = open_at bytes
fields_at op.Next bytes = next_at bytes
fields_at op.Many bytes = many_at bytes
fields_at op.Close bytes = close_at bytes
fields_at op.Flush bytes = named_at (λ table. asks.Act (act.Flush table)) bytes
fields_at op.Compact bytes = compact_at bytes
fields_at op.AddSplit bytes = add_split_at bytes
fields_at op.Splits bytes = named_at (λ table. asks.Act (act.Splits table)) bytes
fields_at op.Status bytes = named_at (λ table. asks.Act (act.Status table)) bytes
fields_at op.Rights bytes = named_at (λ table. asks.Act (act.Rights table)) bytes
fields_at op.SetVersions bytes = set_versions_at bytes
fields_at op.SetHorizon bytes = set_horizon_at bytes
fields_at op.Rotate bytes = given (asks.Act act.Rotate) bytes

-- what all bytes of a frame ask, in their form
unfoldable pub request_in : List ℕ → Option Request
request_in [] = None
request_in (op ∷ fields) = opcode_of op >>= λ opcode. whole (fields_at opcode fields)

-- ---- which reason comes first
-- Hello is the first frame, and no other one
abbrev pub is_in_turn : Bool → Opcode → Bool
is_in_turn true op.Hello = false
is_in_turn true opcode = true
is_in_turn false op.Hello = true
is_in_turn false opcode = false

-- the request, or that the bytes aren't of its form
abbrev pub or_field : Option Request → Result Request Reason
or_field None = Err reason.Field
or_field (Some request) = Ok request

-- what a frame of this opcode asks
abbrev pub asked_by : Bool → Option Opcode → List ℕ → Result Request Reason
asked_by greeted None fields = Err reason.Opcode
asked_by greeted (Some opcode) fields = if is_in_turn greeted opcode then or_field (whole (fields_at opcode fields)) else Err reason.Order

-- what a frame asks, after Hello or before it: the opcode is judged before the order, and the order before the fields
unfoldable pub request_of : Bool → List ℕ → Result Request Reason
request_of greeted [] = Err reason.Empty
request_of greeted (op ∷ fields) = asked_by greeted (opcode_of op) fields
