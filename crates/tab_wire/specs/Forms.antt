-- To be believed by whoever relies on it. What the bytes of a frame ask, form by form, as a relation. It says nothing of how they are read.
use Rattle.std.specs.Prelude.{ℕ, ℤ, ◌≡◌, ◌≢◌, ◌↔◌, ◌≤◌, Bool, true, false, List, [], ◌∷◌, ◌++◌, Some, Ok, Err}
use Rattle.tab_key.specs.declared.range.Bounds.{Bounds}
use Rattle.tab_key.specs.declared.column.Column.{Column}
use Rattle.tab_label.specs.Sets.{set_of}
use Rattle.tab_mutation.specs.Mutations.{Mutation}
use Rattle.tab_rules.specs.declared.constraint.Constraint.{Constraint}
use Rattle.tab_policy.specs.declared.permission.Permission.{Permission}
use Rattle.tab_history.specs.declared.event.TimeMode.{TimeMode}
use Rattle.tab_history.specs.declared.event.Extent.{Extent}
use Rattle.tab_history.specs.declared.event.Act.TheVariants as act
use Rattle.tab_codec.specs.Parts.{IsBytes, IsU32, IsI64, IsField, IsNameField, IsCounted, IsList, IsBounds, time_byte, IsVersions, IsConstraints}
use Rattle.tab_wire.specs.declared.request.Request.{Request}
use Rattle.tab_wire.specs.declared.request.Request.TheVariants as asks
use Rattle.tab_wire.specs.declared.reason.Reason.{Reason}
use Rattle.tab_wire.specs.declared.reason.Reason.TheVariants as reason
use Rattle.tab_wire.specs.FrameParts.{IsColumn, IsPermission, extent_byte, IsMutation}
use Rattle.tab_wire.specs.Requests.{request_in, request_of}

-- the bytes of a frame ask this: an opcode and its fields, with nothing left over
pub data IsRequest : List ℕ → Request → Type 0 where
  hello : (u user : List ℕ) → IsNameField u user → IsRequest (1 ∷ u) (asks.Hello user)
  create_table : (t v table : List ℕ) (time : TimeMode) (versions : ℕ) → IsNameField t table → IsVersions v versions
      → IsRequest (2 ∷ (t ++ (time_byte time ∷ v))) (asks.Act (act.CreateTable table time versions))
  drop_table : (t table : List ℕ) → IsNameField t table → IsRequest (3 ∷ t) (asks.Act (act.DropTable table))
  create_user : (u user : List ℕ) → IsNameField u user → IsRequest (4 ∷ u) (asks.Act (act.CreateUser user))
  drop_user : (u user : List ℕ) → IsNameField u user → IsRequest (5 ∷ u) (asks.Act (act.DropUser user))
  set_auths : (u l user : List ℕ) (members : List (List ℕ)) → IsNameField u user → IsList l members → IsRequest (6 ∷ (u ++ l)) (asks.Act (act.SetAuths user (set_of members)))
  grant : (u p user : List ℕ) (permission : Permission) → IsNameField u user → IsPermission p permission → IsRequest (7 ∷ (u ++ p)) (asks.Act (act.Grant user permission))
  revoke : (u p user : List ℕ) (permission : Permission) → IsNameField u user → IsPermission p permission → IsRequest (8 ∷ (u ++ p)) (asks.Act (act.Revoke user permission))
  set_constraints : (t c table : List ℕ) (constraints : List Constraint) → IsNameField t table → IsConstraints c constraints
      → IsRequest (9 ∷ (t ++ c)) (asks.Act (act.SetConstraints table constraints))
  write : (t m table : List ℕ) (mutation : Mutation) → IsNameField t table → IsMutation m mutation → IsRequest (10 ∷ (t ++ m)) (asks.Act (act.Write table mutation))
  opens : (t b c a table : List ℕ) (bounds : Bounds) (columns : List Column) (members : List (List ℕ))
      → IsNameField t table → IsBounds b bounds → IsCounted IsU32 IsColumn c columns → IsList a members
      → IsRequest (11 ∷ (t ++ (b ++ (c ++ a)))) (asks.Act (act.Open (record { table = table; bounds = bounds; columns = columns; authorizations = set_of members })))
  next : (k c : List ℕ) (slot count : ℕ) → IsU32 k slot → IsU32 c count → IsRequest (12 ∷ (k ++ c)) (asks.Next slot count)
  many : (k r : List ℕ) (slot : ℕ) (ranges : List Bounds) → IsU32 k slot → IsCounted IsU32 IsBounds r ranges → IsRequest (13 ∷ (k ++ r)) (asks.Many slot ranges)
  close : (k : List ℕ) (slot : ℕ) → IsU32 k slot → IsRequest (14 ∷ k) (asks.Close slot)
  flush : (t table : List ℕ) → IsNameField t table → IsRequest (15 ∷ t) (asks.Act (act.Flush table))
  compact : (t table : List ℕ) (extent : Extent) → IsNameField t table → IsRequest (16 ∷ (t ++ extent_byte extent ∷ [])) (asks.Act (act.Compact table extent))
  add_split : (t r table row : List ℕ) → IsNameField t table → IsField r row → IsRequest (17 ∷ (t ++ r)) (asks.Act (act.AddSplit table row))
  splits : (t table : List ℕ) → IsNameField t table → IsRequest (18 ∷ t) (asks.Act (act.Splits table))
  status : (t table : List ℕ) → IsNameField t table → IsRequest (19 ∷ t) (asks.Act (act.Status table))
  rights : (t table : List ℕ) → IsNameField t table → IsRequest (20 ∷ t) (asks.Act (act.Rights table))
  set_versions : (t v table : List ℕ) (versions : ℕ) → IsNameField t table → IsVersions v versions → IsRequest (21 ∷ (t ++ v)) (asks.Act (act.SetVersions table versions))
  set_horizon : (t z table : List ℕ) (horizon : ℤ) → IsNameField t table → IsI64 z horizon → IsRequest (22 ∷ (t ++ z)) (asks.Act (act.SetHorizon table horizon))
  rotate : IsRequest (23 ∷ []) (asks.Act act.Rotate)

-- ---- The law: reading gives exactly what the forms say.
abbrev pub RequestsAreForms : Type 0
RequestsAreForms = (bytes : List ℕ) (request : Request) → IsBytes bytes → (request_in bytes ≡ Some request) ↔ IsRequest bytes request

-- ---- Why a frame asks nothing, after Hello or before it. An unknown opcode comes before the order, and the order before the fields.
-- the opcodes 01 to 17, in hexadecimal
abbrev pub IsKnown : ℕ → Type 0
IsKnown op = (1 ≤ op) × (op ≤ 23)

-- Hello is the first frame, and no other one
abbrev pub InTurn : Bool → ℕ → Type 0
InTurn true op = op ≢ 1
InTurn false op = op ≡ 1

pub data IsBad : Bool → List ℕ → Reason → Type 0 where
  opcode : (greeted : Bool) (op : ℕ) (fields : List ℕ) → (IsKnown op → ⊥) → IsBad greeted (op ∷ fields) reason.Opcode
  order : (greeted : Bool) (op : ℕ) (fields : List ℕ) → IsKnown op → (InTurn greeted op → ⊥) → IsBad greeted (op ∷ fields) reason.Order
  field : (greeted : Bool) (op : ℕ) (fields : List ℕ) → IsKnown op → InTurn greeted op
      → ((request : Request) → IsRequest (op ∷ fields) request → ⊥) → IsBad greeted (op ∷ fields) reason.Field

-- ---- The law: a frame that asks nothing is refused by the first reason that there is.
abbrev pub ReasonsAreFirst : Type 0
ReasonsAreFirst = (greeted : Bool) (op : ℕ) (fields : List ℕ) (r : Reason) → IsBytes (op ∷ fields) → (request_of greeted (op ∷ fields) ≡ Err r) ↔ IsBad greeted (op ∷ fields) r

-- ---- The law: what a frame asks is asked in its turn.
abbrev pub RequestsInTurn : Type 0
RequestsInTurn = (greeted : Bool) (op : ℕ) (fields : List ℕ) (request : Request) → IsBytes (op ∷ fields)
    → (request_of greeted (op ∷ fields) ≡ Ok request) ↔ (IsRequest (op ∷ fields) request × InTurn greeted op)
