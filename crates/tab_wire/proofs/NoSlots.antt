-- No frame names the slot of a job.
use Rattle.std.proofs.Common.{ℕ, Bool, true, false, cond, ◌==◌, List, [], ◌∷◌, length, Option, Some, None, subst}
use Rattle.std.specs.Prelude.{Result, Ok, Err}
use Rattle.tab_history.specs.declared.event.Act.TheVariants as act
use Rattle.tab_history.specs.Chains.{NamesNoSlot}
use Rattle.tab_codec.specs.Reading.{◌>>=◌, whole, u32_at, i64_at, field_at, name_at, list_at, bounds_at, time_at, versions_at, constraints_at}
use Rattle.tab_wire.specs.declared.opcode.Opcode.{Opcode}
use Rattle.tab_wire.specs.declared.opcode.Opcode.TheVariants as opcode
use Rattle.tab_wire.specs.declared.request.Request.{Request}
use Rattle.tab_wire.specs.declared.request.Request.TheVariants as asks
use Rattle.tab_wire.specs.Heard as heard
use Rattle.tab_wire.specs.declared.reason.Reason.{Reason}
use Rattle.tab_wire.specs.declared.reason.Reason.TheVariants as reason
use Rattle.tab_wire.specs.FrameReading.{columns_at, permission_at, extent_at, mutation_at, ranges_at}
use Rattle.tab_wire.specs.Requests.{create_table_at, set_auths_at, grant_at, revoke_at, set_constraints_at, write_at, open_at, next_at, many_at, close_at, compact_at, add_split_at, set_versions_at, set_horizon_at, named_at, fields_at, opcode_of, is_in_turn, or_field, asked_by, request_of}
use Rattle.tab_wire.specs.Asking.{IsRead}
use Rattle.tab_wire.specs.Stream.{Piece, Frame, Broken}

-- the request names no slot of a job
abbrev pub AsksNoSlot : Request → Type 0
AsksNoSlot (asks.Act a) = NamesNoSlot a
AsksNoSlot _ = Unit {0}

-- nothing is read, or what is read names none
abbrev IsFree : Option (Request × List ℕ) → Type 0
IsFree None = Unit {0}
IsFree (Some read) = AsksNoSlot read.0

after : {A : Type 0} (o : Option A) (f : A → Option (Request × List ℕ)) → ((a : A) → IsFree (f a)) → IsFree (o >>= f)
after None f h = tt
after (Some a) f h = h a

named : (says : List ℕ → Request) (bytes : List ℕ) → ((name : List ℕ) → AsksNoSlot (says name)) → IsFree (named_at says bytes)
named says bytes h = after (name_at bytes) _ (λ name. h name.0)

-- ---- the fields of each opcode
fields_free : (o : Opcode) (bytes : List ℕ) → IsFree (fields_at o bytes)
unfolding create_table_at set_auths_at grant_at revoke_at set_constraints_at write_at open_at next_at many_at close_at compact_at add_split_at set_versions_at set_horizon_at
fields_free opcode.Hello bytes = named (λ user. asks.Hello user) bytes (λ name. tt)
fields_free opcode.CreateTable bytes = after (name_at bytes) _ (λ t. after (time_at t.1) _ (λ m. after (versions_at m.1) _ (λ v. tt)))
fields_free opcode.DropTable bytes = named (λ table. asks.Act (act.DropTable table)) bytes (λ name. tt)
fields_free opcode.CreateUser bytes = named (λ user. asks.Act (act.CreateUser user)) bytes (λ name. tt)
fields_free opcode.DropUser bytes = named (λ user. asks.Act (act.DropUser user)) bytes (λ name. tt)
fields_free opcode.SetAuths bytes = after (name_at bytes) _ (λ u. after (list_at u.1) _ (λ l. tt))
fields_free opcode.Grant bytes = after (name_at bytes) _ (λ u. after (permission_at u.1) _ (λ p. tt))
fields_free opcode.Revoke bytes = after (name_at bytes) _ (λ u. after (permission_at u.1) _ (λ p. tt))
fields_free opcode.SetConstraints bytes = after (name_at bytes) _ (λ t. after (constraints_at t.1) _ (λ c. tt))
fields_free opcode.Write bytes = after (name_at bytes) _ (λ t. after (mutation_at t.1) _ (λ m. tt))
fields_free opcode.Open bytes = after (name_at bytes) _ (λ t. after (bounds_at t.1) _ (λ b. after (columns_at b.1) _ (λ c. after (list_at c.1) _ (λ a. tt))))
fields_free opcode.Next bytes = after (u32_at bytes) _ (λ k. after (u32_at k.1) _ (λ n. tt))
fields_free opcode.Many bytes = after (u32_at bytes) _ (λ k. after (ranges_at k.1) _ (λ r. tt))
fields_free opcode.Close bytes = after (u32_at bytes) _ (λ k. tt)
fields_free opcode.Flush bytes = named (λ table. asks.Act (act.Flush table)) bytes (λ name. tt)
fields_free opcode.Compact bytes = after (name_at bytes) _ (λ t. after (extent_at t.1) _ (λ e. tt))
fields_free opcode.AddSplit bytes = after (name_at bytes) _ (λ t. after (field_at t.1) _ (λ r. tt))
fields_free opcode.Splits bytes = named (λ table. asks.Act (act.Splits table)) bytes (λ name. tt)
fields_free opcode.Status bytes = named (λ table. asks.Act (act.Status table)) bytes (λ name. tt)
fields_free opcode.Rights bytes = named (λ table. asks.Act (act.Rights table)) bytes (λ name. tt)
fields_free opcode.SetVersions bytes = after (name_at bytes) _ (λ t. after (versions_at t.1) _ (λ v. tt))
fields_free opcode.SetHorizon bytes = after (name_at bytes) _ (λ t. after (i64_at t.1) _ (λ z. tt))
fields_free opcode.Rotate bytes = tt

-- ---- whole frames
-- nothing is asked, or what is asked names none
abbrev MayBeAsked : Result Request Reason → Type 0
MayBeAsked (Ok request) = AsksNoSlot request
MayBeAsked (Err why) = Unit {0}

whole_free : (read : Option (Request × List ℕ)) → IsFree read → MayBeAsked (or_field (whole read))
whole_free None free = tt
whole_free (Some read) free = elim (length read.1 == 0) as (λ b. MayBeAsked (or_field (cond b (Some read.0) None))) [ true ↦ free | false ↦ tt ]

asked_free : (greeted : Bool) (o : Option Opcode) (fields : List ℕ) → MayBeAsked (asked_by greeted o fields)
asked_free greeted None fields = tt
asked_free greeted (Some o) fields =
    elim (is_in_turn greeted o) as (λ b. MayBeAsked (cond b (or_field (whole (fields_at o fields))) (Err reason.Order))) [
      | true ↦ whole_free (fields_at o fields) (fields_free o fields)
      | false ↦ tt
    ]

frame_free : (greeted : Bool) (frame : List ℕ) → MayBeAsked (request_of greeted frame)
unfolding request_of
frame_free greeted [] = tt
frame_free greeted (op ∷ fields) = asked_free greeted (opcode_of op) fields

-- what a piece of a stream asks names none
pub read_free : (greeted : Bool) (piece : Piece) (user : List ℕ) (request : Request) → IsRead greeted piece (heard.Request user request) → AsksNoSlot request
read_free greeted (Frame body) user request read = subst MayBeAsked read (frame_free greeted body)
read_free greeted (Broken why) user request read = absurd read
