-- For proofs. What holds of reading what frames of replies tell.
use Rattle.std.specs.Prelude.{ℕ, ◌≡◌, ◌<◌, ◌^◌, ◌↔◌, List, [], ◌∷◌, length, Some, FitsSigned}
use Rattle.std.specs.Int.{w64}
use Rattle.tab_key.specs.Names.{IsName}
use Rattle.tab_rules.specs.declared.violation.Violation.{Violation}
use Rattle.tab_policy.specs.declared.permission.Permission.{Permission}
use Rattle.tab_policy.specs.declared.permission.Permission.TheVariants.{OfSystem, OfTable}
use Rattle.tab_history.specs.declared.reply.Refusal.{Refusal}
use Rattle.tab_history.specs.declared.reply.Refusal.TheVariants as refusal
use Rattle.tab_codec.specs.Parts.{IsBytes}
use Rattle.tab_wire.specs.declared.reason.Reason.{Reason}
use Rattle.tab_wire.specs.declared.reply_frame.ReplyFrame.TheVariants as told
use Rattle.tab_wire.specs.Replies.{reason_number, refusal_bytes}
use Rattle.tab_wire.specs.Tells.{told_in}

-- ---- what a frame can tell
abbrev pub IsPermissionTold : Permission → Type 0
IsPermissionTold (OfSystem permission) = Unit {0}
IsPermissionTold (OfTable permission table) = IsName table

-- the places of these updates fit four bytes
abbrev pub ArePlacesTold : List Violation → Type 0
ArePlacesTold [] = Unit {0}
ArePlacesTold (v ∷ vs) = (v.update < 2 ^ 32) × ArePlacesTold vs

-- A frame can tell this refusal: names are names, and numbers and lengths fit their bytes. No frame tells of a job: its number is told as a session's.
abbrev pub IsTold : Refusal → Type 0
IsTold (refusal.UnknownUser user) = IsName user
IsTold (refusal.NoTable table) = IsName table
IsTold (refusal.PermissionDenied permission) = IsPermissionTold permission
IsTold (refusal.BadAuthorizations term) = length term < 2 ^ 32
IsTold (refusal.MalformedVisibility update offset) = (update < 2 ^ 32) × (offset < 2 ^ 32)
IsTold (refusal.ConstraintViolation violations) = (length violations < 2 ^ 32) × ArePlacesTold violations
IsTold (refusal.TimestampNotAllowed update) = update < 2 ^ 32
IsTold (refusal.TableExists table) = IsName table
IsTold (refusal.UserExists user) = IsName user
IsTold (refusal.NoUser user) = IsName user
IsTold (refusal.Stale count) = count < 2 ^ 64
IsTold (refusal.NoSession slot) = slot < 2 ^ 32
IsTold (refusal.NoJob slot) = ⊥
IsTold (refusal.VersionsRaised present) = present < 2 ^ 32
IsTold (refusal.HorizonLowered present) = FitsSigned w64 present
IsTold (refusal.BelowHorizon update) = update < 2 ^ 32
IsTold refusal = Unit {0}

-- ---- The law: a refusal is read of the frame that is written of it, and of no other one; and so is why a frame asked nothing.
pub record RefusalsAreTold : Type 0 where
  pub refused : (fields : List ℕ) (r : Refusal) → IsBytes fields → (told_in (129 ∷ fields) ≡ Some (told.Refused r)) ↔ ((fields ≡ refusal_bytes r) × IsTold r)
  pub bad_frame : (fields : List ℕ) (why : Reason) → IsBytes fields → (told_in (129 ∷ fields) ≡ Some (told.BadFrame why)) ↔ (fields ≡ 16 ∷ reason_number why ∷ [])
