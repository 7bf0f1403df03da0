-- To be believed. Why an event is refused, or a request for ranges: the checks, in their order.
use Rattle.std.specs.Prelude.{ℕ, ℤ, List, [], ◌∷◌, Bool, true, false, not, ◌||◌, nat_lt, int_lt, bytes_eq, Option, Some, None, Result, Ok, Err, is_some, length, unwrap_or, cond, option_map}
use Rattle.std.specs.List.{list_any}
use Rattle.tab_label.specs.Sets.{has_longer, first_missing}
use Rattle.tab_label.specs.Reading.{label_of}
use Rattle.tab_key.specs.Ranges.{is_bad_range}
use Rattle.tab_mutation.specs.Mutations.{Update, Mutation}
use Rattle.tab_mutation.specs.Shape.{first_some, when, first_index, first_found, is_too_long, shape_error}
use Rattle.tab_rules.specs.Verdict.{violations}
use Rattle.tab_policy.specs.Decisions.{Standing, decision}
use Rattle.tab_policy.specs.Roots.{root}
use Rattle.tab_history.specs.Settings.{Settings, takes_timestamps}
use Rattle.tab_history.specs.Bases.{Base}
use Rattle.tab_history.specs.Changes.{Change}
use Rattle.tab_history.specs.Readings.{has_user, held_auths, may_system, has_table_right, settings_of}
use Rattle.tab_mutation.specs.declared.shape_error.ShapeError.{ShapeError}
use Rattle.tab_mutation.specs.declared.shape_error.ShapeError.TheVariants as shape
use Rattle.tab_rules.specs.declared.violation.Violation.{Violation}
use Rattle.tab_key.specs.declared.limited_part.LimitedPart.TheVariants.{Row, Columns, Authorizations, Ranges}
use Rattle.tab_key.specs.declared.range.Bounds.{Bounds}
use Rattle.tab_policy.specs.declared.permission.SystemPermission.{SystemPermission}
use Rattle.tab_policy.specs.declared.permission.SystemPermission.TheVariants as system
use Rattle.tab_policy.specs.declared.permission.Permission.{Permission}
use Rattle.tab_policy.specs.declared.permission.Permission.TheVariants.{OfSystem, OfTable}
use Rattle.tab_policy.specs.declared.action.TableAction.TheVariants as on
use Rattle.tab_policy.specs.declared.action.ServerAction.TheVariants as server
use Rattle.tab_policy.specs.declared.decision.Denial.{Denial}
use Rattle.tab_policy.specs.declared.decision.Denial.TheVariants as policy
use Rattle.tab_policy.specs.Actions as action
use Rattle.tab_policy.specs.Actions.{Action}
use Rattle.tab_history.specs.declared.event.Scan.{Scan}
use Rattle.tab_history.specs.declared.event.Act.{Act}
use Rattle.tab_history.specs.declared.event.Act.TheVariants.{Open, Write, CreateTable, DropTable, SetConstraints, SetVersions, SetHorizon, CreateUser, DropUser, SetAuths, Grant, Revoke, Rights, Status, Flush, Compact, AddSplit, SplitBySize, Splits, Save, Rotate, Load, Begin, Install}
use Rattle.tab_history.specs.declared.reply.Refusal.{Refusal}
use Rattle.tab_history.specs.declared.reply.Refusal.TheVariants.{UnknownUser, NoTable, PermissionDenied, BadAuthorizations, MalformedVisibility, ConstraintViolation, TimestampNotAllowed, EmptyMutation, TooLarge, TableExists, UserExists, NoUser, BadRange, RootFixed, GrantInvalid, BelowHorizon, VersionsRaised, HorizonLowered, ServerTime}

-- ---- what the checks of an event look at
-- the caller's standing with the policy, the authorizations that he holds, and what each table is set to
pub record Caller : Type 0 where
  pub policy : Standing
  pub auths : List (List ℕ)
  pub settings : List ℕ → Option Settings

-- the same, read from a base and the changes since
unfoldable pub standing : Base → List Change → List ℕ → Caller
standing b j user = record {
  policy = record { known = has_user b j user; system = may_system b j user; table = has_table_right b j user; exists = λ t. is_some (settings_of b j t) };
  auths = held_auths b j user;
  settings = settings_of b j;
}

-- the user that an event names beside its caller
abbrev pub user_named : Act → Option (List ℕ)
user_named (CreateUser n) = Some n
user_named (DropUser n) = Some n
user_named (SetAuths n auths) = Some n
user_named (Grant n p) = Some n
user_named (Revoke n p) = Some n
user_named act = None

-- whether that user exists, where one is named
abbrev pub exists_in : Base → List Change → Option (List ℕ) → Bool
exists_in b j None = true
exists_in b j (Some n) = has_user b j n

-- ---- unknown users, unknown tables and missing permissions, which the policy decides
-- what the policy is asked for an event
abbrev pub action_of : Act → Action
action_of (Open scan) = action.OnTable on.Open scan.table
action_of (Write t m) = action.OnTable on.Write t
action_of (CreateTable t time n) = action.OnServer server.CreateTable
action_of (DropTable t) = action.OnTable on.DropTable t
action_of (SetConstraints t cs) = action.OnTable on.SetConstraints t
action_of (SetVersions t many) = action.OnTable on.SetVersions t
action_of (SetHorizon t low) = action.OnTable on.SetHorizon t
action_of (CreateUser n) = action.OnServer server.CreateUser
action_of (DropUser n) = action.OnServer server.DropUser
action_of (SetAuths n auths) = action.OnServer server.SetAuths
action_of (Grant n p) = action.Grant p
action_of (Revoke n p) = action.Revoke p
action_of (Rights t) = action.OnTable on.Rights t
action_of (Status t) = action.OnTable on.Status t
action_of (Flush t) = action.OnTable on.Flush t
action_of (Compact t extent) = action.OnTable on.Compact t
action_of (AddSplit t row) = action.OnTable on.AddSplit t
action_of (SplitBySize t row limit) = action.OnTable on.SplitBySize t
action_of (Splits t) = action.OnTable on.Splits t
action_of Save = action.OnServer server.Save
action_of Rotate = action.OnServer server.Rotate
action_of Load = action.OnServer server.Load
action_of (Begin t row kind) = action.OnTable on.Begin t
action_of (Install t given) = action.OnTable on.Install t

-- why the policy doesn't admit the user's event
abbrev pub denial : List ℕ → Option Denial → Option Refusal
denial user None = None
denial user (Some policy.UnknownUser) = Some (UnknownUser user)
denial user (Some (policy.NoTable t)) = Some (NoTable t)
denial user (Some (policy.PermissionDenied p)) = Some (PermissionDenied p)

-- ---- the checks of a mutation
-- the shape of a mutation: no update, or a part that is too large
abbrev pub shape_refusal : ShapeError → Refusal
shape_refusal shape.Empty = EmptyMutation
shape_refusal (shape.TooLarge part) = TooLarge part

-- a label that reads as nothing, in the update at place i
abbrev pub malformed_at : {X : Type 0} → ℕ → Result X ℕ → Option Refusal
malformed_at i (Ok label) = None
malformed_at i (Err offset) = Some (MalformedVisibility i offset)

-- the first update whose label is malformed
unfoldable pub malformed : Mutation → Option Refusal
malformed m = first_found (λ i u. malformed_at i (label_of u.label)) 0 m.updates

-- the first update with a timestamp, where the table gives them
unfoldable pub stamped : Settings → Mutation → Option Refusal
stamped s m = cond (takes_timestamps s.time) None (option_map TimestampNotAllowed (first_index (λ (u : Update). is_some u.timestamp) 0 m.updates))

-- the first update below the horizon, its timestamp given or the clock's
unfoldable pub outdated : Settings → ℤ → Mutation → Option Refusal
outdated s now m = option_map BelowHorizon (first_index (λ (u : Update). int_lt (unwrap_or u.timestamp now) s.horizon) 0 m.updates)

-- the constraints that the mutation fails, if any
abbrev pub violated : List Violation → Option Refusal
violated [] = None
violated (f ∷ fs) = Some (ConstraintViolation (f ∷ fs))

-- the checks of a mutation by a caller with these authorizations, in their order
abbrev pub mutation_checks : Option Settings → List (List ℕ) → ℤ → Mutation → List (Option Refusal)
mutation_checks None auths now m = []
mutation_checks (Some s) auths now m = option_map shape_refusal (shape_error m) ∷ malformed m ∷ stamped s m ∷ outdated s now m ∷ violated (violations s.constraints auths m) ∷ []

-- ---- the checks of the other events
-- over 1,024 authorizations, or one of over 1,024 bytes
abbrev pub too_many_auths : List (List ℕ) → Bool
too_many_auths auths = nat_lt 1024 (length auths) || has_longer auths 1024

-- over 1,000 columns; the size of the authorizations; the range; the least authorization that the caller doesn't hold
abbrev pub scan_checks : List (List ℕ) → Scan → List (Option Refusal)
scan_checks auths scan =
    when (nat_lt 1000 (length scan.columns)) (TooLarge Columns) ∷ when (too_many_auths scan.authorizations) (TooLarge Authorizations) ∷ when (is_bad_range scan.bounds.low scan.bounds.high) BadRange ∷ option_map BadAuthorizations (first_missing scan.authorizations auths) ∷ []

-- whether it is the permission to grant the others
abbrev pub is_grant : SystemPermission → Bool
is_grant system.Grant = true
is_grant _ = false

-- of a grant or a revocation, where there says whether its user exists: the permission to grant is root's alone, and root's system permissions don't change
abbrev pub right_checks : Bool → List ℕ → Permission → List (Option Refusal)
right_checks there n (OfSystem p) = when (is_grant p) GrantInvalid ∷ when (not there) (NoUser n) ∷ when (bytes_eq n root) RootFixed ∷ []
right_checks there n (OfTable p t) = when (not there) (NoUser n) ∷ []

-- the row of a split has a limit
abbrev pub row_checks : List ℕ → List (Option Refusal)
row_checks row = when (is_too_long row) (TooLarge Row) ∷ []

-- the number of versions isn't raised
abbrev pub version_checks : Option Settings → ℕ → List (Option Refusal)
version_checks None many = []
version_checks (Some s) many = when (nat_lt s.versions many) (VersionsRaised s.versions) ∷ []

-- the table takes timestamps, and its horizon isn't lowered
abbrev pub horizon_checks : Option Settings → ℤ → List (Option Refusal)
horizon_checks None low = []
horizon_checks (Some s) low = when (not (takes_timestamps s.time)) ServerTime ∷ when (int_lt low s.horizon) (HorizonLowered s.horizon) ∷ []

-- the checks that are an event's own, where the clock is now; there says whether the user that it names exists
abbrev pub own_checks : Caller → Bool → ℤ → Act → List (Option Refusal)
own_checks c there now (Open scan) = scan_checks c.auths scan
own_checks c there now (Write t m) = mutation_checks (c.settings t) c.auths now m
own_checks c there now (CreateTable t time n) = when (is_some (c.settings t)) (TableExists t) ∷ []
own_checks c there now (SetVersions t many) = version_checks (c.settings t) many
own_checks c there now (SetHorizon t low) = horizon_checks (c.settings t) low
own_checks c there now (CreateUser n) = when there (UserExists n) ∷ []
own_checks c there now (DropUser n) = when (not there) (NoUser n) ∷ when (bytes_eq n root) RootFixed ∷ []
own_checks c there now (SetAuths n auths) = when (too_many_auths auths) (TooLarge Authorizations) ∷ when (not there) (NoUser n) ∷ []
own_checks c there now (Grant n p) = right_checks there n p
own_checks c there now (Revoke n p) = right_checks there n p
own_checks c there now (AddSplit t row) = row_checks row
own_checks c there now (SplitBySize t row limit) = row_checks row
own_checks c there now act = []

-- why the event is refused: the first failing check, the policy's before its own
unfoldable pub refusal_of : Caller → Bool → ℤ → List ℕ → Act → Option Refusal
refusal_of c there now user act = first_some (denial user (decision c.policy (action_of act)) ∷ own_checks c there now act)

-- ---- the checks of a request for ranges
-- one of these bounds leaves no range
abbrev pub has_bad_range : List Bounds → Bool
has_bad_range ranges = list_any (λ (b : Bounds). is_bad_range b.low b.high) ranges

-- over 1,000 ranges; a range that is none
abbrev pub many_checks : List Bounds → List (Option Refusal)
many_checks ranges = when (nat_lt 1000 (length ranges)) (TooLarge Ranges) ∷ when (has_bad_range ranges) BadRange ∷ []
