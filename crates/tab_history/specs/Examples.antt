-- Worked examples, computed: lists of steps from a new core, and the replies to them that say more than that all went well. Where a
-- reply is left open they show one: of a Status zeros, of a Splits no rows, a split and an Install as done, and a Begin as begun.
use Rattle.std.specs.Prelude.{negsuc, ◌≡◌, ℕ, ◌-◌, ℤ, pos, nat_le, length, List, [], ◌∷◌, ◌++◌, Bool, true, false, cond, Option, Some, None, codes, reverse, replicate, refl}
use Rattle.std.proofs.Common.{inl, inr, subst}
use Rattle.tab_key.specs.Records.{Cell}
use Rattle.tab_key.specs.Order.{column_cmp, key_cmp, place_cmp, newer_cmp}
use Rattle.tab_key.specs.Kept.{same_column, hides, is_deleted, outranks, is_kept}
use Rattle.tab_key.specs.declared.key.Kind.TheVariants.{Put, Delete}
use Rattle.tab_key.specs.declared.limited_part.LimitedPart.TheVariants.{Row, Numbers, Ranges as RangesPart}
use Rattle.tab_key.specs.declared.range.Bounds.{Bounds}
use Rattle.tab_key.specs.declared.range.Bound.TheVariants.{Unbounded, Inclusive, Exclusive}
use Rattle.tab_label.specs.Grammar.{is_term_byte}
use Rattle.tab_label.specs.Machine.{step, ending}
use Rattle.tab_label.specs.Reading.{reads_on, label_of}
use Rattle.tab_mutation.specs.Mutations.{Update}
use Rattle.tab_mutation.specs.Shape.{shape_error}
use Rattle.tab_rules.specs.Verdict.{violations}
use Rattle.tab_policy.specs.Roots.{root}
use Rattle.tab_policy.specs.State.{user_exists, user_count as policy_users, auths_of, system_granted, table_granted}
use Rattle.tab_history.specs.Settings.{least, made_with}
use Rattle.tab_history.specs.Bases.{Base, new_policy, new_core}
use Rattle.tab_history.specs.Changes.{UserDropped, TableDropped}
use Rattle.tab_history.specs.Readings.{has_user, user_count, held_auths, has_system_right, has_table_right, table_count, settings_of, next_number, updates_of}
use Rattle.tab_cells.specs.Written.{records_of}
use Rattle.tab_cells.specs.Cells.{matches, cells}
use Rattle.tab_history.specs.Checks.{standing, malformed, stamped, outdated, refusal_of}
use Rattle.tab_history.specs.Sessions.{opened, closed, session_in}
use Rattle.tab_history.specs.Jobs.{begun, job_in}
use Rattle.tab_history.specs.Answers.{Told, told_begun, are_used_up, answer, session_list}
use Rattle.tab_history.specs.Histories.{Entry, world_of, world_after, clock_of, journal, moves_of, jobs_of}
use Rattle.tab_history.specs.Legal.{IsAnswer, may_lack, Legal}
use Rattle.tab_history.specs.Runs.{played}
use Rattle.tab_rules.specs.declared.constraint.Constraint.TheVariants.{Visibility}
use Rattle.tab_policy.specs.declared.permission.Permission.TheVariants.{OfSystem, OfTable}
use Rattle.tab_policy.specs.declared.permission.SystemPermission.TheVariants as system
use Rattle.tab_policy.specs.declared.permission.TablePermission.TheVariants as table
use Rattle.tab_policy.specs.declared.sets.SystemPermissions.{SystemPermissions}
use Rattle.tab_policy.specs.declared.sets.TablePermissions.{TablePermissions}
use Rattle.tab_history.specs.declared.counts.Counts.{Counts}
use Rattle.tab_history.specs.declared.split_fault.SplitFault.TheVariants.{Present, Small, OneRow}
use Rattle.tab_history.specs.declared.event.TimeMode.TheVariants.{Any, Server}
use Rattle.tab_history.specs.declared.event.Extent.TheVariants.{Partial, Full}
use Rattle.tab_cells.specs.declared.compaction.Compaction.{Compaction}
use Rattle.tab_cells.specs.declared.compaction.Compaction.TheVariants as part
use Rattle.tab_history.specs.declared.event.Given.TheVariants.{InSlot, ByHand}
use Rattle.tab_history.specs.declared.event.Act.{Act}
use Rattle.tab_history.specs.declared.event.Act.TheVariants as act
use Rattle.tab_history.specs.declared.event.Step.{Step}
use Rattle.tab_history.specs.declared.event.Step.TheVariants.{Next, Many, Close, Merge}
use Rattle.tab_history.specs.declared.reply.Refusal.TheVariants.{VersionsRaised, HorizonLowered, ServerTime, UnknownUser, NoTable, PermissionDenied, BadAuthorizations, MalformedVisibility, ConstraintViolation, TimestampNotAllowed, EmptyMutation, TooLarge, TableExists, UserExists, NoUser, BadRange, NoSession, NoJob, Stale, NoMemory, RootFixed, GrantInvalid, BelowHorizon, BadSplit}
use Rattle.tab_history.specs.declared.reply.Reply.TheVariants.{Done, Refused, Opened, Batch, Ranges, Rights, Counted, Rows, Nothing}
use Rattle.tab_history.specs.ExampleWords.{t, r, f, q, v, bob, everywhere, asks, as_root, as_bob}

-- whether the reply says no more than that all went well
abbrev pub is_done : Told → Bool
is_done Done = true
is_done (Opened session) = true
is_done _ = false

-- the other replies, in the order of the entries
abbrev pub shown : List Entry → List Told
shown [] = []
shown (e ∷ es) = cond (is_done e.reply) (shown es) (e.reply ∷ shown es)

-- those of a run of these steps from a base
abbrev pub replies_from : Base → List Step → List Told
replies_from b steps = shown (reverse (played (world_of b) [] steps))

-- those of a run from a new core
abbrev pub replies : List Step → List Told
replies steps = replies_from new_core steps

-- names what the examples look into
everything : ℕ
unfolding is_term_byte step ending reads_on label_of column_cmp key_cmp place_cmp newer_cmp same_column hides is_deleted outranks is_kept matches cells user_exists policy_users auths_of system_granted table_granted has_user user_count held_auths has_system_right has_table_right table_count settings_of next_number records_of updates_of shape_error malformed stamped outdated violations standing refusal_of opened closed session_in begun job_in answer session_list clock_of journal moves_of jobs_of
everything = 0

-- ---- steps, updates and cells of the examples
-- a put with this label, value and timestamp
abbrev put : List ℕ → List ℕ → Option ℤ → Update
put label value ts = record { kind = Put; family = f; qualifier = q; label = label; timestamp = ts; value = value }

-- a delete with this label and timestamp
abbrev del : List ℕ → Option ℤ → Update
del label ts = record { kind = Delete; family = f; qualifier = q; label = label; timestamp = ts; value = [] }

-- writes these updates of one row to t
abbrev writes : List ℕ → List Update → Act
writes row updates = act.Write t (record { row = row; updates = updates })

-- opens a session on these rows of t, under these authorizations
abbrev opens : Bounds → List (List ℕ) → Act
opens bounds auths = act.Open (record { table = t; bounds = bounds; columns = []; authorizations = auths })

-- opens a session on all rows of t, and takes as many cells
abbrev scan : List (List ℕ) → ℕ → List Step
scan auths slot = as_root (opens everywhere auths) ∷ Next root slot 1000 ∷ []

-- a cell of the family and qualifier
abbrev cell : List ℕ → List ℕ → ℤ → List ℕ → Cell
cell row label ts value = record { key = record { row = row; family = f; qualifier = q; label = label; timestamp = ts }; value = value }

-- makes t with one version
abbrev make : Step
make = as_root (act.CreateTable t Any 1)

-- makes t with two versions
abbrev make_two : Step
make_two = as_root (act.CreateTable t Any 2)

-- gives root these authorizations
abbrev holds : List (List ℕ) → Step
holds auths = as_root (act.SetAuths root auths)

-- ---- puts, deletes and versions
-- a new table shows nothing
empty_table : replies (make ∷ scan [] 0) ≡ Batch [] ∷ []
unfolding everything
empty_table = refl

-- what was put is shown
one_put : replies (make ∷ as_root (writes r (put [] v (Some (pos 5)) ∷ [])) ∷ scan [] 0) ≡ Batch (cell r [] (pos 5) v ∷ []) ∷ []
unfolding everything
one_put = refl

-- two versions; `A` and `(A)` are two columns; a delete hides the older put of its own column
versions_and_labels : replies (make_two ∷ holds (codes "A" ∷ []) ∷ as_root (writes r (put (codes "A") (codes "x") (Some (pos 5)) ∷ [])) ∷ as_root (writes r (put (codes "A") (codes "y") (Some (pos 6)) ∷ [])) ∷ as_root (writes r (put (codes "(A)") (codes "z") (Some (pos 3)) ∷ [])) ∷ as_root (writes r (del (codes "A") (Some (pos 5)) ∷ [])) ∷ scan (codes "A" ∷ []) 0)
    ≡ Batch (cell r (codes "(A)") (pos 3) (codes "z") ∷ cell r (codes "A") (pos 6) (codes "y") ∷ []) ∷ []
unfolding everything
versions_and_labels = refl

-- one version is kept of each label, and a marker hides under its own label alone
labels_apart : replies (make ∷ holds (codes "A" ∷ []) ∷ as_root (writes r (put (codes "A") (codes "x") (Some (pos 5)) ∷ put (codes "(A)") (codes "z") (Some (pos 3)) ∷ [])) ∷ scan (codes "A" ∷ []) 0 ++ as_root (writes r (del (codes "A") (Some (pos 9)) ∷ [])) ∷ scan (codes "A" ∷ []) 1)
    ≡ Batch (cell r (codes "(A)") (pos 3) (codes "z") ∷ cell r (codes "A") (pos 5) (codes "x") ∷ []) ∷ Batch (cell r (codes "(A)") (pos 3) (codes "z") ∷ []) ∷ []
unfolding everything
labels_apart = refl

-- a marker hides what is written later below it
hidden_later : replies (make ∷ as_root (writes r (del [] (Some (pos 5)) ∷ [])) ∷ as_root (writes r (put [] v (Some (pos 4)) ∷ [])) ∷ scan [] 0) ≡ Batch [] ∷ []
unfolding everything
hidden_later = refl

-- two puts with equal keys are two versions, the newer first, and batches of one give both
equal_keys : replies (make_two ∷ as_root (writes r (put [] (codes "x") (Some (pos 7)) ∷ [])) ∷ as_root (writes r (put [] (codes "y") (Some (pos 7)) ∷ [])) ∷ as_root (opens everywhere []) ∷ Next root 0 1 ∷ Next root 0 1 ∷ Next root 0 1 ∷ [])
    ≡ Batch (cell r [] (pos 7) (codes "y") ∷ []) ∷ Batch (cell r [] (pos 7) (codes "x") ∷ []) ∷ Batch [] ∷ []
unfolding everything
equal_keys = refl

-- of one version the newer is kept, also of two updates of one mutation
one_version : replies (make ∷ as_root (writes r (put [] (codes "x") (Some (pos 7)) ∷ put [] (codes "y") (Some (pos 7)) ∷ [])) ∷ scan [] 0) ≡ Batch (cell r [] (pos 7) (codes "y") ∷ []) ∷ []
unfolding everything
one_version = refl

-- the least and the greatest timestamp
extremes : replies (make_two ∷ as_root (writes r (put [] (codes "lo") (Some least) ∷ [])) ∷ as_root (writes r (put [] (codes "hi") (Some (pos 9223372036854775807)) ∷ [])) ∷ scan [] 0) ≡ Batch (cell r [] (pos 9223372036854775807) (codes "hi") ∷ cell r [] least (codes "lo") ∷ []) ∷ []
unfolding everything
extremes = refl

-- ---- labels
-- the offset of a malformed label is the length of its longest front that begins some label; nothing is written
abbrev malformed_put : List ℕ → List Told
malformed_put label = replies (make ∷ as_root (writes r (put [] v (Some (pos 5)) ∷ put label v (Some (pos 5)) ∷ [])) ∷ scan [] 0)

-- both joiners at one level
mixed_joiners : malformed_put (codes "a|b&c") ≡ Refused (MalformedVisibility 1 3) ∷ Batch [] ∷ []
unfolding everything
mixed_joiners = refl

-- a joiner with nothing behind it
no_operand : malformed_put (codes "a&") ≡ Refused (MalformedVisibility 1 2) ∷ Batch [] ∷ []
unfolding everything
no_operand = refl

-- parentheses with nothing inside
nothing_inside : malformed_put (codes "()") ≡ Refused (MalformedVisibility 1 1) ∷ Batch [] ∷ []
unfolding everything
nothing_inside = refl

-- a term in n parentheses
abbrev nested : ℕ → List ℕ
nested n = replicate n 40 ++ codes "a" ++ replicate n 41

-- what is 64 deep is written
deep : replies (make ∷ as_root (writes r (put (nested 64) v (Some (pos 5)) ∷ [])) ∷ scan [] 0) ≡ Batch [] ∷ []
unfolding everything
deep = refl

-- what is 65 deep fails behind the 64th
too_deep : malformed_put (nested 65) ≡ Refused (MalformedVisibility 1 64) ∷ Batch [] ∷ []
unfolding everything
too_deep = refl

-- an escape of what isn't escaped
wrong_escape : malformed_put (codes "\"a\\b\"") ≡ Refused (MalformedVisibility 1 3) ∷ Batch [] ∷ []
unfolding everything
wrong_escape = refl

-- a quoted term stands for its bytes with the escapes undone
quoted : replies (make ∷ holds (codes "a\"b" ∷ []) ∷ as_root (writes r (put (codes "\"a\\\"b\"|c") v (Some (pos 5)) ∷ [])) ∷ scan (codes "a\"b" ∷ []) 0) ≡ Batch (cell r (codes "\"a\\\"b\"|c") (pos 5) v ∷ []) ∷ []
unfolding everything
quoted = refl

-- a label is judged by the authorizations of the scan
joined : replies (make ∷ holds (codes "a" ∷ codes "c d" ∷ []) ∷ as_root (writes r (put (codes "a&(b|\"c d\")") v (Some (pos 5)) ∷ [])) ∷ scan (codes "a" ∷ []) 0 ++ scan (codes "a" ∷ codes "c d" ∷ []) 1)
    ≡ Batch [] ∷ Batch (cell r (codes "a&(b|\"c d\")") (pos 5) v ∷ []) ∷ []
unfolding everything
joined = refl

-- the least authorization that the caller lacks
least_missing : replies (make ∷ holds (codes "A" ∷ []) ∷ as_root (opens everywhere (codes "A" ∷ codes "B" ∷ codes "C" ∷ [])) ∷ []) ≡ Refused (BadAuthorizations (codes "B")) ∷ []
unfolding everything
least_missing = refl

-- ---- time
-- the clock gives timestamps and doesn't go back; a given one is refused
server_time : replies (as_root (act.CreateTable t Server 1) ∷ asks root (pos 100) (writes r (put [] v None ∷ [])) ∷ asks root (pos 50) (writes r (put [] (codes "w") None ∷ [])) ∷ scan [] 0 ++ as_root (writes r (put [] (codes "x") (Some (pos 7)) ∷ [])) ∷ [])
    ≡ Batch (cell r [] (pos 100) (codes "w") ∷ []) ∷ Refused (TimestampNotAllowed 0) ∷ []
unfolding everything
server_time = refl

-- a refused event moves the clock too, but not what the list of sessions refused
refused_moment : replies (as_root (act.CreateTable t Server 1) ∷ asks root (pos 9) (act.CreateTable t Server 1) ∷ Next root 5 1 ∷ as_root (writes r (put [] v None ∷ [])) ∷ scan [] 0) ≡ Refused (TableExists t) ∷ Refused (NoSession 5) ∷ Batch (cell r [] (pos 9) v ∷ []) ∷ []
unfolding everything
refused_moment = refl

-- a marker hides a put of the same moment, and not one of a later moment
same_moment : replies (as_root (act.CreateTable t Server 1) ∷ asks root (pos 5) (writes r (put [] v None ∷ [])) ∷ asks root (pos 5) (writes r (del [] None ∷ [])) ∷ asks root (pos 5) (writes r (put [] (codes "w") None ∷ [])) ∷ scan [] 0 ++ asks root (pos 6) (writes r (put [] (codes "x") None ∷ [])) ∷ scan [] 1)
    ≡ Batch [] ∷ Batch (cell r [] (pos 6) (codes "x") ∷ []) ∷ []
unfolding everything
same_moment = refl

-- ---- sessions
-- a table with one cell in each of three rows
abbrev three_rows : List Step
three_rows = make ∷ as_root (writes (codes "a") (put [] v (Some (pos 1)) ∷ [])) ∷ as_root (writes (codes "b") (put [] v (Some (pos 1)) ∷ [])) ∷ as_root (writes (codes "c") (put [] v (Some (pos 1)) ∷ [])) ∷ []

-- a session answers from the moment it was opened
as_it_opened : replies (three_rows ++ as_root (opens everywhere []) ∷ Next root 0 1 ∷ as_root (writes (codes "a") (del [] (Some (pos 1)) ∷ [])) ∷ as_root (writes (codes "b") (del [] (Some (pos 1)) ∷ [])) ∷ as_root (writes (codes "c") (del [] (Some (pos 1)) ∷ [])) ∷ Next root 0 5 ∷ scan [] 1)
    ≡ Batch (cell (codes "a") [] (pos 1) v ∷ []) ∷ Batch (cell (codes "b") [] (pos 1) v ∷ cell (codes "c") [] (pos 1) v ∷ []) ∷ Batch [] ∷ []
unfolding everything
as_it_opened = refl

-- a batch of none gives none, and the session goes on
batch_of_none : replies (make ∷ as_root (writes r (put [] v (Some (pos 5)) ∷ [])) ∷ as_root (opens everywhere []) ∷ Next root 0 0 ∷ Next root 0 1 ∷ []) ≡ Batch [] ∷ Batch (cell r [] (pos 5) v ∷ []) ∷ []
unfolding everything
batch_of_none = refl

-- a closed session is gone, its slot isn't given again, and a user's slots are his own
closing : replies (make ∷ as_root (opens everywhere []) ∷ Close root 0 ∷ Next root 0 1 ∷ Close root 0 ∷ as_root (opens everywhere []) ∷ Next root 1 1 ∷ Next bob 1 1 ∷ []) ≡ Refused (NoSession 0) ∷ Refused (NoSession 0) ∷ Batch [] ∷ Refused (NoSession 1) ∷ []
unfolding everything
closing = refl

-- the ends of a range
ranges : replies (three_rows ++ as_root (opens (record { low = Exclusive (codes "a"); high = Inclusive (codes "b") }) []) ∷ Next root 0 9 ∷ as_root (opens (record { low = Exclusive (codes "b"); high = Inclusive (codes "b") }) []) ∷ []) ≡ Batch (cell (codes "b") [] (pos 1) v ∷ []) ∷ Refused BadRange ∷ []
unfolding everything
ranges = refl

-- ---- the answer of a session in ranges
-- the cells of the three rows, of which a cell of one
abbrev of_row : List ℕ → Cell
of_row row = cell row [] (pos 1) v

-- the row a alone
abbrev only_a : Bounds
only_a = record { low = Inclusive (codes "a"); high = Inclusive (codes "a") }

-- the rows behind a
abbrev behind_a : Bounds
behind_a = record { low = Exclusive (codes "a"); high = Unbounded }

-- the rows from x on, where there is none
abbrev from_x : Bounds
from_x = record { low = Inclusive (codes "x"); high = Unbounded }

-- no range: b is above a
abbrev falling : Bounds
falling = record { low = Inclusive (codes "b"); high = Inclusive (codes "a") }

-- each range has its cells, whatever batches were taken before; an empty request has no range, and the session goes on where it was
in_each_range : replies (three_rows ++ as_root (opens everywhere []) ∷ Next root 0 2 ∷ Many root 0 (only_a ∷ behind_a ∷ from_x ∷ []) ∷ Many root 0 [] ∷ Next root 0 9 ∷ [])
    ≡ Batch (of_row (codes "a") ∷ of_row (codes "b") ∷ []) ∷ Ranges ((of_row (codes "a") ∷ []) ∷ (of_row (codes "b") ∷ of_row (codes "c") ∷ []) ∷ [] ∷ []) ∷ Ranges [] ∷ Batch (of_row (codes "c") ∷ []) ∷ []
unfolding everything
in_each_range = refl

-- Ranges come in the order in which they were asked for, and may meet. The session's own rows bound them all, and it answers as it opened.
in_its_own_rows : replies (three_rows ++ as_root (opens behind_a []) ∷ as_root (writes (codes "b") (del [] (Some (pos 1)) ∷ [])) ∷ Many root 0 (from_x ∷ everywhere ∷ everywhere ∷ only_a ∷ []) ∷ [])
    ≡ Ranges ([] ∷ (of_row (codes "b") ∷ of_row (codes "c") ∷ []) ∷ (of_row (codes "b") ∷ of_row (codes "c") ∷ []) ∷ [] ∷ []) ∷ []
unfolding everything
in_its_own_rows = refl

-- of several faults the first check's is told: the session, then the number of ranges, then what is no range
refused_ranges : replies (make ∷ Many root 0 (falling ∷ []) ∷ as_root (opens everywhere []) ∷ Many root 0 (replicate 1001 falling) ∷ Many root 0 (replicate 1001 everywhere) ∷ Many root 0 (everywhere ∷ falling ∷ []) ∷ Many root 0 (replicate 3 everywhere) ∷ Many bob 0 [] ∷ Close root 0 ∷ Many root 0 [] ∷ [])
    ≡ Refused (NoSession 0) ∷ Refused (TooLarge RangesPart) ∷ Refused (TooLarge RangesPart) ∷ Refused BadRange ∷ Ranges ([] ∷ [] ∷ [] ∷ []) ∷ Refused (NoSession 0) ∷ Refused (NoSession 0) ∷ []
unfolding everything
refused_ranges = refl

-- a thousand ranges are answered
thousand_ranges : replies (make ∷ as_root (opens everywhere []) ∷ Many root 0 (replicate 1000 everywhere) ∷ []) ≡ Ranges (replicate 1000 []) ∷ []
unfolding everything
thousand_ranges = refl

-- it is no event: the clock stays
no_moment : replies (as_root (act.CreateTable t Server 1) ∷ as_root (opens everywhere []) ∷ Many root 0 (falling ∷ []) ∷ as_root (writes r (put [] v None ∷ [])) ∷ scan [] 1) ≡ Refused BadRange ∷ Batch (cell r [] (pos 0) v ∷ []) ∷ []
unfolding everything
no_moment = refl

-- ---- refusals
-- a constraint refuses the whole mutation
violating : replies (make ∷ holds (codes "A" ∷ []) ∷ as_root (act.SetConstraints t (Visibility ∷ [])) ∷ as_root (writes r (put (codes "A") (codes "x") (Some (pos 1)) ∷ put (codes "B") (codes "y") (Some (pos 1)) ∷ [])) ∷ scan (codes "A" ∷ []) 0)
    ≡ Refused (ConstraintViolation (record { constraint = Visibility; code = 2; update = 1 } ∷ [])) ∷ Batch [] ∷ []
unfolding everything
violating = refl

-- of several faults the first check's is told: labels, then timestamps, then constraints; of a scan the range before the authorizations
order_of_checks : replies (as_root (act.CreateTable t Server 1) ∷ as_root (act.SetConstraints t (Visibility ∷ [])) ∷ as_root (writes r (put (codes "B") v (Some (pos 5)) ∷ put (codes "a&") v None ∷ [])) ∷ as_root (writes r (put (codes "B") v None ∷ put (codes "B") v (Some (pos 5)) ∷ [])) ∷ as_root (writes r (put (codes "B") v None ∷ [])) ∷ as_root (opens (record { low = Inclusive (codes "b"); high = Inclusive (codes "a") }) (codes "B" ∷ [])) ∷ [])
    ≡ Refused (MalformedVisibility 1 2) ∷ Refused (TimestampNotAllowed 1) ∷ Refused (ConstraintViolation (record { constraint = Visibility; code = 2; update = 0 } ∷ [])) ∷ Refused BadRange ∷ []
unfolding everything
order_of_checks = refl

-- an unknown user before an unknown table, and an empty mutation
refusals : replies (asks bob (pos 0) (opens everywhere []) ∷ as_root (opens everywhere []) ∷ make ∷ make ∷ as_root (writes r []) ∷ as_root (act.SetAuths bob []) ∷ [])
    ≡ Refused (UnknownUser bob) ∷ Refused (NoTable t) ∷ Refused (TableExists t) ∷ Refused EmptyMutation ∷ Refused (NoUser bob) ∷ []
unfolding everything
refusals = refl

-- ---- users and rights
-- an event of bob at 0
-- makes bob
abbrev make_bob : Step
make_bob = as_root (act.CreateUser bob)

-- grants bob the permission to read t
abbrev let_bob_read : Step
let_bob_read = as_root (act.Grant bob (OfTable table.Read t))

-- opens a session of bob on all rows of t, and takes as many cells
abbrev bob_scans : List (List ℕ) → ℕ → List Step
bob_scans auths slot = as_bob (opens everywhere auths) ∷ Next bob slot 1000 ∷ []

-- all system permissions, or none
abbrev all_of_system : Bool → SystemPermissions
all_of_system held = record { grant = held; create_table = held; drop_table = held; alter_table = held; create_user = held; drop_user = held; alter_user = held; system = held }

-- all permissions on a table, or none
abbrev all_of_table : Bool → TablePermissions
all_of_table held = record { read = held; write = held; alter_table = held; grant = held; drop_table = held }

-- what a user is told who may nothing and holds nothing
abbrev no_rights : Told
no_rights = Rights (record { system = all_of_system false; table = all_of_table false; authorizations = [] })

-- rights come and go, and so do users and tables
each_of_them : replies (make ∷ make_bob ∷ let_bob_read ∷ as_root (act.Revoke bob (OfTable table.Read t)) ∷ as_root (act.Grant bob (OfSystem system.CreateUser)) ∷ as_root (act.Revoke bob (OfSystem system.CreateUser)) ∷ as_bob (act.Rights t) ∷ as_root (act.DropUser bob) ∷ as_root (act.DropTable t) ∷ []) ≡ no_rights ∷ []
unfolding everything
each_of_them = refl

-- a user without the permission; the first that would admit him is named, and nothing is written
denied : replies (make ∷ make_bob ∷ as_bob (writes r (put [] v (Some (pos 5)) ∷ [])) ∷ as_bob (act.SetConstraints t []) ∷ scan [] 0) ≡ Refused (PermissionDenied (OfTable table.Write t)) ∷ Refused (PermissionDenied (OfSystem system.AlterTable)) ∷ Batch [] ∷ []
unfolding everything
denied = refl

-- a missing table is told before a missing permission, and of the permissions that would do the first
table_before_permission : replies (make ∷ make_bob ∷ as_bob (act.Rights (codes "nope")) ∷ as_bob (act.Grant bob (OfTable table.Read (codes "nope"))) ∷ as_bob (act.Grant bob (OfTable table.Read t)) ∷ as_bob (act.DropTable t) ∷ [])
    ≡ Refused (NoTable (codes "nope")) ∷ Refused (NoTable (codes "nope")) ∷ Refused (PermissionDenied (OfSystem system.AlterTable)) ∷ Refused (PermissionDenied (OfSystem system.DropTable)) ∷ []
unfolding everything
table_before_permission = refl

-- root stays with all system permissions, its permission to grant is its own, and a missing user is named
root_is_fixed : replies (make ∷ as_root (act.DropUser root) ∷ as_root (act.Revoke root (OfSystem system.System)) ∷ as_root (act.Grant root (OfSystem system.System)) ∷ as_root (act.Grant bob (OfSystem system.Grant)) ∷ as_root (act.Revoke root (OfSystem system.Grant)) ∷ as_root (act.Grant bob (OfSystem system.System)) ∷ as_root (act.Grant bob (OfTable table.Read t)) ∷ as_root (act.DropUser bob) ∷ as_root (act.CreateUser root) ∷ [])
    ≡ Refused RootFixed ∷ Refused RootFixed ∷ Refused RootFixed ∷ Refused GrantInvalid ∷ Refused GrantInvalid ∷ Refused (NoUser bob) ∷ Refused (NoUser bob) ∷ Refused (NoUser bob) ∷ Refused (UserExists root) ∷ []
unfolding everything
root_is_fixed = refl

-- but not with its permissions on a table: those are like anyone's
root_without_read : replies (make ∷ as_root (act.Revoke root (OfTable table.Read t)) ∷ as_root (opens everywhere []) ∷ as_root (act.Rights t) ∷ []) ≡ Refused (PermissionDenied (OfTable table.Read t)) ∷ Rights (record { system = all_of_system true; table = record (all_of_table true) { read = false }; authorizations = [] }) ∷ []
unfolding everything
root_without_read = refl

-- who isn't admitted is told so before all else of his event
permission_first : replies (make_bob ∷ as_bob (act.Grant bob (OfSystem system.Grant)) ∷ as_bob (act.CreateUser bob) ∷ as_bob (act.DropUser root) ∷ as_bob (act.SetAuths bob []) ∷ [])
    ≡ Refused (PermissionDenied (OfSystem system.Grant)) ∷ Refused (PermissionDenied (OfSystem system.CreateUser)) ∷ Refused (PermissionDenied (OfSystem system.DropUser)) ∷ Refused (PermissionDenied (OfSystem system.AlterUser)) ∷ []
unfolding everything
permission_first = refl

-- who may grant for a table may grant to himself; what is granted twice is held once, and revoking what isn't held is no fault
granted_on : replies (make ∷ make_bob ∷ as_root (act.SetAuths bob (codes "A" ∷ codes "B" ∷ [])) ∷ as_root (act.Grant bob (OfTable table.Grant t)) ∷ as_bob (act.Grant bob (OfTable table.Write t)) ∷ as_bob (act.Grant bob (OfTable table.Write t)) ∷ as_bob (act.Revoke bob (OfTable table.Read t)) ∷ as_bob (act.Rights t) ∷ [])
    ≡ Rights (record { system = all_of_system false; table = record (all_of_table false) { write = true; grant = true }; authorizations = codes "A" ∷ codes "B" ∷ [] }) ∷ []
unfolding everything
granted_on = refl

-- a system permission that was granted admits its holder, and is told
may_make_users : replies (make ∷ make_bob ∷ as_root (act.Grant bob (OfSystem system.CreateUser)) ∷ as_bob (act.CreateUser (codes "ann")) ∷ as_bob (act.CreateUser (codes "ann")) ∷ as_bob (act.Rights t) ∷ asks (codes "ann") (pos 0) (act.Rights t) ∷ [])
    ≡ Refused (UserExists (codes "ann")) ∷ Rights (record { system = record (all_of_system false) { create_user = true }; table = all_of_table false; authorizations = [] }) ∷ no_rights ∷ []
unfolding everything
may_make_users = refl

-- ---- lives
-- a table made again has no cell of before, its maker's five permissions and nobody else's
new_life : replies (make ∷ as_root (writes r (put [] v (Some (pos 5)) ∷ [])) ∷ make_bob ∷ let_bob_read ∷ as_root (act.DropTable t) ∷ make ∷ scan [] 0 ++ as_root (act.Rights t) ∷ bob_scans [] 0)
    ≡ Batch [] ∷ Rights (record { system = all_of_system true; table = all_of_table true; authorizations = [] }) ∷ Refused (PermissionDenied (OfTable table.Read t)) ∷ Refused (NoSession 0) ∷ []
unfolding everything
new_life = refl

-- its constraints and its number of versions are the new one's too, and a dropped table is none
new_settings : replies (make_two ∷ as_root (act.SetConstraints t (Visibility ∷ [])) ∷ as_root (act.DropTable t) ∷ as_root (act.DropTable t) ∷ scan [] 0 ++ make ∷ as_root (writes r (put (codes "A") v (Some (pos 5)) ∷ put [] (codes "x") (Some (pos 5)) ∷ put [] (codes "y") (Some (pos 6)) ∷ [])) ∷ scan [] 0)
    ≡ Refused (NoTable t) ∷ Refused (NoTable t) ∷ Refused (NoSession 0) ∷ Batch (cell r [] (pos 6) (codes "y") ∷ []) ∷ []
unfolding everything
new_settings = refl

-- a session answers on once its table is dropped and the permission to read it is gone
beyond_the_table : replies (three_rows ++ make_bob ∷ let_bob_read ∷ as_bob (opens everywhere []) ∷ Next bob 0 1 ∷ as_root (act.Revoke bob (OfTable table.Read t)) ∷ as_bob (opens everywhere []) ∷ as_root (act.DropTable t) ∷ Next bob 0 5 ∷ [])
    ≡ Batch (cell (codes "a") [] (pos 1) v ∷ []) ∷ Refused (PermissionDenied (OfTable table.Read t)) ∷ Batch (cell (codes "b") [] (pos 1) v ∷ cell (codes "c") [] (pos 1) v ∷ []) ∷ []
unfolding everything
beyond_the_table = refl

-- what bob is given, in one life
abbrev give_bob : List Step
give_bob = make_bob ∷ let_bob_read ∷ as_root (act.Grant bob (OfSystem system.CreateUser)) ∷ as_root (act.SetAuths bob (codes "A" ∷ [])) ∷ []

-- a user made again has no right and no authorization of before; while there is none of his name he is unknown
new_user : replies (make ∷ give_bob ++ as_root (act.DropUser bob) ∷ as_bob (act.Rights t) ∷ as_root (act.SetAuths bob []) ∷ make_bob ∷ as_bob (act.Rights t) ∷ let_bob_read ∷ as_bob (opens everywhere (codes "A" ∷ [])) ∷ [])
    ≡ Refused (UnknownUser bob) ∷ Refused (NoUser bob) ∷ no_rights ∷ Refused (BadAuthorizations (codes "A")) ∷ []
unfolding everything
new_user = refl

-- sessions go by the user's name: they outlive him, and are those of who gets his name
beyond_the_user : replies (three_rows ++ make_bob ∷ let_bob_read ∷ as_bob (opens everywhere []) ∷ Next bob 0 1 ∷ as_root (act.DropUser bob) ∷ Next bob 0 1 ∷ make_bob ∷ let_bob_read ∷ Next bob 0 5 ∷ as_bob (opens everywhere []) ∷ Next bob 1 1 ∷ [])
    ≡ Batch (cell (codes "a") [] (pos 1) v ∷ []) ∷ Batch (cell (codes "b") [] (pos 1) v ∷ []) ∷ Batch (cell (codes "c") [] (pos 1) v ∷ []) ∷ Batch (cell (codes "a") [] (pos 1) v ∷ []) ∷ []
unfolding everything
beyond_the_user = refl

-- ---- compactions and counts
-- counts of which a history says nothing
abbrev zeros : Told
zeros = Counted (record { tablets = 0; sources = 0; records = 0 })

-- what bob is told where he has no permission that admits a compaction
abbrev may_not_alter : Told
may_not_alter = Refused (PermissionDenied (OfSystem system.AlterTable))

-- an unknown user before an unknown table, and that before a missing permission
inner_refusals : replies (as_bob (act.Status t) ∷ as_bob (act.Flush t) ∷ as_bob (act.Compact t Full) ∷ make_bob ∷ as_bob (act.Status t) ∷ as_bob (act.Flush t) ∷ as_bob (act.Compact t Full) ∷ make ∷ as_bob (act.Status t) ∷ as_bob (act.Flush t) ∷ as_bob (act.Compact t Full) ∷ [])
    ≡ Refused (UnknownUser bob) ∷ Refused (UnknownUser bob) ∷ Refused (UnknownUser bob) ∷ Refused (NoTable t) ∷ Refused (NoTable t) ∷ Refused (NoTable t) ∷ may_not_alter ∷ may_not_alter ∷ may_not_alter ∷ []
unfolding everything
inner_refusals = refl

-- who may write may compact, but not count; who may alter the table may do both
inner_permissions : replies (make ∷ make_bob ∷ as_root (act.Grant bob (OfTable table.Write t)) ∷ as_bob (act.Flush t) ∷ as_bob (act.Compact t Partial) ∷ as_bob (act.Status t) ∷ as_root (act.Revoke bob (OfTable table.Write t)) ∷ as_root (act.Grant bob (OfTable table.AlterTable t)) ∷ as_bob (act.Flush t) ∷ as_bob (act.Compact t Full) ∷ as_bob (act.Status t) ∷ [])
    ≡ may_not_alter ∷ zeros ∷ []
unfolding everything
inner_permissions = refl

-- once t is made
abbrev made_only : List Entry
made_only = played (world_of new_core) [] (make ∷ [])

-- any counts of it may be told
any_counts : (counts : Counts) → IsAnswer (world_of new_core) made_only [] (as_root (act.Status t)) (Counted counts)
unfolding everything
any_counts counts = (counts, refl)

-- whether the reply tells counts
abbrev TellsCounts : Told → Type 0
TellsCounts (Counted counts) = Unit {0}
TellsCounts _ = ⊥

-- none of a table that isn't there
no_counts : (counts : Counts) → IsAnswer (world_of new_core) [] [] (as_root (act.Status t)) (Counted counts) → ⊥
unfolding everything
no_counts counts e = subst TellsCounts e tt

-- nor where something else was asked
flush_counts_nothing : (counts : Counts) → IsAnswer (world_of new_core) made_only [] (as_root (act.Flush t)) (Counted counts) → ⊥
unfolding everything
flush_counts_nothing counts e = subst TellsCounts e tt

-- a compaction may lack memory, and counting takes none
inner_memory : (may_lack (as_root (act.Flush t)) ≡ true) × (may_lack (as_root (act.Compact t Full)) ≡ true) × (may_lack (as_root (act.Status t)) ≡ false)
inner_memory = (refl, refl, refl)

-- their moments count
inner_moments : replies (as_root (act.CreateTable t Server 1) ∷ asks root (pos 7) (act.Status t) ∷ as_root (writes r (put [] (codes "x") None ∷ [])) ∷ scan [] 0 ++ asks root (pos 9) (act.Flush t) ∷ as_root (writes r (put [] v None ∷ [])) ∷ scan [] 1)
    ≡ zeros ∷ Batch (cell r [] (pos 7) (codes "x") ∷ []) ∷ Batch (cell r [] (pos 9) v ∷ []) ∷ []
unfolding everything
inner_moments = refl

-- a marker hides what is written later below it, also where everything was merged meanwhile
hidden_after_a_compaction : replies (make ∷ as_root (writes r (del [] (Some (pos 5)) ∷ [])) ∷ as_root (act.Compact t Full) ∷ as_root (writes r (put [] v (Some (pos 4)) ∷ [])) ∷ scan [] 0) ≡ Batch [] ∷ []
unfolding everything
hidden_after_a_compaction = refl

-- a session reads on over what was merged and deleted since
beyond_a_compaction : replies (three_rows ++ as_root (opens everywhere []) ∷ Next root 0 1 ∷ as_root (writes (codes "b") (del [] (Some (pos 1)) ∷ [])) ∷ as_root (act.Flush t) ∷ as_root (act.Compact t Full) ∷ Next root 0 5 ∷ [])
    ≡ Batch (cell (codes "a") [] (pos 1) v ∷ []) ∷ Batch (cell (codes "b") [] (pos 1) v ∷ cell (codes "c") [] (pos 1) v ∷ []) ∷ []
unfolding everything
beyond_a_compaction = refl

-- ---- splits
-- no end rows, of which a history says nothing
abbrev no_rows : Told
no_rows = Rows []

-- an unknown user before an unknown table, and that before a missing permission
split_refusals : replies (as_bob (act.AddSplit t r) ∷ as_bob (act.SplitBySize t r 0) ∷ as_bob (act.Splits t) ∷ make_bob ∷ as_bob (act.AddSplit t r) ∷ as_bob (act.SplitBySize t r 0) ∷ as_bob (act.Splits t) ∷ make ∷ as_bob (act.AddSplit t r) ∷ as_bob (act.SplitBySize t r 0) ∷ as_bob (act.Splits t) ∷ [])
    ≡ Refused (UnknownUser bob) ∷ Refused (UnknownUser bob) ∷ Refused (UnknownUser bob) ∷ Refused (NoTable t) ∷ Refused (NoTable t) ∷ Refused (NoTable t) ∷ may_not_alter ∷ may_not_alter ∷ may_not_alter ∷ []
unfolding everything
split_refusals = refl

-- who may alter the table may split it and list its splits; who may write it may not
split_permissions : replies (make ∷ make_bob ∷ as_root (act.Grant bob (OfTable table.Write t)) ∷ as_bob (act.AddSplit t r) ∷ as_root (act.Grant bob (OfTable table.AlterTable t)) ∷ as_bob (act.AddSplit t r) ∷ as_bob (act.SplitBySize t r 0) ∷ as_bob (act.Splits t) ∷ [])
    ≡ may_not_alter ∷ no_rows ∷ []
unfolding everything
split_permissions = refl

-- a row of more than 1,048,576 bytes is too large
long_rows : (row : List ℕ) → length row ≡ 1048577 → (replies (make ∷ as_root (act.AddSplit t row) ∷ []) ≡ Refused (TooLarge Row) ∷ []) × (replies (make ∷ as_root (act.SplitBySize t row 0) ∷ []) ≡ Refused (TooLarge Row) ∷ [])
unfolding everything
long_rows row long = (rw long refl, rw long refl)

-- one of so many isn't
full_rows : (row : List ℕ) → length row ≡ 1048576 → (replies (make ∷ as_root (act.AddSplit t row) ∷ []) ≡ []) × (replies (make ∷ as_root (act.SplitBySize t row 0) ∷ []) ≡ [])
unfolding everything
full_rows row full = (rw full refl, rw full refl)

-- a missing permission comes before that
rows_denied : (row : List ℕ) → replies (make ∷ make_bob ∷ as_bob (act.AddSplit t row) ∷ as_bob (act.SplitBySize t row 0) ∷ []) ≡ may_not_alter ∷ may_not_alter ∷ []
unfolding everything
rows_denied row = refl

-- what may be told of an act, once t is made
abbrev MayBeTold : Act → Told → Type 0
MayBeTold a reply = IsAnswer (world_of new_core) made_only [] (as_root a) reply

-- a split is done, or the row is an end row already, or there are 2^32 - 1 of them
added : MayBeTold (act.AddSplit t r) Done × MayBeTold (act.AddSplit t r) (Refused (BadSplit Present)) × MayBeTold (act.AddSplit t r) (Refused (TooLarge Numbers))
unfolding everything
added = (inl refl, inr (inl refl), inr (inr refl))

-- one by size is done, or the tablet is small or has one row, or there are so many end rows
by_size : MayBeTold (act.SplitBySize t r 9) Done × MayBeTold (act.SplitBySize t r 9) (Refused (BadSplit Small)) × MayBeTold (act.SplitBySize t r 9) (Refused (BadSplit OneRow)) × MayBeTold (act.SplitBySize t r 9) (Refused (TooLarge Numbers))
unfolding everything
by_size = (inl refl, inr (inl refl), inr (inr (inl refl)), inr (inr (inr refl)))

-- any end rows may be told
any_rows : (rows : List (List ℕ)) → MayBeTold (act.Splits t) (Rows rows)
unfolding everything
any_rows rows = (rows, refl)

-- whether the reply says that a tablet is small
abbrev SaysSmall : Told → Type 0
SaysSmall (Refused (BadSplit Small)) = Unit {0}
SaysSmall _ = ⊥

-- a split at a row doesn't ask for that
never_small : MayBeTold (act.AddSplit t r) (Refused (BadSplit Small)) → ⊥
unfolding everything
never_small (inl e) = subst SaysSmall e tt
never_small (inr (inl e)) = subst SaysSmall e tt
never_small (inr (inr e)) = subst SaysSmall e tt

-- each may lack memory
split_memory : (may_lack (as_root (act.AddSplit t r)) ≡ true) × (may_lack (as_root (act.SplitBySize t r 9)) ≡ true) × (may_lack (as_root (act.Splits t)) ≡ true)
split_memory = (refl, refl, refl)

-- their moments count, also where the tablets refuse them
split_moments : clock_of (world_of new_core) (record { step = asks root (pos 7) (act.AddSplit t r); reply = Refused (BadSplit Present) } ∷ []) ≡ pos 7
unfolding everything
split_moments = refl

-- a session reads on over a split, and a scan shows what it showed
beyond_a_split : replies (three_rows ++ as_root (opens everywhere []) ∷ Next root 0 1 ∷ as_root (act.AddSplit t (codes "b")) ∷ Next root 0 5 ∷ scan [] 1)
    ≡ Batch (cell (codes "a") [] (pos 1) v ∷ []) ∷ Batch (cell (codes "b") [] (pos 1) v ∷ cell (codes "c") [] (pos 1) v ∷ []) ∷ Batch (cell (codes "a") [] (pos 1) v ∷ cell (codes "b") [] (pos 1) v ∷ cell (codes "c") [] (pos 1) v ∷ []) ∷ []
unfolding everything
beyond_a_split = refl

-- ---- compactions in three parts
-- begins a compaction of this kind in the tablet of t that holds the row r
abbrev begins : Compaction → Act
begins kind = act.Begin t r kind

-- installs the finished merge in the slot
abbrev installs : ℕ → Act
installs slot = act.Install t (InSlot slot)

-- an Install that came with the merge of the job of this number
abbrev by_hand : ℕ → Act
by_hand job = act.Install t (ByHand job)

-- an unknown user before an unknown table, and that before a missing permission
part_refusals : replies (as_bob (begins part.Full) ∷ as_bob (by_hand 0) ∷ make_bob ∷ as_bob (begins part.Full) ∷ as_bob (by_hand 0) ∷ make ∷ as_bob (begins part.Minor) ∷ as_bob (begins part.Partial) ∷ as_bob (begins part.Full) ∷ as_bob (by_hand 0) ∷ [])
    ≡ Refused (UnknownUser bob) ∷ Refused (UnknownUser bob) ∷ Refused (NoTable t) ∷ Refused (NoTable t) ∷ may_not_alter ∷ may_not_alter ∷ may_not_alter ∷ may_not_alter ∷ []
unfolding everything
part_refusals = refl

-- who may write may begin and install, and so may who may alter the table; a merge asks for nothing
part_permissions : replies (make ∷ make_bob ∷ as_root (act.Grant bob (OfTable table.Write t)) ∷ as_bob (begins part.Minor) ∷ Merge 0 ∷ as_bob (installs 0) ∷ as_root (act.Revoke bob (OfTable table.Write t)) ∷ as_root (act.Grant bob (OfTable table.AlterTable t)) ∷ as_bob (begins part.Full) ∷ Merge 1 ∷ as_bob (installs 1) ∷ [])
    ≡ told_begun ∷ told_begun ∷ []
unfolding everything
part_permissions = refl

-- an Install before its merge is refused and is no event: the clock stays, and behind the merge it is done
before_its_merge : replies (as_root (act.CreateTable t Server 1) ∷ as_root (begins part.Full) ∷ asks root (pos 9) (installs 0) ∷ as_root (writes r (put [] (codes "x") None ∷ [])) ∷ scan [] 0 ++ Merge 0 ∷ asks root (pos 9) (installs 0) ∷ as_root (writes r (put [] v None ∷ [])) ∷ scan [] 1)
    ≡ told_begun ∷ Refused (NoJob 0) ∷ Batch (cell r [] (pos 0) (codes "x") ∷ []) ∷ Batch (cell r [] (pos 9) v ∷ []) ∷ []
unfolding everything
before_its_merge = refl

-- the same, as what it leaves
not_an_event : world_after (world_of new_core) (played (world_of new_core) [] (asks root (pos 9) (installs 0) ∷ [])) ≡ world_of new_core
unfolding everything
not_an_event = refl

-- that comes before an unknown user, an unknown table and a missing permission; an Install that came with its merge has no slot
slot_first : replies (as_bob (installs 0) ∷ make_bob ∷ as_bob (installs 0) ∷ make ∷ as_bob (installs 0) ∷ as_root (by_hand 0) ∷ []) ≡ Refused (NoJob 0) ∷ Refused (NoJob 0) ∷ Refused (NoJob 0) ∷ []
unfolding everything
slot_first = refl

-- an Install that is refused uses its finished merge up
refused_install : replies (make ∷ as_root (begins part.Full) ∷ Merge 0 ∷ as_bob (installs 0) ∷ as_root (installs 0) ∷ []) ≡ told_begun ∷ Refused (UnknownUser bob) ∷ Refused (NoJob 0) ∷ []
unfolding everything
refused_install = refl

-- and one that is done
second_install : replies (make ∷ as_root (begins part.Full) ∷ Merge 0 ∷ as_root (installs 0) ∷ as_root (installs 0) ∷ Merge 0 ∷ []) ≡ told_begun ∷ Refused (NoJob 0) ∷ Refused (NoJob 0) ∷ []
unfolding everything
second_install = refl

-- a merge is made once, and of a job that was begun
merged_once : replies (make ∷ Merge 0 ∷ as_root (begins part.Full) ∷ Merge 0 ∷ Merge 0 ∷ Merge 1 ∷ []) ≡ Refused (NoJob 0) ∷ told_begun ∷ Refused (NoJob 0) ∷ Refused (NoJob 1) ∷ []
unfolding everything
merged_once = refl

-- jobs have one row of numbers for all users, who may install each other's; sessions have their own
shared_jobs : replies (make ∷ make_bob ∷ as_root (act.Grant bob (OfTable table.Write t)) ∷ as_root (begins part.Full) ∷ as_root (opens everywhere []) ∷ as_bob (begins part.Full) ∷ Merge 1 ∷ as_root (installs 1) ∷ as_bob (installs 1) ∷ as_bob (installs 0) ∷ Next root 0 1 ∷ [])
    ≡ told_begun ∷ told_begun ∷ Refused (NoJob 1) ∷ Refused (NoJob 0) ∷ Batch [] ∷ []
unfolding everything
shared_jobs = refl

-- a Begin begins a job, or there is nothing to merge
may_begin : MayBeTold (begins part.Full) told_begun × MayBeTold (begins part.Full) Nothing
unfolding everything
may_begin = (inl refl, inr refl)

-- whether the reply says no more than that it was done
abbrev SaysDone : Told → Type 0
SaysDone Done = Unit {0}
SaysDone _ = ⊥

-- it isn't told that it was done
never_done : MayBeTold (begins part.Full) Done → ⊥
unfolding everything
never_done (inl e) = subst SaysDone e tt
never_done (inr e) = subst SaysDone e tt

-- an Install is done, or stale with any count
may_install : (count : ℕ) → MayBeTold (by_hand 0) Done × MayBeTold (by_hand 0) (Refused (Stale count))
unfolding everything
may_install count = (inl refl, inr (count, refl))

-- each part may lack memory
part_memory : (may_lack (as_root (begins part.Full)) ≡ true) × (may_lack (Merge 0) ≡ true) × (may_lack (as_root (installs 0)) ≡ true)
part_memory = (refl, refl, refl)

-- an entry of this step and reply
abbrev entry : Step → Told → Entry
entry step reply = record { step = step; reply = reply }

-- a merge that lacked memory keeps its job, which can be merged later
merged_later : Legal (world_of new_core) (entry (as_root (installs 0)) Done ∷ entry (Merge 0) Done ∷ entry (Merge 0) (Refused NoMemory) ∷ entry (as_root (begins part.Full)) told_begun ∷ entry make Done ∷ [])
unfolding everything
merged_later = (((((tt, inl refl), inl (inl refl)), inr (refl, refl)), inl refl), inl (inl refl))

-- an Install that lacked memory uses its finished merge up, and leaves the clock
installed_no_more : Legal (world_of new_core) (entry (as_root (installs 0)) (Refused (NoJob 0)) ∷ entry (asks root (pos 9) (installs 0)) (Refused NoMemory) ∷ entry (Merge 0) Done ∷ entry (as_root (begins part.Full)) told_begun ∷ entry make Done ∷ [])
unfolding everything
installed_no_more = (((((tt, inl refl), inl (inl refl)), inl refl), inr (refl, refl)), inl refl)

-- one that lacked memory before its merge uses nothing up
waits_on : Legal (world_of new_core) (entry (as_root (installs 0)) Done ∷ entry (Merge 0) Done ∷ entry (as_root (installs 0)) (Refused NoMemory) ∷ entry (as_root (begins part.Full)) told_begun ∷ entry make Done ∷ [])
unfolding everything
waits_on = (((((tt, inl refl), inl (inl refl)), inr (refl, refl)), inl refl), inl (inl refl))

-- Two jobs of one tablet, the second of which merges what the first does: once the first is installed the second is stale, of which the
-- tablet's one sorted table is told; and a merge is used up.
abbrev one_of_two : List Entry
one_of_two =
    entry (as_root (installs 0)) (Refused (NoJob 0))
    ∷ entry (as_root (installs 1)) (Refused (Stale 1))
    ∷ entry (as_root (installs 0)) Done
    ∷ entry (Merge 1) Done
    ∷ entry (Merge 0) Done
    ∷ entry (as_root (begins part.Full)) told_begun
    ∷ entry (as_root (begins part.Minor)) told_begun
    ∷ entry (as_root (writes r (put [] v (Some (pos 5)) ∷ []))) Done
    ∷ entry make Done
    ∷ []

-- that is a legal history
one_of_two_legal : Legal (world_of new_core) one_of_two
unfolding everything
one_of_two_legal = (((((((((tt, inl refl), inl refl), inl (inl refl)), inl (inl refl)), inl refl), inl refl), inl (inl refl)), inl (inr (1, refl))), inl refl)

-- a session reads on over what was installed, and a scan shows what it showed
beyond_an_install : replies (three_rows ++ as_root (opens everywhere []) ∷ Next root 0 1 ∷ as_root (begins part.Full) ∷ as_root (writes (codes "b") (del [] (Some (pos 1)) ∷ [])) ∷ Merge 0 ∷ as_root (installs 0) ∷ Next root 0 5 ∷ scan [] 1)
    ≡ Batch (cell (codes "a") [] (pos 1) v ∷ []) ∷ told_begun ∷ Batch (cell (codes "b") [] (pos 1) v ∷ cell (codes "c") [] (pos 1) v ∷ []) ∷ Batch (cell (codes "a") [] (pos 1) v ∷ cell (codes "c") [] (pos 1) v ∷ []) ∷ []
unfolding everything
beyond_an_install = refl

-- ---- images
-- what bob is told where he may neither save nor load
abbrev may_not_save : Told
may_not_save = Refused (PermissionDenied (OfSystem system.System))

-- an unknown user before a missing permission, and none on a table admits him; who has the permission is told that he may
image_permissions : replies (make ∷ as_bob act.Save ∷ as_bob act.Load ∷ make_bob ∷ as_root (act.Grant bob (OfTable table.AlterTable t)) ∷ as_bob act.Save ∷ as_bob act.Load ∷ as_root (act.Grant bob (OfSystem system.System)) ∷ as_bob act.Save ∷ as_bob act.Load ∷ [])
    ≡ Refused (UnknownUser bob) ∷ Refused (UnknownUser bob) ∷ may_not_save ∷ may_not_save ∷ []
unfolding everything
image_permissions = refl

-- root's save is done, and his load, and they leave all but the clock as it was
abbrev images : List Entry
images = played (world_of new_core) [] (asks root (pos 7) act.Save ∷ asks root (pos 9) act.Load ∷ [])

both_done : images ≡ record { step = asks root (pos 9) act.Load; reply = Done } ∷ record { step = asks root (pos 7) act.Save; reply = Done } ∷ []
unfolding everything
both_done = refl

clock_alone : world_after (world_of new_core) images ≡ record { base = new_core; changes = []; clock = pos 9 }
unfolding everything
clock_alone = refl

-- nothing else may be told of them
save_is_done : (reply : Told) → MayBeTold act.Save reply → reply ≡ Done
unfolding everything
save_is_done reply e = e

load_is_done : (reply : Told) → MayBeTold act.Load reply → reply ≡ Done
unfolding everything
load_is_done reply e = e

-- they take no memory
image_memory : (may_lack (as_root act.Save) ≡ false) × (may_lack (as_root act.Load) ≡ false)
image_memory = (refl, refl)

-- their moments count, a refused one's too
image_moments : replies (as_root (act.CreateTable t Server 1) ∷ asks root (pos 7) act.Save ∷ as_root (writes r (put [] (codes "x") None ∷ [])) ∷ scan [] 0 ++ asks bob (pos 9) act.Load ∷ as_root (writes r (put [] v None ∷ [])) ∷ scan [] 1)
    ≡ Batch (cell r [] (pos 7) (codes "x") ∷ []) ∷ Refused (UnknownUser bob) ∷ Batch (cell r [] (pos 9) v ∷ []) ∷ []
unfolding everything
image_moments = refl

-- neither hands out a session nor ends one
beyond_a_load : replies (three_rows ++ as_root (opens everywhere []) ∷ as_root act.Save ∷ Next root 0 1 ∷ as_root act.Load ∷ Next root 0 5 ∷ Next root 1 1 ∷ [])
    ≡ Batch (cell (codes "a") [] (pos 1) v ∷ []) ∷ Batch (cell (codes "b") [] (pos 1) v ∷ cell (codes "c") [] (pos 1) v ∷ []) ∷ Refused (NoSession 1) ∷ []
unfolding everything
beyond_a_load = refl

-- ---- what a reader can't see
-- bob reads under A, and what stands between is written by root
abbrev reader : List Step → List Step
reader between = make ∷ make_bob ∷ as_root (act.SetAuths bob (codes "A" ∷ [])) ∷ let_bob_read ∷ as_root (writes r (put (codes "A") (codes "x") (Some (pos 5)) ∷ [])) ∷ between ++ as_bob (opens everywhere (codes "A" ∷ [])) ∷ Next bob 0 1 ∷ Next bob 0 1 ∷ []

-- what he is told
abbrev read_alone : List Told
read_alone = Batch (cell r (codes "A") (pos 5) (codes "x") ∷ []) ∷ Batch [] ∷ []

-- of his own label alone
reads_his_own : replies (reader []) ≡ read_alone
unfolding everything
reads_his_own = refl

-- and the same where something is written and deleted under a label that he never holds
reads_no_other : replies (reader (as_root (writes r (put (codes "B") (codes "y") (Some (pos 6)) ∷ [])) ∷ as_root (writes r (del (codes "B") (Some (pos 6)) ∷ [])) ∷ [])) ≡ read_alone
unfolding everything
reads_no_other = refl

-- ---- bases
-- a core whose table t has one record and a horizon at 10, and where root, whose life is 0, may read and write it
abbrev with_table : Base
with_table = record new_core {
  next = 1;
  policy = record new_policy { tables = (t, (0, record (all_of_table false) { read = true; write = true }) ∷ []) ∷ [] };
  tables = record { name = t; settings = record (made_with Any 2) { horizon = pos 10 }; records = record { key = record { row = r; family = f; qualifier = q; label = []; timestamp = pos 3 }; kind = Put; value = codes "old"; seq = 0; idx = 0 } ∷ [] } ∷ [];
}

-- a history goes on from what a base holds; what is below the horizon is refused, and what is at it isn't
from_base : replies_from with_table (scan [] 0 ++ as_root (writes r (put [] v (Some (pos 10)) ∷ put [] v (Some (pos 9)) ∷ [])) ∷ as_root (writes r (put [] v (Some (pos 10)) ∷ [])) ∷ scan [] 1)
    ≡ Batch (cell r [] (pos 3) (codes "old") ∷ []) ∷ Refused (BelowHorizon 1) ∷ Batch (cell r [] (pos 10) v ∷ cell r [] (pos 3) (codes "old") ∷ []) ∷ []
unfolding everything
from_base = refl

-- ---- numbers that are used up
-- a core whose table t root may read and write, and whose next write would get this number
abbrev numbered_from : ℕ → Base
numbered_from n = record with_table { next = n }

-- the last number is given
last_number : replies_from (numbered_from 18446744073709551614) (as_root (writes r (put [] v (Some (pos 10)) ∷ [])) ∷ as_root (writes r (put [] v (Some (pos 11)) ∷ [])) ∷ scan [] 0)
    ≡ Refused (TooLarge Numbers) ∷ Batch (cell r [] (pos 10) v ∷ cell r [] (pos 3) (codes "old") ∷ []) ∷ []
unfolding everything
last_number = refl

-- then a write is refused, a malformed one for its label first, and a table is dropped and made as before
no_number : replies_from (numbered_from 18446744073709551615) (as_root (writes r (put (codes "a&") v (Some (pos 10)) ∷ [])) ∷ as_root (writes r (put [] v (Some (pos 10)) ∷ [])) ∷ as_root (act.DropTable t) ∷ make ∷ scan [] 0)
    ≡ Refused (MalformedVisibility 0 2) ∷ Refused (TooLarge Numbers) ∷ Batch [] ∷ []
unfolding everything
no_number = refl

-- where there are 2^32 - 1 tables none is made, and once one was dropped one is
no_table : (b : Base) → length b.tables ≡ 4294967295 → (are_used_up b [] (act.CreateTable t Any 1) ≡ true) × (are_used_up b (TableDropped t ∷ []) (act.CreateTable t Any 1) ≡ false)
unfolding everything
no_table b full = (λ i. nat_le 4294967295 (full i), λ i. nat_le 4294967295 (full i - 1))

-- and so it is with users
no_user : (b : Base) → policy_users b.policy ≡ 4294967295 → (are_used_up b [] (act.CreateUser bob) ≡ true) × (are_used_up b (UserDropped bob ∷ []) (act.CreateUser bob) ≡ false)
unfolding everything
no_user b full = (λ i. nat_le 4294967295 (full i), λ i. nat_le 4294967295 (full i - 1))

-- a new core has one user and no table; making and dropping them counts
counted : (user_count new_core [] ≡ 1) × (table_count new_core [] ≡ 0) × (user_count new_core (journal (world_of new_core) (played (world_of new_core) [] (make ∷ make_bob ∷ as_root (act.CreateUser bob) ∷ as_root (act.DropTable t) ∷ make ∷ []))) ≡ 2) × (table_count new_core (journal (world_of new_core) (played (world_of new_core) [] (make ∷ make_bob ∷ as_root (act.DropTable t) ∷ make ∷ []))) ≡ 1)
unfolding everything
counted = (refl, refl, refl, refl)

-- ---- settings that change
-- what is below the horizon is refused, a lower horizon and more versions too; the present ones again are not
one_way : replies (make ∷ as_root (act.SetHorizon t (pos 10)) ∷ as_root (act.SetHorizon t (pos 10)) ∷ as_root (act.SetVersions t 1) ∷ as_root (writes r (put [] v (Some (pos 9)) ∷ [])) ∷ as_root (act.SetHorizon t (pos 9)) ∷ as_root (act.SetVersions t 2) ∷ [])
    ≡ Refused (BelowHorizon 0) ∷ Refused (HorizonLowered (pos 10)) ∷ Refused (VersionsRaised 1) ∷ []
unfolding everything
one_way = refl

-- a session that was opened before shows as many versions as then, one behind it fewer
lowered : replies (as_root (act.CreateTable t Any 3) ∷ as_root (writes r (put [] (codes "x") (Some (pos 1)) ∷ put [] (codes "y") (Some (pos 2)) ∷ put [] (codes "z") (Some (pos 3)) ∷ [])) ∷ as_root (opens everywhere []) ∷ as_root (act.SetVersions t 2) ∷ scan [] 1 ++ Next root 0 9 ∷ [])
    ≡ Batch (cell r [] (pos 3) (codes "z") ∷ cell r [] (pos 2) (codes "y") ∷ []) ∷ Batch (cell r [] (pos 3) (codes "z") ∷ cell r [] (pos 2) (codes "y") ∷ cell r [] (pos 1) (codes "x") ∷ []) ∷ []
unfolding everything
lowered = refl

-- the clock below the horizon: an update without a timestamp is refused, one at it is taken
clock_below : replies (make ∷ as_root (act.SetHorizon t (pos 10)) ∷ as_root (writes r (put [] v None ∷ [])) ∷ asks root (pos 10) (writes r (put [] v None ∷ [])) ∷ scan [] 0)
    ≡ Refused (BelowHorizon 0) ∷ Batch (cell r [] (pos 10) v ∷ []) ∷ []
unfolding everything
clock_below = refl

-- a table that gives the timestamps has no horizon, also no least one; a new life begins with neither
server_horizon : replies (as_root (act.CreateTable t Server 1) ∷ as_root (act.SetHorizon t (negsuc 9223372036854775807)) ∷ as_root (act.DropTable t) ∷ make ∷ as_root (act.SetHorizon t (pos 5)) ∷ as_root (act.DropTable t) ∷ make ∷ as_root (writes r (put [] v (Some (pos 1)) ∷ [])) ∷ scan [] 0)
    ≡ Refused ServerTime ∷ Batch (cell r [] (pos 1) v ∷ []) ∷ []
unfolding everything
server_horizon = refl
