-- Examples, computed: what bob sees of a history, and what he is told, where root writes beside him what he can't see.
use Rattle.std.specs.Prelude.{◌≡◌, ℕ, ℤ, pos, List, [], ◌∷◌, ◌++◌, true, false, Option, Some, None, codes, refl}
use Rattle.tab_key.specs.Records.{Cell}
use Rattle.tab_key.specs.Order.{column_cmp, key_cmp, place_cmp, newer_cmp}
use Rattle.tab_key.specs.Kept.{same_column, hides, is_deleted, outranks, is_kept}
use Rattle.tab_key.specs.declared.key.Kind.{Kind}
use Rattle.tab_key.specs.declared.key.Kind.TheVariants.{Put, Delete}
use Rattle.tab_key.specs.declared.range.Bound.TheVariants.{Unbounded, Exclusive}
use Rattle.tab_key.specs.declared.range.Bounds.{Bounds}
use Rattle.tab_label.specs.Grammar.{is_term_byte}
use Rattle.tab_label.specs.Machine.{step, ending}
use Rattle.tab_label.specs.Reading.{reads_on, label_of}
use Rattle.tab_mutation.specs.Mutations.{Update}
use Rattle.tab_mutation.specs.Shape.{shape_error}
use Rattle.tab_rules.specs.Verdict.{violations}
use Rattle.tab_rules.specs.declared.constraint.Constraint.TheVariants.{Numeric}
use Rattle.tab_policy.specs.Roots.{root}
use Rattle.tab_policy.specs.State.{user_exists, user_count as policy_users, auths_of, system_granted, table_granted}
use Rattle.tab_policy.specs.declared.permission.Permission.TheVariants.{OfTable}
use Rattle.tab_policy.specs.declared.permission.TablePermission.TheVariants as table
use Rattle.tab_history.specs.Bases.{new_core}
use Rattle.tab_history.specs.Changes.{UserMade, AuthsSet, TableGiven, TableMade, ConstraintsSet, VersionsSet, HorizonSet, Written}
use Rattle.tab_cells.specs.Written.{TimedUpdate, records_of}
use Rattle.tab_history.specs.Readings.{has_user, user_count, held_auths, has_system_right, has_table_right, table_count, settings_of, next_number, updates_of}
use Rattle.tab_cells.specs.Cells.{matches, cells}
use Rattle.tab_history.specs.Checks.{standing, malformed, stamped, outdated, refusal_of}
use Rattle.tab_history.specs.Sessions.{opened, closed, session_in}
use Rattle.tab_history.specs.Jobs.{begun, job_in}
use Rattle.tab_history.specs.Answers.{Told, told_opened, answer, session_list}
use Rattle.tab_history.specs.Histories.{Entry, world_of, clock_of, journal, moves_of, jobs_of}
use Rattle.tab_history.specs.Runs.{played}
use Rattle.tab_history.specs.declared.event.TimeMode.TheVariants.{Any}
use Rattle.tab_history.specs.declared.event.Extent.TheVariants.{Partial, Full}
use Rattle.tab_cells.specs.declared.compaction.Compaction.TheVariants as part
use Rattle.tab_history.specs.declared.event.Given.TheVariants.{InSlot, ByHand}
use Rattle.tab_history.specs.declared.event.Act.{Act}
use Rattle.tab_history.specs.declared.event.Act.TheVariants as act
use Rattle.tab_history.specs.declared.event.Step.{Step}
use Rattle.tab_history.specs.declared.event.Step.TheVariants.{Next, Many, Merge}
use Rattle.tab_history.specs.declared.reply.Refusal.TheVariants.{PermissionDenied}
use Rattle.tab_history.specs.declared.reply.Reply.TheVariants.{Refused, Batch, Ranges, Rights}
use Rattle.tab_history.specs.ExampleWords.{t, r, f, q, bob, eve, asks, as_root, as_bob}
use Rattle.tab_noninterference.specs.Given.{auths_given}
use Rattle.tab_noninterference.specs.Views.{Asked, Changed, sights, View, view}
use Rattle.tab_noninterference.specs.Hearing.{Heard, heard}

-- names what the examples look into
everything : ℕ
unfolding is_term_byte step ending reads_on label_of column_cmp key_cmp place_cmp newer_cmp same_column hides is_deleted outranks is_kept matches cells user_exists policy_users auths_of system_granted table_granted has_user user_count held_auths has_system_right has_table_right table_count settings_of next_number records_of updates_of shape_error malformed stamped outdated violations standing refusal_of opened closed session_in begun job_in answer session_list clock_of journal moves_of jobs_of auths_given sights heard
everything = 0

-- ---- steps, updates and cells of the examples
-- an update with this kind, label, value and timestamp
abbrev update : Kind → List ℕ → List ℕ → Option ℤ → Update
update kind label value ts = record { kind = kind; family = f; qualifier = q; label = label; timestamp = ts; value = value }

-- the same, its timestamp settled
abbrev settled : Kind → List ℕ → List ℕ → ℤ → TimedUpdate
settled kind label value ts = record { kind = kind; family = f; qualifier = q; label = label; timestamp = ts; value = value }

-- writes these updates of r to t
abbrev writes : List Update → Act
writes updates = act.Write t (record { row = r; updates = updates })

-- opens a session on all of t under the authorization A
abbrev opens : Act
opens = act.Open (record { table = t; bounds = record { low = Unbounded; high = Unbounded }; columns = []; authorizations = codes "A" ∷ [] })

-- a cell of r with this label, timestamp and value
abbrev cell : List ℕ → ℤ → List ℕ → Cell
cell label ts value = record { key = record { row = r; family = f; qualifier = q; label = label; timestamp = ts }; value = value }

-- makes t, and bob who may read it and holds A
abbrev make : List Step
make = as_root (act.CreateTable t Any 1) ∷ as_root (act.CreateUser bob) ∷ as_root (act.SetAuths bob (codes "A" ∷ [])) ∷ as_root (act.Grant bob (OfTable table.Read t)) ∷ []

-- the history of these steps from a new core
abbrev history : List Step → List Entry
history steps = played (world_of new_core) [] steps

-- what bob sees of it
abbrev sees : List Step → View
sees steps = view new_core bob (history steps)

-- the covered replies to him, the newest first
abbrev hears : List Step → List Heard
hears steps = heard bob (world_of new_core) (history steps)

-- a covered reply to a step that opens no session
abbrev said : Told → Heard
said reply = record { reply = reply; list = [] }

-- a session was opened on this list
abbrev opened_on : List Cell → Heard
opened_on list = record { reply = told_opened; list = list }

-- ---- two worlds
-- all rows, and those behind r
abbrev two_ranges : List Bounds
two_ranges = record { low = Unbounded; high = Unbounded } ∷ record { low = Exclusive r; high = Unbounded } ∷ []

-- A history in which others take some steps before bob's first scan, and some between its two batches; then he asks it for two ranges, and
-- scans again.
abbrev beside : List Step → List Step → List Step
beside before between =
    make ++ as_root (writes (update Put (codes "A") (codes "x") (Some (pos 5)) ∷ [])) ∷ before ++ as_bob opens ∷ Next bob 0 1 ∷ between ++ Next bob 0 1 ∷ Many bob 0 two_ranges ∷ as_bob opens ∷ Next bob 1 9 ∷ as_bob (act.Rights t) ∷ as_bob (writes []) ∷ []

-- what he is told in it, the newest reply first: he has no permission to write
abbrev told_beside : List Heard
told_beside =
    said (Refused (PermissionDenied (OfTable table.Write t)))
    ∷ said (Rights (record {
      system = record { grant = false; create_table = false; drop_table = false; alter_table = false; create_user = false; drop_user = false; alter_user = false; system = false };
      table = record { read = true; write = false; alter_table = false; grant = false; drop_table = false };
      authorizations = codes "A" ∷ [];
    }))
    ∷ said (Batch (cell (codes "A") (pos 5) (codes "x") ∷ []))
    ∷ opened_on (cell (codes "A") (pos 5) (codes "x") ∷ [])
    ∷ said (Ranges ((cell (codes "A") (pos 5) (codes "x") ∷ []) ∷ [] ∷ []))
    ∷ said (Batch [])
    ∷ said (Batch (cell (codes "A") (pos 5) (codes "x") ∷ []))
    ∷ opened_on (cell (codes "A") (pos 5) (codes "x") ∷ [])
    ∷ []

-- a write and a rewrite under a label that bob never holds
abbrev unseen_writes : List Step
unseen_writes = as_root (writes (update Put (codes "B") (codes "y") (Some (pos 6)) ∷ [])) ∷ as_root (writes (update Put (codes "B") (codes "z") (Some (pos 7)) ∷ [])) ∷ []

-- and a delete
abbrev unseen_delete : List Step
unseen_delete = as_root (writes (update Delete (codes "B") [] (Some (pos 7)) ∷ [])) ∷ []

-- what concerns others: another user, her rights, authorizations of root, a refused event
abbrev unseen_events : List Step
unseen_events = as_root (act.CreateUser eve) ∷ as_root (act.Grant eve (OfTable table.Read t)) ∷ as_root (act.SetAuths root (codes "B" ∷ [])) ∷ asks eve (pos 0) (act.CreateTable (codes "u") Any 1) ∷ as_root (act.Revoke eve (OfTable table.Read t)) ∷ as_root (act.DropUser eve) ∷ []

-- what bob sees in both: his own steps among the changes that concern him
abbrev seen_beside : View
seen_beside = record {
  held = codes "A" ∷ [];
  sights = Asked (as_bob (writes [])) (Some (pos 0)) ∷ Asked (as_bob (act.Rights t)) (Some (pos 0)) ∷ Asked (Next bob 1 9) None ∷ Asked (as_bob opens) (Some (pos 0)) ∷ Asked (Many bob 0 two_ranges) None ∷ Asked (Next bob 0 1) None ∷ Asked (Next bob 0 1) None ∷ Asked (as_bob opens) (Some (pos 0))
      ∷ Changed (Written t r (settled Put (codes "A") (codes "x") (pos 5) ∷ []))
      ∷ Changed (TableGiven bob table.Read t) ∷ Changed (AuthsSet bob (codes "A" ∷ [])) ∷ Changed (UserMade bob) ∷ Changed (TableMade t Any 1) ∷ [];
}

-- the two histories look alike to him
seen_alone : sees (beside [] []) ≡ seen_beside
unfolding everything
seen_alone = refl

seen_beside_others : sees (beside (unseen_writes ++ unseen_events) unseen_delete) ≡ seen_beside
unfolding everything
seen_beside_others = refl

-- and he is told the same, as the law says
told_alone : hears (beside [] []) ≡ told_beside
unfolding everything
told_alone = refl

told_beside_others : hears (beside (unseen_writes ++ unseen_events) unseen_delete) ≡ told_beside
unfolding everything
told_beside_others = refl

-- ---- compactions and splits
-- what root does to t between: a write that bob may not read, a flush, a compaction of everything, counts, two splits and the end rows
abbrev unseen_compactions : List Step
unseen_compactions = as_root (writes (update Put (codes "B") (codes "y") (Some (pos 6)) ∷ [])) ∷ as_root (act.Flush t) ∷ as_root (act.Compact t Full) ∷ as_root (act.Status t) ∷ as_root (act.AddSplit t r) ∷ as_root (act.SplitBySize t q 0) ∷ as_root (act.Splits t) ∷ []

-- he sees nothing of it
seen_beside_compactions : sees (beside unseen_compactions unseen_compactions) ≡ seen_beside
unfolding everything
seen_beside_compactions = refl

-- and is told the same
told_beside_compactions : hears (beside unseen_compactions unseen_compactions) ≡ told_beside
unfolding everything
told_beside_compactions = refl

-- so it is where he asks for counts, compactions and splits himself, admitted or not
abbrev his_own : List Step
his_own = as_bob (act.Status t) ∷ as_bob (act.AddSplit t r) ∷ as_root (act.Grant bob (OfTable table.AlterTable t)) ∷ as_bob (act.Status t) ∷ as_bob (act.Flush t) ∷ as_bob (act.Compact t Partial) ∷ as_bob (act.AddSplit t r) ∷ as_bob (act.SplitBySize t q 0) ∷ as_bob (act.Splits t) ∷ []

-- what he sees is the grant alone
seen_his_own : (sees (make ++ his_own)).sights ≡ Changed (TableGiven bob table.AlterTable t) ∷ (sees make).sights
unfolding everything
seen_his_own = refl

-- the same without them
abbrev granted_alone : List Step
granted_alone = as_root (act.Grant bob (OfTable table.AlterTable t)) ∷ []

-- the two histories look alike to him
alike_with_his_own : sees (beside his_own []) ≡ sees (beside granted_alone [])
unfolding everything
alike_with_his_own = refl

-- and tell him the same
same_with_his_own : hears (beside his_own []) ≡ hears (beside granted_alone [])
unfolding everything
same_with_his_own = refl

-- of their moments he sees what they did to the clock that his next event meets
clock_of_his_own : (sees (make ++ asks bob (pos 8) (act.Status t) ∷ as_bob (writes []) ∷ [])).sights ≡ Asked (as_bob (writes [])) (Some (pos 8)) ∷ (sees make).sights
unfolding everything
clock_of_his_own = refl

-- ---- compactions in three parts
-- root begins, merges and installs one between, and so does eve, who may not
abbrev unseen_parts : List Step
unseen_parts = as_root (act.Begin t r part.Full) ∷ asks eve (pos 0) (act.Begin t r part.Minor) ∷ as_root (writes (update Put (codes "B") (codes "y") (Some (pos 6)) ∷ [])) ∷ Merge 0 ∷ as_root (act.Install t (InSlot 0)) ∷ asks eve (pos 0) (act.Install t (ByHand 1)) ∷ []

-- he sees nothing of it
seen_beside_parts : sees (beside unseen_parts unseen_parts) ≡ seen_beside
unfolding everything
seen_beside_parts = refl

-- and is told the same
told_beside_parts : hears (beside unseen_parts unseen_parts) ≡ told_beside
unfolding everything
told_beside_parts = refl

-- so it is where a begin of his own, which was admitted, is all that is different
begun_by_him : sees (beside (granted_alone ++ as_bob (act.Begin t r part.Full) ∷ []) []) ≡ sees (beside granted_alone [])
unfolding everything
begun_by_him = refl

told_begun_by_him : hears (beside (granted_alone ++ as_bob (act.Begin t r part.Full) ∷ []) []) ≡ hears (beside granted_alone [])
unfolding everything
told_begun_by_him = refl

-- and where he takes all parts himself, admitted or not
abbrev his_own_parts : List Step
his_own_parts = as_bob (act.Begin t r part.Full) ∷ as_root (act.Grant bob (OfTable table.AlterTable t)) ∷ as_bob (act.Begin t r part.Minor) ∷ as_bob (act.Install t (InSlot 0)) ∷ Merge 0 ∷ as_bob (act.Install t (InSlot 0)) ∷ as_bob (act.Install t (ByHand 1)) ∷ []

alike_with_his_own_parts : sees (beside his_own_parts []) ≡ sees (beside granted_alone [])
unfolding everything
alike_with_his_own_parts = refl

same_with_his_own_parts : hears (beside his_own_parts []) ≡ hears (beside granted_alone [])
unfolding everything
same_with_his_own_parts = refl

-- Of their moments he sees what they did to the clock that his next event meets; an Install of a slot that is empty did nothing.
clock_of_his_own_parts : (sees (make ++ asks bob (pos 8) (act.Begin t r part.Full) ∷ asks bob (pos 9) (act.Install t (InSlot 0)) ∷ as_bob (writes []) ∷ [])).sights ≡ Asked (as_bob (writes [])) (Some (pos 8)) ∷ (sees make).sights
unfolding everything
clock_of_his_own_parts = refl

-- ---- images
-- root saves and loads, and so does eve, who may not
abbrev unseen_images : List Step
unseen_images = as_root act.Save ∷ asks eve (pos 0) act.Save ∷ as_root act.Load ∷ asks eve (pos 0) act.Load ∷ []

-- he sees nothing of it
seen_beside_images : sees (beside unseen_images unseen_images) ≡ seen_beside
unfolding everything
seen_beside_images = refl

-- and is told the same
told_beside_images : hears (beside unseen_images unseen_images) ≡ told_beside
unfolding everything
told_beside_images = refl

-- so it is where he asks for them himself
his_own_images : sees (beside (as_bob act.Save ∷ as_bob act.Load ∷ []) (as_bob act.Load ∷ [])) ≡ seen_beside
unfolding everything
his_own_images = refl

told_his_own_images : hears (beside (as_bob act.Save ∷ as_bob act.Load ∷ []) (as_bob act.Load ∷ [])) ≡ told_beside
unfolding everything
told_his_own_images = refl

-- of their moments he sees what they did to the clock that his next event meets
clock_of_images : (sees (make ++ asks bob (pos 8) act.Save ∷ asks root (pos 9) act.Load ∷ as_bob (writes []) ∷ [])).sights ≡ Asked (as_bob (writes [])) (Some (pos 9)) ∷ (sees make).sights
unfolding everything
clock_of_images = refl

-- ---- what is seen
-- tables, their settings, himself and his rights, without who changed them and when; what others ask and what they may isn't
concerns : sees (make ++ as_root (act.CreateUser eve) ∷ as_root (act.Grant eve (OfTable table.Read t)) ∷ asks eve (pos 3) opens ∷ asks root (pos 7) (act.SetConstraints t (Numeric ∷ [])) ∷ [])
    ≡ record { held = codes "A" ∷ []; sights = Changed (ConstraintsSet t (Numeric ∷ [])) ∷ Changed (TableGiven bob table.Read t) ∷ Changed (AuthsSet bob (codes "A" ∷ [])) ∷ Changed (UserMade bob) ∷ Changed (TableMade t Any 1) ∷ [] }
unfolding everything
concerns = refl

-- of a mutation with three updates he sees those whose labels hold for him, the last first, the clock as the timestamp of one without; a mutation without such is no sight
updates_seen : (sees (make ++ asks root (pos 4) (writes (update Put (codes "A") (codes "x") None ∷ update Put (codes "B") (codes "y") None ∷ update Delete [] [] (Some (pos 2)) ∷ [])) ∷ as_root (writes (update Put (codes "A&B") (codes "z") None ∷ [])) ∷ [])).sights
    ≡ Changed (Written t r (settled Delete [] [] (pos 2) ∷ settled Put (codes "A") (codes "x") (pos 4) ∷ [])) ∷ (sees make).sights
unfolding everything
updates_seen = refl

-- what he is given later, or no longer holds, counts for the whole history
ever_held : sees (make ++ as_root (writes (update Put (codes "B") (codes "y") (Some (pos 6)) ∷ [])) ∷ as_root (act.SetAuths bob (codes "B" ∷ [])) ∷ as_root (act.SetAuths bob []) ∷ [])
    ≡ record { held = codes "A" ∷ codes "B" ∷ []; sights = Changed (AuthsSet bob []) ∷ Changed (AuthsSet bob (codes "B" ∷ [])) ∷ Changed (Written t r (settled Put (codes "B") (codes "y") (pos 6) ∷ [])) ∷ (sees make).sights }
unfolding everything
ever_held = refl

-- his own steps, refused ones too, each event with the clock after it
own_steps : (sees (make ++ asks root (pos 9) (act.CreateUser eve) ∷ asks bob (pos 3) (writes []) ∷ Next bob 0 5 ∷ asks bob (pos 12) opens ∷ [])).sights
    ≡ Asked (asks bob (pos 12) opens) (Some (pos 12)) ∷ Asked (Next bob 0 5) None ∷ Asked (asks bob (pos 3) (writes [])) (Some (pos 9)) ∷ (sees make).sights
unfolding everything
own_steps = refl

-- ---- settings that change
-- others' settings are seen, by whomever and whenever; refused ones aren't
settings_seen : sees (make ++ as_root (act.CreateUser eve) ∷ asks root (pos 7) (act.SetVersions t 1) ∷ asks root (pos 8) (act.SetHorizon t (pos 5)) ∷ asks root (pos 9) (act.SetHorizon t (pos 4)) ∷ [])
    ≡ record { held = codes "A" ∷ []; sights = Changed (HorizonSet t (pos 5)) ∷ Changed (VersionsSet t 1) ∷ (sees make).sights }
unfolding everything
settings_seen = refl

-- a Rotate, by himself or by others, isn't seen but by its clock
rotate_aside : (sees (make ++ asks bob (pos 8) act.Rotate ∷ asks root (pos 9) act.Rotate ∷ as_bob (writes []) ∷ [])).sights ≡ Asked (as_bob (writes [])) (Some (pos 9)) ∷ (sees make).sights
unfolding everything
rotate_aside = refl
