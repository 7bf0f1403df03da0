-- Examples, computed: what bob sees of a server's history, and what they are told, where root does beside them what they can't see.
use Rattle.std.specs.Prelude.{◌≡◌, ℕ, ℤ, pos, List, [], ◌∷◌, ◌++◌, true, false, Some, None, codes, filter, not, map, refl}
use Rattle.tab_key.specs.Records.{Cell}
use Rattle.tab_key.specs.Order.{column_cmp, key_cmp, place_cmp, newer_cmp}
use Rattle.tab_key.specs.Kept.{same_column, hides, is_deleted, outranks, is_kept}
use Rattle.tab_key.specs.declared.key.Kind.TheVariants.{Put}
use Rattle.tab_label.specs.Grammar.{is_term_byte}
use Rattle.tab_label.specs.Machine.{step, ending}
use Rattle.tab_label.specs.Reading.{reads_on, label_of}
use Rattle.tab_mutation.specs.Mutations.{Update}
use Rattle.tab_mutation.specs.Shape.{shape_error}
use Rattle.tab_rules.specs.Verdict.{violations}
use Rattle.tab_policy.specs.State.{user_exists, user_count as policy_users, auths_of, system_granted, table_granted}
use Rattle.tab_policy.specs.Roots.{root}
use Rattle.tab_policy.specs.declared.permission.Permission.TheVariants.{OfTable}
use Rattle.tab_policy.specs.declared.permission.TablePermission.TheVariants as table
use Rattle.tab_cells.specs.Cells.{matches, cells}
use Rattle.tab_cells.specs.Written.{records_of}
use Rattle.tab_history.specs.Bases.{Base, new_core}
use Rattle.tab_history.specs.Changes.{UserMade, AuthsSet, TableGiven, TableMade}
use Rattle.tab_history.specs.Readings.{has_user, user_count, held_auths, has_system_right, has_table_right, table_count, settings_of, next_number, updates_of}
use Rattle.tab_history.specs.Checks.{standing, malformed, stamped, outdated, refusal_of}
use Rattle.tab_history.specs.Sessions.{opened, closed, session_in}
use Rattle.tab_history.specs.Jobs.{begun, job_in}
use Rattle.tab_history.specs.Answers.{Told, told_opened, answer, session_list}
use Rattle.tab_history.specs.Histories.{Entry, World, world_of, clock_of, journal, moves_of, jobs_of, is_by}
use Rattle.tab_history.specs.Legal.{answer_at}
use Rattle.tab_history.specs.Runs.{one_reply}
use Rattle.tab_history.specs.ExampleWords.{t, r, f, q, bob, eve, everywhere, asks, as_root, as_bob}
use Rattle.tab_history.specs.declared.event.TimeMode.TheVariants.{Server}
use Rattle.tab_history.specs.declared.event.Act.{Act}
use Rattle.tab_history.specs.declared.event.Act.TheVariants as act
use Rattle.tab_history.specs.declared.event.Step.{Step}
use Rattle.tab_history.specs.declared.event.Step.TheVariants.{Next}
use Rattle.tab_history.specs.declared.reply.Refusal.TheVariants.{NoSession}
use Rattle.tab_history.specs.declared.reply.Reply.TheVariants.{Done, Refused, Rights}
use Rattle.tab_noninterference.specs.Given.{auths_given}
use Rattle.tab_noninterference.specs.Views.{Sight, Asked, Changed, sights, View, view}
use Rattle.tab_noninterference.specs.Hearing.{Heard, heard}

-- names what the examples look into
unfoldable pub everything : ℕ
unfolding is_term_byte step ending reads_on label_of column_cmp key_cmp place_cmp newer_cmp same_column hides is_deleted outranks is_kept matches cells user_exists policy_users auths_of system_granted table_granted has_user user_count held_auths has_system_right has_table_right table_count settings_of next_number records_of updates_of shape_error malformed stamped outdated violations standing refusal_of opened closed session_in begun job_in answer session_list clock_of journal moves_of jobs_of auths_given sights heard
everything = 0

-- ---- histories
-- one of the replies to a step behind these entries, in nobody's list of sessions
abbrev pub reply_alone : World → List Entry → Step → Told
reply_alone w es step = one_reply step (answer_at w es [] step)

-- the history of these steps, the first of them first, behind the entries es
abbrev pub played_alone : World → List Entry → List Step → List Entry
played_alone w es [] = es
played_alone w es (step ∷ steps) = played_alone w (record { step = step; reply = reply_alone w es step } ∷ es) steps

-- the history of these steps from a new core
abbrev pub history : List Step → List Entry
history steps = played_alone (world_of new_core) [] steps

-- what bob sees of it
abbrev pub sees : List Step → View
sees steps = view new_core bob (history steps)

-- the covered replies to bob, the newest first
abbrev pub hears : List Step → List Heard
hears steps = heard bob (world_of new_core) (history steps)

-- ---- steps
-- a put with this label and value, and no timestamp
abbrev puts : List ℕ → List ℕ → Update
puts label value = record { kind = Put; family = f; qualifier = q; label = label; timestamp = None; value = value }

-- writes these updates of r to t
abbrev writes : List Update → Act
writes updates = act.Write t (record { row = r; updates = updates })

-- opens a session on all of t under the authorization A
abbrev opens : Act
opens = act.Open (record { table = t; bounds = everywhere; columns = []; authorizations = codes "A" ∷ [] })

-- makes t, whose times are the clock's, and bob, who holds A and may read and write it
abbrev make : List Step
make = as_root (act.CreateTable t Server 1) ∷ as_root (act.CreateUser bob) ∷ as_root (act.SetAuths bob (codes "A" ∷ [])) ∷ as_root (act.Grant bob (OfTable table.Read t)) ∷ as_root (act.Grant bob (OfTable table.Write t)) ∷ []

-- a history in which others take some steps, and then bob writes, scans, and asks for their own rights
abbrev pub beside : List Step → List Step
beside before = make ++ before ++ as_bob (writes (puts (codes "A") (codes "x") ∷ [])) ∷ as_bob opens ∷ as_bob (act.Rights t) ∷ []

-- ---- two worlds
-- root writes under a label that bob never holds, and makes another user
abbrev pub unseen : List Step
unseen = as_root (writes (puts (codes "B") (codes "y") ∷ [])) ∷ as_root (act.CreateUser eve) ∷ []

-- what bob sees in both: their own steps behind the changes that concern them
abbrev seen_beside : View
seen_beside = record {
  held = codes "A" ∷ [];
  sights = Asked (as_bob (act.Rights t)) (Some (pos 0)) ∷ Asked (as_bob opens) (Some (pos 0)) ∷ Asked (as_bob (writes (puts (codes "A") (codes "x") ∷ []))) (Some (pos 0))
      ∷ Changed (TableGiven bob table.Write t) ∷ Changed (TableGiven bob table.Read t) ∷ Changed (AuthsSet bob (codes "A" ∷ [])) ∷ Changed (UserMade bob) ∷ Changed (TableMade t Server 1) ∷ [];
}

seen_alone : sees (beside []) ≡ seen_beside
unfolding everything
seen_alone = refl

pub seen_alike : sees (beside []) ≡ sees (beside unseen)
unfolding everything
seen_alike = refl

-- what bob is told in both, the newest reply first: the cell that they wrote, at this time
abbrev told_at : ℤ → List Heard
told_at now =
    record {
      reply = Rights (record {
        system = record { grant = false; create_table = false; drop_table = false; alter_table = false; create_user = false; drop_user = false; alter_user = false; system = false };
        table = record { read = true; write = true; alter_table = false; grant = false; drop_table = false };
        authorizations = codes "A" ∷ [];
      });
      list = [];
    }
    ∷ record { reply = told_opened; list = record { key = record { row = r; family = f; qualifier = q; label = codes "A"; timestamp = now }; value = codes "x" } ∷ [] }
    ∷ record { reply = Done; list = [] }
    ∷ []

told_alone : hears (beside []) ≡ told_at (pos 0)
unfolding everything
told_alone = refl

told_beside_unseen : hears (beside unseen) ≡ told_at (pos 0)
unfolding everything
told_beside_unseen = refl

-- ---- nobody has a list of sessions
-- behind an Open that was accepted there is no session to ask: a server keeps sessions elsewhere, and its history has no such step
no_session : history (beside [] ++ Next bob 0 1 ∷ []) ≡ record { step = Next bob 0 1; reply = Refused (NoSession 0) } ∷ history (beside [])
unfolding everything
no_session = refl

-- ---- the clock
-- an event of root that bob doesn't see, at 9
abbrev pub later : List Step
later = asks root (pos 9) (act.CreateUser eve) ∷ []

-- what bob writes behind it has that time, and a view shows it to them
told_later : hears (beside later) ≡ told_at (pos 9)
unfolding everything
told_later = refl

-- a view without the clock of one's own events
abbrev pub hide : Sight → Sight
hide (Asked step now) = Asked step None
hide (Changed c) = Changed c

abbrev pub view_without_clock : Base → List ℕ → List Entry → View
view_without_clock b user es = let v = view b user es in record { held = v.held; sights = map hide v.sights }

-- shows the same of both histories
pub alike_without_clock : view_without_clock new_core bob (history (beside [])) ≡ view_without_clock new_core bob (history (beside later))
unfolding everything
alike_without_clock = refl

-- the timestamp of the first cell of the newest list that was told
abbrev stamp_in : List Cell → ℤ → ℤ
stamp_in [] otherwise = otherwise
stamp_in (c ∷ cs) otherwise = c.key.timestamp

abbrev pub stamp_of : List Heard → ℤ
stamp_of [] = pos 1
stamp_of (x ∷ xs) = stamp_in x.list (stamp_of xs)

-- which they tell apart
pub stamps : (stamp_of (hears (beside [])) ≡ pos 0) × (stamp_of (hears (beside later)) ≡ pos 9)
unfolding everything
stamps = (refl, refl)

-- ---- what others did
-- the entries of others
abbrev pub others : List ℕ → List Entry → List Entry
others user es = filter (λ (e : Entry). not (is_by user e.step)) es
