-- To be believed. When one world refines another: the same clock, users, rights and tables, and of each table held records that refine its updates.
use Rattle.std.specs.Prelude.{◌≡◌, ℕ, ◌<◌, ◌↔◌, pos, List, [], false, Some, Contains, bytes_eq}
use Rattle.tab_policy.specs.Roots.{root}
use Rattle.tab_policy.specs.State.{user_exists, user_count as policy_users, auths_of, system_granted, table_granted}
use Rattle.tab_key.specs.Records.{Record}
use Rattle.tab_key.specs.Sorted.{IsDistinct}
use Rattle.tab_history.specs.Settings.{Settings}
use Rattle.tab_history.specs.Readings.{has_user, user_count, held_auths, has_system_right, has_table_right, table_count, settings_of, next_number, updates_of}
use Rattle.tab_cells.specs.Cells.{Query, HasOneAnswer}
use Rattle.tab_history.specs.Bases.{Base, new_core}
use Rattle.tab_history.specs.Histories.{Entry, World, world_of, world_after, moves_of}
use Rattle.tab_history.specs.Legal.{Legal, LegalAlone}
use Rattle.tab_history.specs.Held.{floor_of, RefinesTable}
use Rattle.tab_policy.specs.declared.permission.SystemPermission.{SystemPermission}
use Rattle.tab_policy.specs.declared.permission.TablePermission.{TablePermission}

-- the clock, the next number, users, rights and settings read the same in both, and so do the numbers of users and tables
pub record ReadsAlike (v w : World) : Type 0 where
  pub clock : v.clock ≡ w.clock
  pub next : next_number v.base v.changes ≡ next_number w.base w.changes
  pub users : user_count v.base v.changes ≡ user_count w.base w.changes
  pub tables : table_count v.base v.changes ≡ table_count w.base w.changes
  pub known : (n : List ℕ) → has_user v.base v.changes n ≡ has_user w.base w.changes n
  pub auths : (n : List ℕ) → held_auths v.base v.changes n ≡ held_auths w.base w.changes n
  pub system : (n : List ℕ) (p : SystemPermission) → has_system_right v.base v.changes n p ≡ has_system_right w.base w.changes n p
  pub rights : (n : List ℕ) (p : TablePermission) (t : List ℕ) → has_table_right v.base v.changes n p t ≡ has_table_right w.base w.changes n p t
  pub settings : (t : List ℕ) → settings_of v.base v.changes t ≡ settings_of w.base w.changes t

-- all but records reads the same in both, and the records that v has of each table refine those that w has
pub record Refines (v w : World) : Type 0 where
  pub reads : ReadsAlike v w
  pub tables : (t : List ℕ) (s : Settings) → settings_of w.base w.changes t ≡ Some s
      → RefinesTable (updates_of v.base v.changes t) (updates_of w.base w.changes t) (next_number w.base w.changes) s.versions (floor_of s.time w.clock s.horizon)

-- ---- The law: where v refines w, the same histories are legal from both, each session's list included, and what they leave is related as they are.
-- what the entries leave of v refines what they leave of w, and each user's sessions are the same
pub record GoOnAlike (v w : World) (es : List Entry) : Type 0 where
  pub refines : Refines (world_after v es) (world_after w es)
  pub sessions : (user : List ℕ) → moves_of v user es ≡ moves_of w user es

-- the same runs are legal
abbrev pub SameHistories : Type 0
SameHistories = (v w : World) → Refines v w → (es : List Entry)
    → (Legal v es → Legal w es × GoOnAlike v w es) × (Legal w es → Legal v es × GoOnAlike v w es)

-- the same events are legal, where they stand alone
abbrev pub SameEvents : Type 0
SameEvents = (v w : World) → Refines v w → (es : List Entry)
    → (LegalAlone v es → LegalAlone w es × Refines (world_after v es) (world_after w es)) × (LegalAlone w es → LegalAlone v es × Refines (world_after v es) (world_after w es))

-- ---- The law: refining is transitive.
-- what refines what refines a world refines it
abbrev pub RefinementIsTransitive : Type 0
RefinementIsTransitive = (u v w : World) → Refines u v → Refines v w → Refines u w

-- ---- The law: a sound world refines itself.
-- no two records of a table stand at one place, and their numbers are used up
abbrev pub IsSound : World → Type 0
IsSound w = (t : List ℕ) → IsDistinct (updates_of w.base w.changes t) × ((u : Record) → Contains (updates_of w.base w.changes t) u → u.seq < next_number w.base w.changes)

-- a sound world refines itself
abbrev pub SoundRefinesItself : Type 0
SoundRefinesItself = (w : World) → IsSound w → Refines w w

-- ---- The law: a new core is sound.
-- a new core has no table, and so no record
abbrev pub NewCoreIsSound : Type 0
NewCoreIsSound = IsSound (world_of new_core)

-- ---- The law: a base that reads as a new core refines it.
-- no time has passed, nothing was written, there is no table, and of users and rights there is root with all system permissions
pub record IsNewCore (b : Base) : Type 0 where
  pub clock : b.clock ≡ pos 0
  pub next : b.next ≡ 0
  pub tables : b.tables ≡ []
  pub users : (n : List ℕ) → user_exists b.policy n ≡ bytes_eq root n
  pub count : policy_users b.policy ≡ 1
  pub auths : (n : List ℕ) → auths_of b.policy n ≡ []
  pub system : (n : List ℕ) (p : SystemPermission) → system_granted b.policy n p ≡ bytes_eq root n
  pub rights : (n : List ℕ) (p : TablePermission) (t : List ℕ) → table_granted b.policy n p t ≡ false

-- a base that is a new core to whoever reads it refines one
abbrev pub NewCoreRefines : Type 0
NewCoreRefines = (b : Base) → IsNewCore b → Refines (world_of b) (world_of new_core)

-- ---- The law: what refines a world is sound.
-- a base that refines some world is sound
abbrev pub RefinementIsSound : Type 0
RefinementIsSound = (b : Base) (w : World) → Refines (world_of b) w → IsSound (world_of b)

-- ---- The law: a world of which all that is ever asked is the same, and which holds the same records in any order, refines another one.
-- the same readings, and of each table the same records, each once
pub record IsAlike (v w : World) : Type 0 where
  pub reads : ReadsAlike v w
  pub members : (t : List ℕ) (s : Settings) → settings_of w.base w.changes t ≡ Some s → (u : Record) → Contains (updates_of v.base v.changes t) u ↔ Contains (updates_of w.base w.changes t) u
  pub once : (t : List ℕ) (s : Settings) → settings_of w.base w.changes t ≡ Some s → IsDistinct (updates_of v.base v.changes t)

-- such a world refines the other one, where that refines itself, as after each legal history from a sound world
abbrev pub AlikeRefines : Type 0
AlikeRefines = (v w : World) → Refines w w → IsAlike v w → Refines v w

-- ---- The law: a scan has one answer.
-- of each table that there is after a legal history from a sound world
abbrev pub AnswersAreOne : Type 0
AnswersAreOne = (w : World) → IsSound w → (es : List Entry) → Legal w es → (t : List ℕ) (s : Settings) → settings_of w.base (world_after w es).changes t ≡ Some s → (q : Query)
    → HasOneAnswer (updates_of w.base (world_after w es).changes t) s.versions q
