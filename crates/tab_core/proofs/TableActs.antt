-- Acts that make, drop or set a table.
use Rattle.std.proofs.Common.{◌≡◌, inl, ℕ, ◌+◌, ◌-◌, length, List, [], ◌∷◌, Bool, true, false, cond, ◌&&◌, refl, sym, ◌∙◌, ap, Option, Some, None}
use Rattle.std.specs.Prelude.{ℤ, nat_le, is_some, bytes_eq}
use Rattle.tab_key.specs.declared.limited_part.LimitedPart.TheVariants.{Numbers}
use Rattle.tab_mutation.specs.Shape.{first_some, when}
use Rattle.tab_rules.specs.declared.constraint.Constraint.{Constraint}
use Rattle.tab_policy.specs.declared.permission.TablePermission.{TablePermission}
use Rattle.tab_policy.specs.declared.permission.TablePermission.TheVariants as table
use Rattle.tab_policy.specs.Permissions.{same_table}
use Rattle.tab_policy.specs.State.{State, Readings, readings, user_exists, table_granted, table_exists}
use Rattle.tab_history.specs.declared.event.Act.{Act}
use Rattle.tab_history.specs.declared.event.Act.TheVariants as act
use Rattle.tab_history.specs.declared.event.TimeMode.{TimeMode}
use Rattle.tab_history.specs.declared.reply.Refusal.{Refusal}
use Rattle.tab_history.specs.declared.reply.Refusal.TheVariants.{TableExists, TooLarge}
use Rattle.tab_history.specs.declared.reply.Reply.TheVariants.{Done, Refused}
use Rattle.tab_history.specs.Settings.{Settings, made_with}
use Rattle.tab_history.specs.Changes.{changes_of}
use Rattle.tab_history.specs.Readings.{has_user, user_count, held_auths, has_system_right, has_table_right, table_count, settings_of, next_number}
use Rattle.tab_history.specs.Checks.{standing, version_checks, horizon_checks}
use Rattle.tab_history.specs.Answers.{told, numbered}
use Rattle.tab_store.specs.declared.setting.Setting.{Setting}
use Rattle.tab_store.specs.declared.setting.Setting.TheVariants.{Constraints, Versions, Horizon}
use Rattle.tab_store.specs.Stores.{TableContents, CoreContents, RiseByName, base_of}
use Rattle.tab_store.specs.Stepping.{Aside, Making, Dropping, work_of}
use Rattle.tab_store.specs.Tablets.{next_number as next_tablet}
use Rattle.tab_store.specs.Tables.{made_table, with_setting, table_at, settings_at}
use Rattle.tab_store.proofs.Changed.{read_so, settings_read, count_read, tablets_kept, settings_set, settings_made, settings_dropped}
use Rattle.tab_store.proofs.Changed as changed
use Rattle.tab_core.specs.Stepping.{Acts, Becomes, own_answer, IsAdmitted, IsCore}
use Rattle.tab_core.proofs.Acting.{becomes, done_exactly, refused, own_refused}
use Rattle.tab_core.proofs.Admitting.{there_alike, admitted_there}
use Rattle.tab_core.proofs.Lent.{Alters}

-- ---- a table set
-- what it is set to doesn't say whether it is there
set_there : (x : Setting) (v : Bool) (o : Option Settings) → is_some (cond v (read_so x o) o) ≡ is_some o
set_there (Constraints cs) true None = refl
set_there (Constraints cs) true (Some s) = refl
set_there (Versions many) true None = refl
set_there (Versions many) true (Some s) = refl
set_there (Horizon low) true None = refl
set_there (Horizon low) true (Some s) = refl
set_there x false o = refl

-- the table t is set so, if it is there, and all others stay
abbrev pub Sets : CoreContents → List TableContents → List ℕ → Setting → Type 0
Sets h ts t x = Alters t (with_setting x) h.tables ts

-- an act that passes its checks, and whose changes say the same
set_done : (h : CoreContents) (ts : List TableContents) (now : ℤ) (user t : List ℕ) (a : Act) (x : Setting) → IsCore h → work_of None a ≡ Aside → own_answer (base_of h) now user a ≡ Done → Becomes (base_of h) (changes_of now user a) (base_of (record h { tables = ts })) → Sets h ts t x
    → Acts (own_answer (base_of h) now user a) h now None user a Done (record h { tables = ts })
set_done h ts now user t a x core aside passes becomes sets =
    let new : CoreContents = record h { tables = ts } in
    record {
      exact = done_exactly h new now a (own_answer (base_of h) now user a) Aside aside (sym passes) refl (tablets_kept h new t (with_setting x) (λ s. refl) sets.changed) sets.names refl refl;
      becomes = becomes;
      hands = tt;
      knows = λ q. core.knows q ∙ sym (ap is_some (settings_set h new t x sets.changed q) ∙ set_there x (bytes_eq t q) (settings_of (base_of h) [] q));
    }

pub constraints_set : (h : CoreContents) (ts : List TableContents) (now : ℤ) (user t : List ℕ) (cs : List Constraint) → IsCore h → Sets h ts t (Constraints cs)
    → Acts (own_answer (base_of h) now user (act.SetConstraints t cs)) h now None user (act.SetConstraints t cs) Done (record h { tables = ts })
unfolding readings next_number has_user user_count held_auths has_system_right has_table_right table_count settings_of
constraints_set h ts now user t cs core sets = set_done h ts now user t (act.SetConstraints t cs) (Constraints cs) core refl refl
    (becomes h h.next h.policy ts (changes_of now user (act.SetConstraints t cs)) (table_exists h.policy) refl refl (sets.count ∙ sym (count_read h)) (settings_set h (record h { tables = ts }) t (Constraints cs) sets.changed)) sets

-- ---- the number of versions
pub versions_refused : (h : CoreContents) (now : ℤ) (user t : List ℕ) (many : ℕ) (r : Refusal) → IsCore h → first_some (version_checks (settings_at (table_at h.tables t)) many) ≡ Some r
    → Acts (own_answer (base_of h) now user (act.SetVersions t many)) h now None user (act.SetVersions t many) (Refused r) h
unfolding standing
versions_refused h now user t many r core e = own_refused h now user (act.SetVersions t many) r core (ap (λ o. first_some (version_checks o many)) (settings_read h t) ∙ e)

versions_pass : (h : CoreContents) (now : ℤ) (user t : List ℕ) (many : ℕ) → first_some (version_checks (settings_at (table_at h.tables t)) many) ≡ None → own_answer (base_of h) now user (act.SetVersions t many) ≡ Done
unfolding standing
versions_pass h now user t many e = ap (λ o. told o Done) (ap (λ o. first_some (version_checks o many)) (settings_read h t) ∙ e)

pub versions_set : (h : CoreContents) (ts : List TableContents) (now : ℤ) (user t : List ℕ) (many : ℕ) → IsCore h → first_some (version_checks (settings_at (table_at h.tables t)) many) ≡ None → Sets h ts t (Versions many)
    → Acts (own_answer (base_of h) now user (act.SetVersions t many)) h now None user (act.SetVersions t many) Done (record h { tables = ts })
unfolding readings next_number has_user user_count held_auths has_system_right has_table_right table_count settings_of
versions_set h ts now user t many core passes sets = set_done h ts now user t (act.SetVersions t many) (Versions many) core refl (versions_pass h now user t many passes)
    (becomes h h.next h.policy ts (changes_of now user (act.SetVersions t many)) (table_exists h.policy) refl refl (sets.count ∙ sym (count_read h)) (settings_set h (record h { tables = ts }) t (Versions many) sets.changed)) sets

-- ---- the horizon
pub horizon_refused : (h : CoreContents) (now : ℤ) (user t : List ℕ) (low : ℤ) (r : Refusal) → IsCore h → first_some (horizon_checks (settings_at (table_at h.tables t)) low) ≡ Some r
    → Acts (own_answer (base_of h) now user (act.SetHorizon t low)) h now None user (act.SetHorizon t low) (Refused r) h
unfolding standing
horizon_refused h now user t low r core e = own_refused h now user (act.SetHorizon t low) r core (ap (λ o. first_some (horizon_checks o low)) (settings_read h t) ∙ e)

horizon_passes : (h : CoreContents) (now : ℤ) (user t : List ℕ) (low : ℤ) → first_some (horizon_checks (settings_at (table_at h.tables t)) low) ≡ None → own_answer (base_of h) now user (act.SetHorizon t low) ≡ Done
unfolding standing
horizon_passes h now user t low e = ap (λ o. told o Done) (ap (λ o. first_some (horizon_checks o low)) (settings_read h t) ∙ e)

pub horizon_set : (h : CoreContents) (ts : List TableContents) (now : ℤ) (user t : List ℕ) (low : ℤ) → IsCore h → first_some (horizon_checks (settings_at (table_at h.tables t)) low) ≡ None → Sets h ts t (Horizon low)
    → Acts (own_answer (base_of h) now user (act.SetHorizon t low)) h now None user (act.SetHorizon t low) Done (record h { tables = ts })
unfolding readings next_number has_user user_count held_auths has_system_right has_table_right table_count settings_of
horizon_set h ts now user t low core passes sets = set_done h ts now user t (act.SetHorizon t low) (Horizon low) core refl (horizon_passes h now user t low passes)
    (becomes h h.next h.policy ts (changes_of now user (act.SetHorizon t low)) (table_exists h.policy) refl refl (sets.count ∙ sym (count_read h)) (settings_set h (record h { tables = ts }) t (Horizon low) sets.changed)) sets

-- ---- a table made
pub table_exists_already : (h : CoreContents) (now : ℤ) (user t : List ℕ) (time : TimeMode) (v : ℕ) → IsCore h → is_some (table_at h.tables t) ≡ true
    → Acts (own_answer (base_of h) now user (act.CreateTable t time v)) h now None user (act.CreateTable t time v) (Refused (TableExists t)) h
unfolding standing
table_exists_already h now user t time v core there = own_refused h now user (act.CreateTable t time v) (TableExists t) core (ap (λ x. first_some (when x (TableExists t) ∷ [])) (there_alike h t ∙ there))

-- where the names are free, and there are as many tables as there may be
pub tables_used_up : (h : CoreContents) (now : ℤ) (user t : List ℕ) (time : TimeMode) (v : ℕ) → IsCore h → is_some (table_at h.tables t) ≡ false → nat_le 4294967295 (length h.tables) ≡ true
    → Acts (own_answer (base_of h) now user (act.CreateTable t time v)) h now None user (act.CreateTable t time v) (Refused (TooLarge Numbers)) h
unfolding standing
tables_used_up h now user t time v core absent full = refused (own_answer (base_of h) now user (act.CreateTable t time v)) h now user (act.CreateTable t time v) (TooLarge Numbers) core
    (inl (sym (λ i. told (first_some (when ((there_alike h t ∙ absent) i) (TableExists t) ∷ [])) (numbered ((ap (nat_le 4294967295) (count_read h) ∙ full) i) Done))))

-- the creator has the five permissions, and nobody else has any
rights_made : (user t n s : List ℕ) (p : TablePermission) (old : Bool)
    → cond (bytes_eq t s) (bytes_eq user n) old
    ≡ cond (bytes_eq user n && (same_table table.Read p && bytes_eq t s)) true (cond (bytes_eq user n && (same_table table.Write p && bytes_eq t s)) true (cond (bytes_eq user n && (same_table table.AlterTable p && bytes_eq t s)) true
    (cond (bytes_eq user n && (same_table table.Grant p && bytes_eq t s)) true (cond (bytes_eq user n && (same_table table.DropTable p && bytes_eq t s)) true (cond (bytes_eq t s) false old)))))
rights_made user t n s p old = go (bytes_eq user n) (bytes_eq t s) p
  where
    go : (u v : Bool) (p : TablePermission)
        → cond v u old
        ≡ cond (u && (same_table table.Read p && v)) true (cond (u && (same_table table.Write p && v)) true (cond (u && (same_table table.AlterTable p && v)) true
        (cond (u && (same_table table.Grant p && v)) true (cond (u && (same_table table.DropTable p && v)) true (cond v false old)))))
    go false true p = refl
    go false false p = refl
    go true true table.Read = refl
    go true true table.Write = refl
    go true true table.AlterTable = refl
    go true true table.Grant = refl
    go true true table.DropTable = refl
    go true false table.Read = refl
    go true false table.Write = refl
    go true false table.AlterTable = refl
    go true false table.Grant = refl
    go true false table.DropTable = refl

-- the creator is a user
pub made_by : (old new : State) (user t : List ℕ) → user_exists old user ≡ true
    → readings new ≡ record (readings old) {
      rights = λ n x s. cond (bytes_eq t s) (user_exists old user && bytes_eq user n) (table_granted old n x s);
      tables = λ s. cond (bytes_eq t s) true (table_exists old s);
    }
    → readings new ≡ record (readings old) {
      rights = λ n x s. cond (bytes_eq t s) (bytes_eq user n) (table_granted old n x s);
      tables = λ s. cond (bytes_eq t s) true (table_exists old s);
    }
made_by old new user t known made = made ∙ ap (λ b. record (readings old) {
  rights = λ n x s. cond (bytes_eq t s) (b && bytes_eq user n) (table_granted old n x s);
  tables = λ s. cond (bytes_eq t s) true (table_exists old s);
}) known

pub table_made : (h : CoreContents) (p : State) (ts : List TableContents) (now : ℤ) (user t : List ℕ) (time : TimeMode) (v : ℕ) → IsCore h → is_some (table_at h.tables t) ≡ false → nat_le 4294967295 (length h.tables) ≡ false → RiseByName ts
    → length ts ≡ cond (is_some (table_at h.tables t)) (length h.tables) (length h.tables + 1) → ((q : List ℕ) → table_at ts q ≡ cond (bytes_eq t q) (Some (made_table time v h.tablet)) (table_at h.tables q))
    → readings p ≡ record (readings h.policy) {
      rights = λ n x s. cond (bytes_eq t s) (bytes_eq user n) (table_granted h.policy n x s);
      tables = λ s. cond (bytes_eq t s) true (table_exists h.policy s);
    }
    → Acts (own_answer (base_of h) now user (act.CreateTable t time v)) h now None user (act.CreateTable t time v) Done (record h { policy = p; tables = ts; tablet = next_tablet h.tablet })
unfolding standing readings next_number has_user user_count held_auths has_system_right has_table_right table_count settings_of
table_made h p ts now user t time v core absent room names count made read =
    let new : CoreContents = record h { policy = p; tables = ts; tablet = next_tablet h.tablet } in
    let settings : (q : List ℕ) → settings_of (base_of new) [] q ≡ cond (bytes_eq t q) (Some (made_with time v)) (settings_of (base_of h) [] q) = settings_made h new t time v h.tablet made in
    record {
      exact = done_exactly h new now (act.CreateTable t time v) (own_answer (base_of h) now user (act.CreateTable t time v)) (Making t) refl
          (sym (λ i. told (first_some (when ((there_alike h t ∙ absent) i) (TableExists t) ∷ [])) (numbered ((ap (nat_le 4294967295) (count_read h) ∙ room) i) Done))) refl (changed.table_made h new t now Done time v made) names refl refl;
      becomes = becomes h h.next p ts (changes_of now user (act.CreateTable t time v)) (λ s. cond (bytes_eq t s) true (table_exists h.policy s)) refl
          (read ∙ (λ i. record (readings h.policy) { rights = λ n x s. rights_made user t n s x (table_granted h.policy n x s) i; tables = λ s. cond (bytes_eq t s) true (table_exists h.policy s) }))
          (count ∙ ap (λ x. cond x (length h.tables) (length h.tables + 1)) absent ∙ ap (λ n. n + 1) (sym (count_read h))) settings;
      hands = tt;
      knows = λ q. ap (λ (r : Readings). r.tables q) read ∙ ap (λ k. cond (bytes_eq t q) true k) (core.knows q) ∙ sym (ap is_some (settings q) ∙ go (bytes_eq t q) (settings_of (base_of h) [] q));
    }
  where
    go : (x : Bool) (o : Option Settings) → is_some (cond x (Some (made_with time v)) o) ≡ cond x true (is_some o)
    go true o = refl
    go false o = refl

-- ---- a table dropped
pub table_dropped : (h : CoreContents) (p : State) (ts : List TableContents) (now : ℤ) (user t : List ℕ) → IsCore h → IsAdmitted (base_of h) user (act.DropTable t) → RiseByName ts
    → length ts ≡ cond (is_some (table_at h.tables t)) (length h.tables - 1) (length h.tables) → ((q : List ℕ) → table_at ts q ≡ cond (bytes_eq t q) None (table_at h.tables q))
    → readings p ≡ record (readings h.policy) {
      rights = λ n x s. cond (bytes_eq t s) false (table_granted h.policy n x s);
      tables = λ s. cond (bytes_eq t s) false (table_exists h.policy s);
    }
    → Acts (own_answer (base_of h) now user (act.DropTable t)) h now None user (act.DropTable t) Done (record h { policy = p; tables = ts })
unfolding readings next_number has_user user_count held_auths has_system_right has_table_right table_count settings_of
table_dropped h p ts now user t core admitted names count dropped read =
    let new : CoreContents = record h { policy = p; tables = ts } in
    let settings : (q : List ℕ) → settings_of (base_of new) [] q ≡ cond (bytes_eq t q) None (settings_of (base_of h) [] q) = settings_dropped h new t dropped in
    record {
      exact = done_exactly h new now (act.DropTable t) Done (Dropping t) refl refl refl (changed.table_dropped h new t now Done dropped) names refl refl;
      becomes = becomes h h.next p ts (changes_of now user (act.DropTable t)) (λ s. cond (bytes_eq t s) false (table_exists h.policy s)) refl read
          (count ∙ ap (λ x. cond x (length h.tables - 1) (length h.tables)) (admitted_there h user t (act.DropTable t) refl admitted) ∙ ap (λ n. n - 1) (sym (count_read h))) settings;
      hands = tt;
      knows = λ q. ap (λ (r : Readings). r.tables q) read ∙ ap (λ k. cond (bytes_eq t q) false k) (core.knows q) ∙ sym (ap is_some (settings q) ∙ go (bytes_eq t q) (settings_of (base_of h) [] q));
    }
  where
    go : (x : Bool) (o : Option Settings) → is_some (cond x None o) ≡ cond x false (is_some o)
    go true o = refl
    go false o = refl
