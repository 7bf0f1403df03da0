-- A core keeps to its limits: each step, because of its checks, and a new core.
use Rattle.std.proofs.Common.{◌≡◌, ℕ, ◌+◌, ◌-◌, ◌<◌, ◌^◌, List, [], ◌∷◌, ◌++◌, Bool, true, false, not, cond, ◌||◌, refl, sym, ◌∙◌, ap, subst, length, arith}
use Rattle.std.specs.Prelude.{ℤ, Option, Some, None, find, map, bytes_eq, nat_le, int_lt, ◌&&◌}
use Rattle.std.specs.Int.{int_max}
use Rattle.std.proofs.lemmas.Bool.Decides.{nat_tests}
use Rattle.std.proofs.lemmas.Slice.Eq.{bytes_eq-Decides}
use mathlib.Core.Bool.{true≢false}
use Rattle.tab_key.specs.declared.limited_part.LimitedPart.TheVariants.{Authorizations}
use Rattle.tab_mutation.specs.Shape.{first_some, when}
use Rattle.tab_mutation.proofs.Shapes.{none_left, none_right, unmet}
use Rattle.tab_policy.specs.declared.permission.Permission.TheVariants.{OfSystem, OfTable}
use Rattle.tab_policy.specs.declared.permission.SystemPermission.{SystemPermission}
use Rattle.tab_policy.specs.declared.permission.SystemPermission.TheVariants as system
use Rattle.tab_policy.specs.Permissions.{same_system}
use Rattle.tab_policy.specs.Roots.{root}
use Rattle.tab_rules.specs.declared.constraint.Constraint.{Constraint}
use Rattle.tab_history.specs.Bases.{Base, BaseTable, new_core}
use Rattle.tab_history.specs.Changes.{Change, UserMade, UserDropped, SystemGiven, SystemTaken, TableMade, TableDropped, ConstraintsSet, VersionsSet, HorizonSet, changes_of}
use Rattle.tab_history.specs.Readings.{has_user, user_count, held_auths, has_system_right, table_count, settings_of, constrained, limited, closed_below, base_settings}
use Rattle.tab_history.specs.Settings.{Settings, made_with, least, takes_timestamps}
use Rattle.tab_history.specs.Checks.{standing, too_many_auths, exists_in, user_named, horizon_checks, own_checks, is_grant}
use Rattle.tab_history.specs.Answers.{Told, changes_by}
use Rattle.tab_history.specs.Histories.{World, world_of, world_after, clock_of, journal}
use Rattle.tab_history.specs.Refinement.{ReadsAlike}
use Rattle.tab_history.specs.Rooted.{IsRooted}
use Rattle.tab_history.specs.Chains.{GoesRight, NamesNoSlot}
use Rattle.tab_history.specs.declared.event.TimeMode.TheVariants.{Server}
use Rattle.tab_history.specs.declared.event.Act.{Act}
use Rattle.tab_history.specs.declared.event.Act.TheVariants.{Write, CreateTable, DropTable, SetConstraints, SetVersions, SetHorizon, CreateUser, DropUser, SetAuths, Grant, Revoke}
use Rattle.tab_history.specs.declared.event.Event.{Event}
use Rattle.tab_history.specs.declared.event.Step.TheVariants.{Event as IsEvent}
use Rattle.tab_history.specs.declared.reply.Refusal.TheVariants.{TooLarge, NoUser, UserExists, RootFixed, GrantInvalid, HorizonLowered, ServerTime}
use Rattle.tab_history.proofs.Accepted.{own_pass}
use Rattle.tab_history.proofs.NewCore.{new_core_refines}
use Rattle.tab_history.proofs.RootStays.{root_stays}
use Rattle.tab_store.specs.Parts.{TabletMerge}
use Rattle.tab_store.specs.Stores.{TableContents, CoreContents, base_table_of, base_of, IsNewStore}
use Rattle.tab_store.specs.Stepping.{now_at, entry_of}
use Rattle.tab_store.specs.Rightness.{IsStore, LeavesExactly}
use Rattle.tab_store.proofs.Changed.{count_read}
use Rattle.tab_store.proofs.Passed.{caller, refusal, spent, of_passed}
use Rattle.tab_store.proofs.Staying.{each_stays}
use Rattle.tab_core.specs.Bounded.{IsBareRecord, IsBounded, WritesBare}
use Rattle.tab_core.proofs.Markers.{added_bare}

-- ---- what changes leave
-- each user's authorizations within their limits, and fewer than 2^32 users and tables
record KeepTo (b : Base) (j : List Change) : Type 0 where
  auths : (n : List ℕ) → too_many_auths (held_auths b j n) ≡ false
  users : user_count b j < 2 ^ 32
  tables : table_count b j < 2 ^ 32

few_enough : (n : ℕ) → nat_le 4294967295 n ≡ false → n + 1 < 2 ^ 32
few_enough n e = grind (arith, nat_tests)

fewer : (n : ℕ) → n < 2 ^ 32 → n - 1 < 2 ^ 32
fewer n lt = omega (arith, lt)

either_few : (v : Bool) (xs ys : List (List ℕ)) → too_many_auths xs ≡ false → too_many_auths ys ≡ false → too_many_auths (cond v xs ys) ≡ false
either_few true xs ys a b = a
either_few false xs ys a b = b

-- ---- one change
-- root isn't made anew or dropped, and no system permission is taken from it; a table that gives its timestamps gets no horizon
abbrev Spares : Base → List Change → Change → Type 0
Spares b j (UserMade m) = bytes_eq m root ≡ false
Spares b j (UserDropped m) = bytes_eq m root ≡ false
Spares b j (SystemTaken m q) = bytes_eq m root ≡ false
Spares b j (HorizonSet t low) = (s : Settings) → settings_of b j t ≡ Some s → takes_timestamps s.time ≡ true
Spares b j _ = Unit {0}

abbrev SpareAll : Base → List Change → Type 0
SpareAll b [] = Unit {0}
SpareAll b (x ∷ xs) = SpareAll b xs × Spares b (xs ++ []) x

-- root has all system permissions
abbrev HasAll : Base → List Change → Type 0
HasAll b j = (p : SystemPermission) → has_system_right b j root p ≡ true

-- a table with these settings has no horizon, where it gives its timestamps
abbrev IsOpen : Settings → Type 0
IsOpen s = s.time ≡ Server → s.horizon ≡ least

-- each table is so
abbrev AreOpen : Base → List Change → Type 0
AreOpen b j = (q : List ℕ) (s : Settings) → settings_of b j q ≡ Some s → IsOpen s

given_more : (v x : Bool) → x ≡ true → cond v true x ≡ true
given_more true x e = refl
given_more false x e = e

has_all_more : (b : Base) (j : List Change) → HasAll b j → (x : Change) → Spares b j x → HasAll b (x ∷ j)
unfolding has_system_right
has_all_more b j h (UserMade m) k p = rw k (h p)
has_all_more b j h (UserDropped m) k p = rw k (h p)
has_all_more b j h (SystemGiven m q) k p = given_more (bytes_eq m root && same_system q p) (has_system_right b j root p) (h p)
has_all_more b j h (SystemTaken m q) k p = rw k (h p)
has_all_more b j h _ k p = h p

all_has_all : (b : Base) (xs : List Change) → SpareAll b xs → HasAll b [] → HasAll b (xs ++ [])
all_has_all b [] k h = h
all_has_all b (x ∷ xs) k h = has_all_more b (xs ++ []) (all_has_all b xs k.0 h) x k.1

same_open : (x s : Settings) → Some x ≡ Some s → IsOpen x → IsOpen s
same_open x s e h = let same : x ≡ s = cc in subst IsOpen same h

either_open : (v : Bool) (o o' : Option Settings) (s : Settings) → (o ≡ Some s → IsOpen s) → (o' ≡ Some s → IsOpen s) → cond v o o' ≡ Some s → IsOpen s
either_open true o o' s f g e = f e
either_open false o o' s f g e = g e

constrained_open : (cs : List Constraint) (o : Option Settings) (s : Settings) → ((x : Settings) → o ≡ Some x → IsOpen x) → constrained cs o ≡ Some s → IsOpen s
constrained_open cs None s h e = absurd (cc)
constrained_open cs (Some x) s h e = same_open (record x { constraints = cs }) s e (h x refl)

limited_open : (many : ℕ) (o : Option Settings) (s : Settings) → ((x : Settings) → o ≡ Some x → IsOpen x) → limited many o ≡ Some s → IsOpen s
limited_open many None s h e = absurd (cc)
limited_open many (Some x) s h e = same_open (record x { versions = many }) s e (h x refl)

-- a table that takes timestamps may have any horizon
closed_open : (low : ℤ) (o : Option Settings) (s : Settings) → ((x : Settings) → o ≡ Some x → takes_timestamps x.time ≡ true) → closed_below low o ≡ Some s → IsOpen s
closed_open low None s takes e = absurd (cc)
closed_open low (Some x) s takes e = same_open (record x { horizon = low }) s e (λ server. absurd (true≢false (sym (takes x refl) ∙ ap takes_timestamps server)))

open_more : (b : Base) (j : List Change) → AreOpen b j → (x : Change) → Spares b j x → AreOpen b (x ∷ j)
unfolding settings_of
open_more b j h (TableMade t time n) k q s e = either_open (bytes_eq t q) (Some (made_with time n)) (settings_of b j q) s (λ f. same_open (made_with time n) s f (λ server. refl)) (h q s) e
open_more b j h (TableDropped t) k q s e = either_open (bytes_eq t q) None (settings_of b j q) s (λ f. absurd (cc)) (h q s) e
open_more b j h (ConstraintsSet t cs) k q s e = either_open (bytes_eq t q) (constrained cs (settings_of b j q)) (settings_of b j q) s (constrained_open cs (settings_of b j q) s (h q)) (h q s) e
open_more b j h (VersionsSet t many) k q s e = either_open (bytes_eq t q) (limited many (settings_of b j q)) (settings_of b j q) s (limited_open many (settings_of b j q) s (h q)) (h q s) e
open_more b j h (HorizonSet t low) k q s e = at (bytes_eq t q) refl e
  where
    at : (v : Bool) → bytes_eq t q ≡ v → cond v (closed_below low (settings_of b j q)) (settings_of b j q) ≡ Some s → IsOpen s
    at true w f = closed_open low (settings_of b j q) s (λ x found. k x (ap (settings_of b j) ((bytes_eq-Decides t q).0 w) ∙ found)) f
    at false w f = h q s f
open_more b j h _ k q s e = h q s e

all_open : (b : Base) (xs : List Change) → SpareAll b xs → AreOpen b [] → AreOpen b (xs ++ [])
all_open b [] k h = h
all_open b (x ∷ xs) k h = open_more b (xs ++ []) (all_open b xs k.0 h) x k.1

-- a user whom there isn't isn't root
not_root : (b : Base) (m : List ℕ) → has_user b [] root ≡ true → has_user b [] m ≡ false → bytes_eq m root ≡ false
not_root b m known unknown = go (bytes_eq m root) refl
  where
    go : (v : Bool) → bytes_eq m root ≡ v → v ≡ false
    go false e = refl
    go true e = absurd (true≢false (sym known ∙ ap (has_user b []) (sym ((bytes_eq-Decides m root).0 e)) ∙ unknown))

holds : (v : Bool) → not v ≡ false → v ≡ true
holds true e = refl
holds false e = sym e

module _ (old : CoreContents) (user : List ℕ) (moment : ℤ) (h : IsBounded old) where
  abbrev b : Base
  b = base_of old

  abbrev event_of : Act → Event
  event_of act = record { user = user; moment = moment; act = act }

  kept : KeepTo b []
  unfolding held_auths user_count table_count
  kept = record { auths = h.auths; users = h.users; tables = subst (λ n. n < 2 ^ 32) (sym (count_read old)) h.tables }

  few_set : (n : List ℕ) (auths : List (List ℕ)) → refusal old (event_of (SetAuths n auths)) ≡ None → too_many_auths auths ≡ false
  few_set n auths passed = unmet (too_many_auths auths) (TooLarge Authorizations) (none_left _ (first_some (when (not (exists_in b [] (Some n))) (NoUser n) ∷ [])) (own_pass (caller old (event_of (SetAuths n auths))) (exists_in b [] (Some n)) (int_max old.clock moment) user (SetAuths n auths) passed))

  act_keeps : (now : ℤ) (act : Act) → refusal old (event_of act) ≡ None → spent old (event_of act) ≡ false → KeepTo b (changes_of now user act ++ [])
  unfolding held_auths user_count table_count
  act_keeps now (CreateTable t time n) passed left = record { auths = kept.auths; users = kept.users; tables = few_enough (table_count b []) left }
  act_keeps now (DropTable t) passed left = record { auths = kept.auths; users = kept.users; tables = fewer (table_count b []) kept.tables }
  act_keeps now (CreateUser m) passed left = record { auths = λ n. either_few (bytes_eq m n) [] (held_auths b [] n) refl (kept.auths n); users = few_enough (user_count b []) left; tables = kept.tables }
  act_keeps now (DropUser m) passed left = record { auths = λ n. either_few (bytes_eq m n) [] (held_auths b [] n) refl (kept.auths n); users = fewer (user_count b []) kept.users; tables = kept.tables }
  act_keeps now (SetAuths m auths) passed left = record { auths = λ n. either_few (bytes_eq m n) auths (held_auths b [] n) (few_set m auths passed) (kept.auths n); users = kept.users; tables = kept.tables }
  act_keeps now (Grant n (OfSystem p)) passed left = record { auths = kept.auths; users = kept.users; tables = kept.tables }
  act_keeps now (Grant n (OfTable p t)) passed left = record { auths = kept.auths; users = kept.users; tables = kept.tables }
  act_keeps now (Revoke n (OfSystem p)) passed left = record { auths = kept.auths; users = kept.users; tables = kept.tables }
  act_keeps now (Revoke n (OfTable p t)) passed left = record { auths = kept.auths; users = kept.users; tables = kept.tables }
  act_keeps now (Write t m) passed left = record { auths = kept.auths; users = kept.users; tables = kept.tables }
  act_keeps now (SetConstraints t cs) passed left = record { auths = kept.auths; users = kept.users; tables = kept.tables }
  act_keeps now (SetVersions t many) passed left = record { auths = kept.auths; users = kept.users; tables = kept.tables }
  act_keeps now (SetHorizon t low) passed left = record { auths = kept.auths; users = kept.users; tables = kept.tables }
  act_keeps now act passed left = kept

  -- the checks of an event passed that are its own
  own : (now : ℤ) (act : Act) → refusal old (event_of act) ≡ None → first_some (own_checks (caller old (event_of act)) (exists_in b [] (user_named act)) (int_max old.clock moment) act) ≡ None
  own now act passed = own_pass (caller old (event_of act)) (exists_in b [] (user_named act)) (int_max old.clock moment) user act passed

  -- a horizon is set of a table that takes timestamps
  stamped_alone : (t : List ℕ) (low : ℤ) → refusal old (event_of (SetHorizon t low)) ≡ None → (s : Settings) → settings_of b [] t ≡ Some s → takes_timestamps s.time ≡ true
  unfolding standing
  stamped_alone t low passed s e = holds (takes_timestamps s.time) (unmet (not (takes_timestamps s.time)) ServerTime (none_left _ (first_some (when (int_lt low s.horizon) (HorizonLowered s.horizon) ∷ [])) checks))
    where
      checks : first_some (horizon_checks (Some s) low) ≡ None
      checks = subst (λ o. first_some (horizon_checks o low) ≡ None) e (own (int_max old.clock moment) (SetHorizon t low) passed)

  act_spares : (now : ℤ) (act : Act) → refusal old (event_of act) ≡ None → SpareAll b (changes_of now user act)
  act_spares now (Write t m) passed = (tt, tt)
  act_spares now (CreateTable t time n) passed = ((((((tt, tt), tt), tt), tt), tt), tt)
  act_spares now (DropTable t) passed = (tt, tt)
  act_spares now (SetConstraints t cs) passed = (tt, tt)
  act_spares now (SetVersions t many) passed = (tt, tt)
  act_spares now (SetHorizon t low) passed = (tt, stamped_alone t low passed)
  act_spares now (CreateUser n) passed = (tt, not_root b n h.rooted.known (unmet (exists_in b [] (Some n)) (UserExists n) (none_left _ (first_some []) (own now (CreateUser n) passed))))
  act_spares now (DropUser n) passed = (tt, unmet (bytes_eq n root) RootFixed (none_left _ (first_some []) (none_right (when (not (exists_in b [] (Some n))) (NoUser n)) (first_some (when (bytes_eq n root) RootFixed ∷ [])) (own now (DropUser n) passed))))
  act_spares now (SetAuths n auths) passed = (tt, tt)
  act_spares now (Grant n (OfSystem p)) passed = (tt, tt)
  act_spares now (Grant n (OfTable p t)) passed = (tt, tt)
  act_spares now (Revoke n (OfSystem p)) passed =
      let others = none_right (when (is_grant p) GrantInvalid) (first_some (when (not (exists_in b [] (Some n))) (NoUser n) ∷ when (bytes_eq n root) RootFixed ∷ [])) (own now (Revoke n (OfSystem p)) passed) in
      (tt, unmet (bytes_eq n root) RootFixed (none_left _ (first_some []) (none_right (when (not (exists_in b [] (Some n))) (NoUser n)) (first_some (when (bytes_eq n root) RootFixed ∷ [])) others)))
  act_spares now (Revoke n (OfTable p t)) passed = (tt, tt)
  act_spares now act passed = tt

-- ---- worlds that read alike
rooted_alike : (v w : World) → ReadsAlike v w → IsRooted w.base w.changes → IsRooted v.base v.changes
rooted_alike v w alike h = record { known = alike.known root ∙ h.known; alone = λ n. ap (λ r. bytes_eq n root || r) (alike.system n system.Grant) ∙ h.alone n }

-- ---- a step
pub limits_stay : (old new : CoreContents) (given job : Option TabletMerge) (event : Event) (r : Told) → IsStore old → NamesNoSlot event.act → WritesBare event.act → IsBounded old → LeavesExactly old given event r job new → GoesRight (base_of old) (entry_of event r) (base_of new) → IsBounded new
unfolding held_auths user_count table_count has_system_right journal clock_of
limits_stay old new given job event r store named bare h leaves right =
    let keep : KeepTo (base_of old) (changes_by (now_at old event) (IsEvent event) r ++ []) =
    of_passed old event (λ j. KeepTo (base_of old) (j ++ [])) (kept old event.user event.moment h) given r (act_keeps old event.user event.moment h (now_at old event) event.act) leaves.exact.answers in
    let spared : SpareAll (base_of old) (changes_by (now_at old event) (IsEvent event) r) =
    of_passed old event (SpareAll (base_of old)) tt given r (λ passed left. act_spares old event.user event.moment h (now_at old event) event.act passed) leaves.exact.answers in
    record {
      auths = λ n. ap too_many_auths (leaves.reads.auths n) ∙ keep.auths n;
      rooted = rooted_alike (world_of (base_of new)) (world_after (world_of (base_of old)) (entry_of event r ∷ [])) leaves.reads ((root_stays.1 (world_of (base_of old)) h.rooted (entry_of event r ∷ [])).1 right.legal);
      root_has_all = λ p. leaves.reads.system root p ∙ all_has_all (base_of old) (changes_by (now_at old event) (IsEvent event) r) spared h.root_has_all p;
      server_horizon = λ q s e. all_open (base_of old) (changes_by (now_at old event) (IsEvent event) r) spared h.server_horizon q s (sym (leaves.reads.settings q) ∙ e);
      markers = each_stays IsBareRecord old new given job event r store named leaves h.markers (λ passed. added_bare old (now_at old event) event.act bare);
      users = subst (λ n. n < 2 ^ 32) (sym leaves.reads.users) keep.users;
      tables = subst (λ n. n < 2 ^ 32) (sym leaves.reads.tables ∙ count_read new) keep.tables;
    }

-- ---- a new core
no_settings : (ts : List BaseTable) (q : List ℕ) (s : Settings) → ts ≡ [] → base_settings (find (λ (u : BaseTable). bytes_eq u.name q) ts) ≡ Some s → IsOpen s
no_settings [] q s none e = absurd (cc)
no_settings (t ∷ ts) q s none e = absurd (cc)

no_table : (ts : List TableContents) (q : List ℕ) (t : TableContents) → map base_table_of ts ≡ [] → find (λ (x : TableContents). bytes_eq x.name q) ts ≡ Some t → ⊥
no_table [] q t none e = cc
no_table (x ∷ xs) q t none e = cc

pub new_is_bounded : (h : CoreContents) → IsNewStore h → IsBounded h
unfolding table_count settings_of
new_is_bounded h new = record {
  auths = λ n. ap too_many_auths (new.base.auths n);
  rooted = rooted_alike (world_of (base_of h)) (world_of new_core) (new_core_refines (base_of h) new.base).reads root_stays.0;
  root_has_all = λ p. new.base.system root p;
  server_horizon = λ q s e. no_settings (base_of h).tables q s new.base.tables e;
  markers = λ q t e. absurd (no_table h.tables q t new.base.tables e);
  users = subst (λ n. n < 2 ^ 32) (sym new.base.count) (omega arith);
  tables = subst (λ n. n < 2 ^ 32) (ap length (sym new.base.tables) ∙ count_read h) (omega arith);
}
