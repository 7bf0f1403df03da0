-- Users, rights and tables are the same over the changes that a user sees, as far as they concern him.
use Rattle.std.proofs.Common.{◌≡◌, ℕ, List, [], ◌∷◌, ◌++◌, Bool, true, false, cond, ◌&&◌, ◌||◌, refl, sym, ◌∙◌, ap}
use Rattle.std.specs.Prelude.{bytes_eq, Option, Some, None, filter, is_some}
use Rattle.tab_policy.specs.Permissions.{same_system, same_table}
use Rattle.tab_policy.specs.Roots.{root}
use Rattle.tab_policy.specs.declared.permission.SystemPermission.{SystemPermission}
use Rattle.tab_policy.specs.declared.permission.TablePermission.{TablePermission}
use Rattle.tab_history.specs.Settings.{Settings, made_with}
use Rattle.tab_history.specs.Bases.{Base}
use Rattle.tab_history.specs.Changes.{Change, UserMade, UserDropped, AuthsSet, SystemGiven, SystemTaken, TableGiven, TableTaken, TableMade, TableDropped, ConstraintsSet, VersionsSet, HorizonSet, Written}
use Rattle.tab_cells.specs.Written.{TimedUpdate}
use Rattle.tab_history.specs.Readings.{has_user, held_auths, has_system_right, has_table_right, constrained, limited, closed_below, settings_of}
use Rattle.tab_history.specs.Checks.{standing}
use Rattle.tab_noninterference.proofs.SeenBase.{base_seen, base_settings_seen}
use Rattle.tab_noninterference.specs.Concerns.{only_if, if_any, may_read, visible}

-- a change that is kept where a test passes, of which E tells nothing where it fails
pub kept_or_not : {X : Type 0} (v : Bool) (D E : List Change → X) (c : Change) (j k : List Change) → D (c ∷ j) ≡ E (c ∷ k) → (v ≡ false → E (c ∷ k) ≡ E k) → D j ≡ E k → D (only_if v c ++ j) ≡ E (c ∷ k)
kept_or_not true D E c j k both skip same = both
kept_or_not false D E c j k both skip same = same ∙ sym (skip refl)

-- a write of which D tells nothing
pub any_or_none : {X : Type 0} (D : List Change → X) (t row : List ℕ) (ps : List TimedUpdate) (j : List Change) → ((p : TimedUpdate) (qs : List TimedUpdate) → D (Written t row (p ∷ qs) ∷ j) ≡ D j) → D (if_any t row ps ++ j) ≡ D j
any_or_none D t row [] j skip = refl
any_or_none D t row (p ∷ ps) j skip = skip p ps

module _ (held : List (List ℕ)) (b : Base) (user : List ℕ) where
  abbrev see : List Change → List Change
  see = visible held user

  -- what he may read of the base
  abbrev c : Base
  c = base_seen held b

  -- ---- himself
  pub user_visible : (j : List Change) → has_user c (see j) user ≡ has_user b j user
  unfolding has_user
  user_visible [] = refl
  user_visible (UserMade n ∷ j) = kept_or_not (bytes_eq n user) (λ k. has_user c k user) (λ k. has_user b k user) (UserMade n) (see j) j (ap (cond (bytes_eq n user) true) (user_visible j)) (λ e. rw e refl) (user_visible j)
  user_visible (UserDropped n ∷ j) = kept_or_not (bytes_eq n user) (λ k. has_user c k user) (λ k. has_user b k user) (UserDropped n) (see j) j (ap (cond (bytes_eq n user) false) (user_visible j)) (λ e. rw e refl) (user_visible j)
  user_visible (AuthsSet n set ∷ j) = kept_or_not (bytes_eq n user) (λ k. has_user c k user) (λ k. has_user b k user) (AuthsSet n set) (see j) j (user_visible j) (λ e. refl) (user_visible j)
  user_visible (SystemGiven n q ∷ j) = kept_or_not (bytes_eq n user) (λ k. has_user c k user) (λ k. has_user b k user) (SystemGiven n q) (see j) j (user_visible j) (λ e. refl) (user_visible j)
  user_visible (SystemTaken n q ∷ j) = kept_or_not (bytes_eq n user) (λ k. has_user c k user) (λ k. has_user b k user) (SystemTaken n q) (see j) j (user_visible j) (λ e. refl) (user_visible j)
  user_visible (TableGiven n q s ∷ j) = kept_or_not (bytes_eq n user) (λ k. has_user c k user) (λ k. has_user b k user) (TableGiven n q s) (see j) j (user_visible j) (λ e. refl) (user_visible j)
  user_visible (TableTaken n q s ∷ j) = kept_or_not (bytes_eq n user) (λ k. has_user c k user) (λ k. has_user b k user) (TableTaken n q s) (see j) j (user_visible j) (λ e. refl) (user_visible j)
  user_visible (TableMade s time v ∷ j) = user_visible j
  user_visible (TableDropped s ∷ j) = user_visible j
  user_visible (ConstraintsSet s cs ∷ j) = user_visible j
  user_visible (VersionsSet s many ∷ j) = user_visible j
  user_visible (HorizonSet s low ∷ j) = user_visible j
  user_visible (Written s row ps ∷ j) = any_or_none (λ k. has_user c k user) s row (filter (may_read held) ps) (see j) (λ x qs. refl) ∙ user_visible j

  pub auths_visible : (j : List Change) → held_auths c (see j) user ≡ held_auths b j user
  unfolding held_auths
  auths_visible [] = refl
  auths_visible (UserMade n ∷ j) = kept_or_not (bytes_eq n user) (λ k. held_auths c k user) (λ k. held_auths b k user) (UserMade n) (see j) j (ap (cond (bytes_eq n user) []) (auths_visible j)) (λ e. rw e refl) (auths_visible j)
  auths_visible (UserDropped n ∷ j) = kept_or_not (bytes_eq n user) (λ k. held_auths c k user) (λ k. held_auths b k user) (UserDropped n) (see j) j (ap (cond (bytes_eq n user) []) (auths_visible j)) (λ e. rw e refl) (auths_visible j)
  auths_visible (AuthsSet n set ∷ j) = kept_or_not (bytes_eq n user) (λ k. held_auths c k user) (λ k. held_auths b k user) (AuthsSet n set) (see j) j (ap (cond (bytes_eq n user) set) (auths_visible j)) (λ e. rw e refl) (auths_visible j)
  auths_visible (SystemGiven n q ∷ j) = kept_or_not (bytes_eq n user) (λ k. held_auths c k user) (λ k. held_auths b k user) (SystemGiven n q) (see j) j (auths_visible j) (λ e. refl) (auths_visible j)
  auths_visible (SystemTaken n q ∷ j) = kept_or_not (bytes_eq n user) (λ k. held_auths c k user) (λ k. held_auths b k user) (SystemTaken n q) (see j) j (auths_visible j) (λ e. refl) (auths_visible j)
  auths_visible (TableGiven n q s ∷ j) = kept_or_not (bytes_eq n user) (λ k. held_auths c k user) (λ k. held_auths b k user) (TableGiven n q s) (see j) j (auths_visible j) (λ e. refl) (auths_visible j)
  auths_visible (TableTaken n q s ∷ j) = kept_or_not (bytes_eq n user) (λ k. held_auths c k user) (λ k. held_auths b k user) (TableTaken n q s) (see j) j (auths_visible j) (λ e. refl) (auths_visible j)
  auths_visible (TableMade s time v ∷ j) = auths_visible j
  auths_visible (TableDropped s ∷ j) = auths_visible j
  auths_visible (ConstraintsSet s cs ∷ j) = auths_visible j
  auths_visible (VersionsSet s many ∷ j) = auths_visible j
  auths_visible (HorizonSet s low ∷ j) = auths_visible j
  auths_visible (Written s row ps ∷ j) = any_or_none (λ k. held_auths c k user) s row (filter (may_read held) ps) (see j) (λ x qs. refl) ∙ auths_visible j

  -- ---- his rights
  pub system_visible : (p : SystemPermission) (j : List Change) → has_system_right c (see j) user p ≡ has_system_right b j user p
  unfolding has_system_right
  system_visible p [] = refl
  system_visible p (UserMade n ∷ j) = kept_or_not (bytes_eq n user) (λ k. has_system_right c k user p) (λ k. has_system_right b k user p) (UserMade n) (see j) j (ap (cond (bytes_eq n user) false) (system_visible p j)) (λ e. rw e refl) (system_visible p j)
  system_visible p (UserDropped n ∷ j) = kept_or_not (bytes_eq n user) (λ k. has_system_right c k user p) (λ k. has_system_right b k user p) (UserDropped n) (see j) j (ap (cond (bytes_eq n user) false) (system_visible p j)) (λ e. rw e refl) (system_visible p j)
  system_visible p (AuthsSet n set ∷ j) = kept_or_not (bytes_eq n user) (λ k. has_system_right c k user p) (λ k. has_system_right b k user p) (AuthsSet n set) (see j) j (system_visible p j) (λ e. refl) (system_visible p j)
  system_visible p (SystemGiven n q ∷ j) = kept_or_not (bytes_eq n user) (λ k. has_system_right c k user p) (λ k. has_system_right b k user p) (SystemGiven n q) (see j) j (ap (cond (bytes_eq n user && same_system q p) true) (system_visible p j)) (λ e. rw e refl) (system_visible p j)
  system_visible p (SystemTaken n q ∷ j) = kept_or_not (bytes_eq n user) (λ k. has_system_right c k user p) (λ k. has_system_right b k user p) (SystemTaken n q) (see j) j (ap (cond (bytes_eq n user && same_system q p) false) (system_visible p j)) (λ e. rw e refl) (system_visible p j)
  system_visible p (TableGiven n q s ∷ j) = kept_or_not (bytes_eq n user) (λ k. has_system_right c k user p) (λ k. has_system_right b k user p) (TableGiven n q s) (see j) j (system_visible p j) (λ e. refl) (system_visible p j)
  system_visible p (TableTaken n q s ∷ j) = kept_or_not (bytes_eq n user) (λ k. has_system_right c k user p) (λ k. has_system_right b k user p) (TableTaken n q s) (see j) j (system_visible p j) (λ e. refl) (system_visible p j)
  system_visible p (TableMade s time v ∷ j) = system_visible p j
  system_visible p (TableDropped s ∷ j) = system_visible p j
  system_visible p (ConstraintsSet s cs ∷ j) = system_visible p j
  system_visible p (VersionsSet s many ∷ j) = system_visible p j
  system_visible p (HorizonSet s low ∷ j) = system_visible p j
  system_visible p (Written s row ps ∷ j) = any_or_none (λ k. has_system_right c k user p) s row (filter (may_read held) ps) (see j) (λ x qs. refl) ∙ system_visible p j

  pub table_visible : (p : TablePermission) (t : List ℕ) (j : List Change) → has_table_right c (see j) user p t ≡ has_table_right b j user p t
  unfolding has_table_right
  table_visible p t [] = refl
  table_visible p t (UserMade n ∷ j) = kept_or_not (bytes_eq n user) (λ k. has_table_right c k user p t) (λ k. has_table_right b k user p t) (UserMade n) (see j) j (ap (cond (bytes_eq n user) false) (table_visible p t j)) (λ e. rw e refl) (table_visible p t j)
  table_visible p t (UserDropped n ∷ j) = kept_or_not (bytes_eq n user) (λ k. has_table_right c k user p t) (λ k. has_table_right b k user p t) (UserDropped n) (see j) j (ap (cond (bytes_eq n user) false) (table_visible p t j)) (λ e. rw e refl) (table_visible p t j)
  table_visible p t (AuthsSet n set ∷ j) = kept_or_not (bytes_eq n user) (λ k. has_table_right c k user p t) (λ k. has_table_right b k user p t) (AuthsSet n set) (see j) j (table_visible p t j) (λ e. refl) (table_visible p t j)
  table_visible p t (SystemGiven n q ∷ j) = kept_or_not (bytes_eq n user) (λ k. has_table_right c k user p t) (λ k. has_table_right b k user p t) (SystemGiven n q) (see j) j (table_visible p t j) (λ e. refl) (table_visible p t j)
  table_visible p t (SystemTaken n q ∷ j) = kept_or_not (bytes_eq n user) (λ k. has_table_right c k user p t) (λ k. has_table_right b k user p t) (SystemTaken n q) (see j) j (table_visible p t j) (λ e. refl) (table_visible p t j)
  table_visible p t (TableGiven n q s ∷ j) = kept_or_not (bytes_eq n user) (λ k. has_table_right c k user p t) (λ k. has_table_right b k user p t) (TableGiven n q s) (see j) j (ap (cond (bytes_eq n user && (same_table q p && bytes_eq s t)) true) (table_visible p t j)) (λ e. rw e refl) (table_visible p t j)
  table_visible p t (TableTaken n q s ∷ j) = kept_or_not (bytes_eq n user) (λ k. has_table_right c k user p t) (λ k. has_table_right b k user p t) (TableTaken n q s) (see j) j (ap (cond (bytes_eq n user && (same_table q p && bytes_eq s t)) false) (table_visible p t j)) (λ e. rw e refl) (table_visible p t j)
  table_visible p t (TableMade s time v ∷ j) = ap (cond (bytes_eq s t) false) (table_visible p t j)
  table_visible p t (TableDropped s ∷ j) = ap (cond (bytes_eq s t) false) (table_visible p t j)
  table_visible p t (ConstraintsSet s cs ∷ j) = table_visible p t j
  table_visible p t (VersionsSet s many ∷ j) = table_visible p t j
  table_visible p t (HorizonSet s low ∷ j) = table_visible p t j
  table_visible p t (Written s row ps ∷ j) = any_or_none (λ k. has_table_right c k user p t) s row (filter (may_read held) ps) (see j) (λ x qs. refl) ∙ table_visible p t j

  -- ---- tables
  pub settings_visible : (t : List ℕ) (j : List Change) → settings_of c (see j) t ≡ settings_of b j t
  unfolding settings_of
  settings_visible t [] = base_settings_seen held b t
  settings_visible t (UserMade n ∷ j) = kept_or_not (bytes_eq n user) (λ k. settings_of c k t) (λ k. settings_of b k t) (UserMade n) (see j) j (settings_visible t j) (λ e. refl) (settings_visible t j)
  settings_visible t (UserDropped n ∷ j) = kept_or_not (bytes_eq n user) (λ k. settings_of c k t) (λ k. settings_of b k t) (UserDropped n) (see j) j (settings_visible t j) (λ e. refl) (settings_visible t j)
  settings_visible t (AuthsSet n set ∷ j) = kept_or_not (bytes_eq n user) (λ k. settings_of c k t) (λ k. settings_of b k t) (AuthsSet n set) (see j) j (settings_visible t j) (λ e. refl) (settings_visible t j)
  settings_visible t (SystemGiven n q ∷ j) = kept_or_not (bytes_eq n user) (λ k. settings_of c k t) (λ k. settings_of b k t) (SystemGiven n q) (see j) j (settings_visible t j) (λ e. refl) (settings_visible t j)
  settings_visible t (SystemTaken n q ∷ j) = kept_or_not (bytes_eq n user) (λ k. settings_of c k t) (λ k. settings_of b k t) (SystemTaken n q) (see j) j (settings_visible t j) (λ e. refl) (settings_visible t j)
  settings_visible t (TableGiven n q s ∷ j) = kept_or_not (bytes_eq n user) (λ k. settings_of c k t) (λ k. settings_of b k t) (TableGiven n q s) (see j) j (settings_visible t j) (λ e. refl) (settings_visible t j)
  settings_visible t (TableTaken n q s ∷ j) = kept_or_not (bytes_eq n user) (λ k. settings_of c k t) (λ k. settings_of b k t) (TableTaken n q s) (see j) j (settings_visible t j) (λ e. refl) (settings_visible t j)
  settings_visible t (TableMade s time v ∷ j) = ap (cond (bytes_eq s t) (Some (made_with time v))) (settings_visible t j)
  settings_visible t (TableDropped s ∷ j) = ap (cond (bytes_eq s t) None) (settings_visible t j)
  settings_visible t (ConstraintsSet s cs ∷ j) = ap (λ (x : Option Settings). cond (bytes_eq s t) (constrained cs x) x) (settings_visible t j)
  settings_visible t (VersionsSet s many ∷ j) = ap (λ (x : Option Settings). cond (bytes_eq s t) (limited many x) x) (settings_visible t j)
  settings_visible t (HorizonSet s low ∷ j) = ap (λ (x : Option Settings). cond (bytes_eq s t) (closed_below low x) x) (settings_visible t j)
  settings_visible t (Written s row ps ∷ j) = any_or_none (λ k. settings_of c k t) s row (filter (may_read held) ps) (see j) (λ x qs. refl) ∙ settings_visible t j

  -- all that the checks of his events look at is the same
  pub standing_visible : (j : List Change) → standing c (see j) user ≡ standing b j user
  unfolding standing
  standing_visible j = λ i. record {
    policy = record { known = user_visible j i; system = λ p. bytes_eq user root || system_visible p j i; table = λ p t. table_visible p t j i; exists = λ t. is_some (settings_visible t j i) };
    auths = auths_visible j i;
    settings = λ t. settings_visible t j i;
  }
