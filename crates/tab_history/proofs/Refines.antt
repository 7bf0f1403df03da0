-- Worlds of which one refines the other answer alike, and go on doing so.
use Rattle.std.proofs.Common.{◌≡◌, ℕ, ◌+◌, ◌-◌, ◌≤◌, List, [], ◌∷◌, ◌++◌, Bool, true, false, cond, refl, sym, ◌∙◌, ap, subst, arith}
use Rattle.std.specs.Prelude.{ℤ, int_le, bytes_eq, Option, Some, None, unwrap_or}
use Rattle.std.proofs.lemmas.Int.{ints}
use Rattle.std.specs.Cmp.Lexicographic.{bytes_decides}
use Rattle.tab_key.specs.Records.{Record}
use Rattle.tab_key.specs.Sorted.{IsIn}
use Rattle.tab_history.specs.Bases.{Base}
use Rattle.tab_cells.specs.Written.{TimedUpdate, records_of}
use Rattle.tab_history.specs.Changes.{Change, UserMade, UserDropped, AuthsSet, SystemGiven, SystemTaken, TableGiven, TableTaken, TableMade, TableDropped, ConstraintsSet, VersionsSet, HorizonSet, Written}
use Rattle.tab_history.specs.Held.{floor_of, RefinesTable}
use Rattle.tab_history.specs.Histories.{World}
use Rattle.tab_history.specs.Readings.{has_user, user_count, held_auths, has_system_right, has_table_right, table_count, constrained, limited, closed_below, settings_of, next_number, updates_of}
use Rattle.tab_history.specs.Settings.{Settings, made_with}
use Rattle.tab_history.specs.Refinement.{Refines}
use Rattle.tab_history.proofs.Holds.{holds_nothing, holds_higher, holds_fewer, holds_beside, holds_written}
use Rattle.tab_rules.specs.declared.constraint.Constraint.{Constraint}
use Rattle.tab_history.specs.declared.event.TimeMode.{TimeMode}
use Rattle.tab_history.specs.declared.event.TimeMode.TheVariants.{Any, Server}
use Rattle.tab_policy.specs.declared.permission.SystemPermission.{SystemPermission}
use Rattle.tab_policy.specs.declared.permission.TablePermission.{TablePermission}

-- ---- one more change on both sides: what is read of users, rights and settings
module _ (a b : Base) (i j : List Change) where
  next_more : next_number a i ≡ next_number b j → (x : Change) → next_number a (x ∷ i) ≡ next_number b (x ∷ j)
  unfolding next_number
  next_more e (Written s row ps) = ap (λ n. n + 1) e
  next_more e _ = e

  users_more : user_count a i ≡ user_count b j → (x : Change) → user_count a (x ∷ i) ≡ user_count b (x ∷ j)
  unfolding user_count
  users_more e (UserMade m) = ap (λ n. n + 1) e
  users_more e (UserDropped m) = ap (λ n. n - 1) e
  users_more e _ = e

  table_count_more : table_count a i ≡ table_count b j → (x : Change) → table_count a (x ∷ i) ≡ table_count b (x ∷ j)
  unfolding table_count
  table_count_more e (TableMade s time v) = ap (λ n. n + 1) e
  table_count_more e (TableDropped s) = ap (λ n. n - 1) e
  table_count_more e _ = e

  known_more : (n : List ℕ) → has_user a i n ≡ has_user b j n → (x : Change) → has_user a (x ∷ i) n ≡ has_user b (x ∷ j) n
  unfolding has_user
  known_more n e (UserMade m) = rw e refl
  known_more n e (UserDropped m) = rw e refl
  known_more n e _ = e

  auths_more : (n : List ℕ) → held_auths a i n ≡ held_auths b j n → (x : Change) → held_auths a (x ∷ i) n ≡ held_auths b (x ∷ j) n
  unfolding held_auths
  auths_more n e (UserMade m) = rw e refl
  auths_more n e (UserDropped m) = rw e refl
  auths_more n e (AuthsSet m set) = rw e refl
  auths_more n e _ = e

  system_more : (n : List ℕ) (p : SystemPermission) → has_system_right a i n p ≡ has_system_right b j n p → (x : Change) → has_system_right a (x ∷ i) n p ≡ has_system_right b (x ∷ j) n p
  unfolding has_system_right
  system_more n p e (UserMade m) = rw e refl
  system_more n p e (UserDropped m) = rw e refl
  system_more n p e (SystemGiven m q) = rw e refl
  system_more n p e (SystemTaken m q) = rw e refl
  system_more n p e _ = e

  rights_more : (n : List ℕ) (p : TablePermission) (t : List ℕ) → has_table_right a i n p t ≡ has_table_right b j n p t → (x : Change) → has_table_right a (x ∷ i) n p t ≡ has_table_right b (x ∷ j) n p t
  unfolding has_table_right
  rights_more n p t e (UserMade m) = rw e refl
  rights_more n p t e (UserDropped m) = rw e refl
  rights_more n p t e (TableGiven m q s) = rw e refl
  rights_more n p t e (TableTaken m q s) = rw e refl
  rights_more n p t e (TableMade s time v) = rw e refl
  rights_more n p t e (TableDropped s) = rw e refl
  rights_more n p t e _ = e

  settings_more : (t : List ℕ) → settings_of a i t ≡ settings_of b j t → (x : Change) → settings_of a (x ∷ i) t ≡ settings_of b (x ∷ j) t
  unfolding settings_of
  settings_more t e (TableMade s time v) = ap (cond (bytes_eq s t) (Some (made_with time v))) e
  settings_more t e (TableDropped s) = ap (cond (bytes_eq s t) None) e
  settings_more t e (ConstraintsSet s cs) = λ k. cond (bytes_eq s t) (constrained cs (e k)) (e k)
  settings_more t e (VersionsSet s many) = λ k. cond (bytes_eq s t) (limited many (e k)) (e k)
  settings_more t e (HorizonSet s low) = λ k. cond (bytes_eq s t) (closed_below low (e k)) (e k)
  settings_more t e _ = e

-- ---- and the records of a table
abbrev pub table_floor : Settings → ℤ → ℤ
table_floor s clock = floor_of s.time clock s.horizon

-- what an accepted event's change keeps to, where the clock is this
abbrev pub Fits : Base → List Change → ℤ → Change → Type 0
Fits b j now (Written t row ps) = (s : Settings) → settings_of b j t ≡ Some s → (u : Record) → IsIn (records_of (next_number b j) row ps) u → int_le (table_floor s now) u.key.timestamp ≡ true
Fits b j now (VersionsSet t many) = (s : Settings) → settings_of b j t ≡ Some s → many ≤ s.versions
Fits b j now (HorizonSet t low) = (s : Settings) → settings_of b j t ≡ Some s → int_le s.horizon low ≡ true
Fits b j now _ = Unit {0}

abbrev pub FitAll : Base → List Change → ℤ → List Change → Type 0
FitAll b j now [] = Unit {0}
FitAll b j now (x ∷ xs) = FitAll b j now xs × Fits b (xs ++ j) now x

pub same_some : {X : Type 0} (x y : X) → Some x ≡ Some y → x ≡ y
same_some x y e = ap (λ o. unwrap_or o x) e

pub none_some : {X G : Type 0} (x : X) → None ≡ Some x → G
none_some x e = absurd (cc)

pub floor_later : (time : TimeMode) (clock later horizon : ℤ) → int_le clock later ≡ true → int_le (floor_of time clock horizon) (floor_of time later horizon) ≡ true
floor_later Any clock later horizon le = grind (arith, ints)
floor_later Server clock later horizon le = le

-- the held and the accepted records of t in two worlds, by the settings
abbrev pub Holding : List Record → List Record → ℕ → ℤ → Option Settings → Type 0
Holding held us next now o = (s : Settings) → o ≡ Some s → RefinesTable held us next s.versions (table_floor s now)

abbrev Tables : Base → List Change → Base → List Change → ℤ → List ℕ → Type 0
Tables a i b j now t = Holding (updates_of a i t) (updates_of b j t) (next_number b j) now (settings_of b j t)

pub made_more : (v : Bool) (fresh : Settings) (held us : List Record) (next : ℕ) (now : ℤ) (o : Option Settings) → Holding held us next now o → Holding (cond v [] held) (cond v [] us) next now (cond v (Some fresh) o)
made_more true fresh held us next now o h s e = holds_nothing next s.versions (table_floor s now)
made_more false fresh held us next now o h s e = h s e

pub dropped_more : (v : Bool) (held us : List Record) (next : ℕ) (now : ℤ) (o : Option Settings) → Holding held us next now o → Holding (cond v [] held) (cond v [] us) next now (cond v None o)
dropped_more true held us next now o h s e = none_some s e
dropped_more false held us next now o h s e = h s e

pub constraints_more : (v : Bool) (cs : List Constraint) (held us : List Record) (next : ℕ) (now : ℤ) (o : Option Settings) → Holding held us next now o → Holding held us next now (cond v (constrained cs o) o)
constraints_more false cs held us next now o h s e = h s e
constraints_more true cs held us next now None h s e = none_some s e
constraints_more true cs held us next now (Some x) h s e = subst (λ (y : Settings). RefinesTable held us next y.versions (table_floor y now)) (same_some (record x { constraints = cs }) s e) (h x refl)

pub versions_more : (v : Bool) (many : ℕ) (held us : List Record) (next : ℕ) (now : ℤ) (o : Option Settings) → (v ≡ true → (s : Settings) → o ≡ Some s → many ≤ s.versions) → Holding held us next now o → Holding held us next now (cond v (limited many o) o)
versions_more false many held us next now o fit h s e = h s e
versions_more true many held us next now None fit h s e = none_some s e
versions_more true many held us next now (Some x) fit h s e = subst (λ (y : Settings). RefinesTable held us next y.versions (table_floor y now)) (same_some (record x { versions = many }) s e) (holds_fewer held us next x.versions many (table_floor x now) (fit refl x refl) (h x refl))

-- a horizon that rises lowers no floor
pub floor_raised : (time : TimeMode) (now horizon low : ℤ) → int_le horizon low ≡ true → int_le (floor_of time now horizon) (floor_of time now low) ≡ true
floor_raised Any now horizon low le = le
floor_raised Server now horizon low le = grind (arith, ints)

pub horizon_more : (v : Bool) (low : ℤ) (held us : List Record) (next : ℕ) (now : ℤ) (o : Option Settings) → (v ≡ true → (s : Settings) → o ≡ Some s → int_le s.horizon low ≡ true) → Holding held us next now o → Holding held us next now (cond v (closed_below low o) o)
horizon_more false low held us next now o fit h s e = h s e
horizon_more true low held us next now None fit h s e = none_some s e
horizon_more true low held us next now (Some x) fit h s e = subst (λ (y : Settings). RefinesTable held us next y.versions (table_floor y now)) (same_some (record x { horizon = low }) s e) (holds_higher held us next x.versions (table_floor x now) (floor_of x.time now low) (floor_raised x.time now x.horizon low (fit refl x refl)) (h x refl))

pub written_more : (v : Bool) (row : List ℕ) (ps : List TimedUpdate) (held us : List Record) (next : ℕ) (now : ℤ) (o : Option Settings) → (v ≡ true → (s : Settings) → o ≡ Some s → (u : Record) → IsIn (records_of next row ps) u → int_le (table_floor s now) u.key.timestamp ≡ true)
    → Holding held us next now o → Holding (cond v (records_of next row ps ++ held) held) (cond v (records_of next row ps ++ us) us) (next + 1) now o
written_more true row ps held us next now o fit h s e = holds_written held us next s.versions (table_floor s now) row ps (fit refl s e) (h s e)
written_more false row ps held us next now o fit h s e = holds_beside held us next s.versions (table_floor s now) (h s e)

tables_more : (a b : Base) (i j : List Change) (now : ℤ) (t : List ℕ) → next_number a i ≡ next_number b j → (x : Change) → Fits b j now x → Tables a i b j now t → Tables a (x ∷ i) b (x ∷ j) now t
unfolding updates_of settings_of next_number
tables_more a b i j now t n (Written s row ps) fit h =
    subst (λ k. Holding (cond (bytes_eq s t) (records_of k row ps ++ updates_of a i t) (updates_of a i t)) (cond (bytes_eq s t) (records_of (next_number b j) row ps ++ updates_of b j t) (updates_of b j t)) (next_number b j + 1) now (settings_of b j t)) (sym n)
    (written_more (bytes_eq s t) row ps (updates_of a i t) (updates_of b j t) (next_number b j) now (settings_of b j t) (λ e x q. fit x (ap (settings_of b j) ((bytes_decides s t).0 e) ∙ q)) h)
tables_more a b i j now t n (TableMade s time v) fit h = made_more (bytes_eq s t) _ (updates_of a i t) (updates_of b j t) (next_number b j) now (settings_of b j t) h
tables_more a b i j now t n (TableDropped s) fit h = dropped_more (bytes_eq s t) (updates_of a i t) (updates_of b j t) (next_number b j) now (settings_of b j t) h
tables_more a b i j now t n (ConstraintsSet s cs) fit h = constraints_more (bytes_eq s t) cs (updates_of a i t) (updates_of b j t) (next_number b j) now (settings_of b j t) h
tables_more a b i j now t n (VersionsSet s many) fit h = versions_more (bytes_eq s t) many (updates_of a i t) (updates_of b j t) (next_number b j) now (settings_of b j t) (λ e x q. fit x (ap (settings_of b j) ((bytes_decides s t).0 e) ∙ q)) h
tables_more a b i j now t n (HorizonSet s low) fit h = horizon_more (bytes_eq s t) low (updates_of a i t) (updates_of b j t) (next_number b j) now (settings_of b j t) (λ e x q. fit x (ap (settings_of b j) ((bytes_decides s t).0 e) ∙ q)) h
tables_more a b i j now t n _ fit h = h

-- ---- one more change, several, and a later clock
abbrev pub with_changes : List Change → World → World
with_changes xs w = record w { changes = xs ++ w.changes }

abbrev pub at_clock : ℤ → World → World
at_clock now w = record w { clock = now }

add_one : (v w : World) (x : Change) → Fits w.base w.changes w.clock x → Refines v w → Refines (with_changes (x ∷ []) v) (with_changes (x ∷ []) w)
add_one v w x fit h = record {
  reads = record {
    clock = h.reads.clock;
    next = next_more v.base w.base v.changes w.changes h.reads.next x;
    users = users_more v.base w.base v.changes w.changes h.reads.users x;
    tables = table_count_more v.base w.base v.changes w.changes h.reads.tables x;
    known = λ n. known_more v.base w.base v.changes w.changes n (h.reads.known n) x;
    auths = λ n. auths_more v.base w.base v.changes w.changes n (h.reads.auths n) x;
    system = λ n p. system_more v.base w.base v.changes w.changes n p (h.reads.system n p) x;
    rights = λ n p t. rights_more v.base w.base v.changes w.changes n p t (h.reads.rights n p t) x;
    settings = λ t. settings_more v.base w.base v.changes w.changes t (h.reads.settings t) x;
  };
  tables = λ t. tables_more v.base w.base v.changes w.changes w.clock t h.reads.next x fit (h.tables t);
}

pub add_all : (v w : World) (xs : List Change) → FitAll w.base w.changes w.clock xs → Refines v w → Refines (with_changes xs v) (with_changes xs w)
add_all v w [] fit h = h
add_all v w (x ∷ xs) fit h = add_one (with_changes xs v) (with_changes xs w) x fit.1 (add_all v w xs fit.0 h)

pub later : (v w : World) (now : ℤ) → int_le w.clock now ≡ true → Refines v w → Refines (at_clock now v) (at_clock now w)
later v w now le h = record {
  reads = record {
    clock = refl;
    next = h.reads.next;
    users = h.reads.users;
    tables = h.reads.tables;
    known = h.reads.known;
    auths = h.reads.auths;
    system = h.reads.system;
    rights = h.reads.rights;
    settings = h.reads.settings;
  };
  tables = λ t s e. holds_higher (updates_of v.base v.changes t) (updates_of w.base w.changes t) (next_number w.base w.changes) s.versions (floor_of s.time w.clock s.horizon) (floor_of s.time now s.horizon) (floor_later s.time w.clock now s.horizon le) (h.tables t s e);
}
