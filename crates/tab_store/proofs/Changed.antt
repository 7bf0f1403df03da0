-- A change of one table, as an exact step of a core and as histories read it.
use Rattle.std.proofs.Common.{◌≡◌, ◌+◌, ◌-◌, ◌<◌, ℕ, length, Bool, true, false, cond, List, [], ◌∷◌, refl, sym, ap, ◌∙◌, subst, arith}
use Rattle.std.specs.Prelude.{ℤ, Option, Some, None, map, bytes_eq, is_some, Contains}
use Rattle.std.specs.Option.{option_map}
use Rattle.std.proofs.lemmas.List.{length-map}
use Rattle.std.proofs.lemmas.Slice.Eq.{bytes_eq-Decides}
use Rattle.tab_key.specs.Records.{Record}
use Rattle.tab_key.specs.Sorted.{sorted}
use Rattle.tab_key.proofs.Rising.{in_from}
use Rattle.tab_mutation.specs.Mutations.{Mutation}
use Rattle.tab_cells.specs.Written.{mutation_records}
use Rattle.tab_cells.specs.declared.compaction.Compaction.{Compaction}
use Rattle.tab_tablets.specs.Tablets.{Tablet, written, frozen, compacted}
use Rattle.tab_tablets.specs.ByRow.{at_row, records_of_all}
use Rattle.tab_tablets.specs.Parts.{TabletMerge, begins_at, installs_in}
use Rattle.tab_tablets.specs.Splits.{splits, halves}
use Rattle.tab_history.specs.Settings.{Settings, made_with}
use Rattle.tab_history.specs.Held.{floor_of}
use Rattle.tab_history.specs.Readings.{settings_of, updates_of, table_count, constrained, limited, closed_below}
use Rattle.tab_history.specs.Answers.{Told}
use Rattle.tab_history.specs.declared.event.TimeMode.{TimeMode}
use Rattle.tab_store.specs.declared.setting.Setting.{Setting}
use Rattle.tab_store.specs.declared.setting.Setting.TheVariants.{Constraints, Versions, Horizon}
use Rattle.tab_store.specs.Stores.{TableContents, CoreContents, base_of, base_table_of, table_in, tablets_found, tablets_in}
use Rattle.tab_store.specs.Stepping.{TabletWork, Freezing, Writing, Compacting, Counting, Splitting, Halving, Listing, Beginning, Installing, Making, Dropping, On, place_of, told_job, told_install, begun_by, lays, lays_in, told_by, laid_by, job_by}
use Rattle.tab_store.specs.Keeping.{settings_in}
use Rattle.tab_store.specs.Rightness.{IsStore}
use Rattle.tab_store.specs.Tables.{TableState, made_table, with_tablets, with_setting, state_of, table_at, changed_table, settings_at, tablets_of, begun_in}
use Rattle.tab_store.proofs.Reading.{bases_read}

-- ---- what is read of a table
found_tablets : (o : Option TableContents) → tablets_found o ≡ tablets_of (option_map state_of o)
found_tablets None = refl
found_tablets (Some t) = refl

found_settings : (o : Option TableContents) → settings_in o ≡ settings_at (option_map state_of o)
found_settings None = refl
found_settings (Some t) = refl

-- its tablets
pub tablets_read : (h : CoreContents) (q : List ℕ) → tablets_in h q ≡ tablets_of (table_at h.tables q)
tablets_read h q = found_tablets (table_in h q)

-- what it is set to
pub settings_read : (h : CoreContents) (q : List ℕ) → settings_of (base_of h) [] q ≡ settings_at (table_at h.tables q)
settings_read h q = (bases_read h q).0 ∙ found_settings (table_in h q)

-- the records that histories read of it
pub records_read : (h : CoreContents) (q : List ℕ) → updates_of (base_of h) [] q ≡ sorted (records_of_all (tablets_of (table_at h.tables q)))
records_read h q = (bases_read h q).1 ∙ ap (λ ts. sorted (records_of_all ts)) (tablets_read h q)

-- and how many there are
pub count_read : (h : CoreContents) → table_count (base_of h) [] ≡ length h.tables
unfolding table_count
count_read h = length-map h.tables base_table_of

-- the number of the next write is above those of all records of a store
pub next_unused : (h : CoreContents) → IsStore h → (q : List ℕ) (u : Record) → Contains (records_of_all (tablets_of (table_at h.tables q))) u → u.seq < h.next
next_unused h store q u c = go (table_in h q) refl c
  where
    go : (o : Option TableContents) → table_in h q ≡ o → Contains (records_of_all (tablets_of (option_map state_of o))) u → u.seq < h.next
    go None e k = absurd (in_from [] u k)
    go (Some t) e k = (store.tables q t e).numbered u k

-- what histories read of a table that is set so
abbrev pub read_so : Setting → Option Settings → Option Settings
read_so (Constraints cs) = constrained cs
read_so (Versions many) = limited many
read_so (Horizon low) = closed_below low

-- ---- one core and the next one
same_either : {X : Type 0} (v : Bool) (x : X) → x ≡ cond v x x
same_either true x = refl
same_either false x = refl

module _ (old new : CoreContents) (t : List ℕ) where
  -- the table t is put in its place or taken away, and all others stay
  abbrev pub Renews : Option TableState → Type 0
  Renews o = (q : List ℕ) → table_at new.tables q ≡ cond (bytes_eq t q) o (table_at old.tables q)

  -- the table t is changed so, if it is there, and all others stay
  abbrev pub Changes : (TableState → TableState) → Type 0
  Changes f = (q : List ℕ) → table_at new.tables q ≡ changed_table t f old.tables q

  -- ---- its tablets
  renewed : (o : Option TableState) → Renews o → (q : List ℕ) → tablets_in new q ≡ cond (bytes_eq t q) (tablets_of o) (tablets_in old q)
  renewed o f q = tablets_read new q ∙ ap tablets_of (f q) ∙ go (bytes_eq t q)
    where
      go : (v : Bool) → tablets_of (cond v o (table_at old.tables q)) ≡ cond v (tablets_of o) (tablets_in old q)
      go true = refl
      go false = sym (tablets_read old q)

  -- where f leaves them
  pub tablets_kept : (f : TableState → TableState) → ((s : TableState) → (f s).tablets ≡ s.tablets) → Changes f → (q : List ℕ) → tablets_in new q ≡ tablets_in old q
  tablets_kept f same g q = tablets_read new q ∙ ap tablets_of (g q) ∙ go (bytes_eq t q) (table_at old.tables q) ∙ sym (tablets_read old q)
    where
      go : (v : Bool) (o : Option TableState) → tablets_of (cond v (option_map f o) o) ≡ tablets_of o
      go true None = refl
      go true (Some s) = same s
      go false o = refl

  module _ (now : ℤ) (plain : Told) where
    -- the tablets of each table are those that the work leaves
    abbrev worked_on : TabletWork → Option TableContents → List Tablet
    worked_on work o = (lays_in old now work plain o).1

    pub table_made : (time : TimeMode) (n : ℕ) → Renews (Some (made_table time n old.tablet)) → (q : List ℕ) → tablets_in new q ≡ laid_by old now (Making t) plain q
    table_made time n f = renewed (Some (made_table time n old.tablet)) f

    pub table_dropped : Renews None → (q : List ℕ) → tablets_in new q ≡ laid_by old now (Dropping t) plain q
    table_dropped f = renewed None f

    worked : (work : TabletWork) (f : TableState → TableState) → ((x : TableContents) → (f (state_of x)).tablets ≡ worked_on work (Some x)) → [] ≡ worked_on work None → Changes f
        → (q : List ℕ) → tablets_in new q ≡ laid_by old now (On t work) plain q
    worked work f some none g q = tablets_read new q ∙ ap tablets_of (g q) ∙ go (bytes_eq t q) (table_in old q)
      where
        go : (v : Bool) (o : Option TableContents) → tablets_of (cond v (option_map f (option_map state_of o)) (option_map state_of o)) ≡ cond v (worked_on work o) (tablets_found o)
        go true None = none
        go true (Some x) = some x
        go false None = refl
        go false (Some x) = refl

    pub table_written : (m : Mutation) → Changes (with_tablets (at_row m.row (λ x. written (mutation_records old.next now m) x ∷ []))) → (q : List ℕ) → tablets_in new q ≡ laid_by old now (On t (Writing m)) plain q
    unfolding lays
    table_written m = worked (Writing m) (with_tablets (at_row m.row (λ x. written (mutation_records old.next now m) x ∷ []))) (λ x. refl) refl

    pub table_frozen : Changes (with_tablets (map frozen)) → (q : List ℕ) → tablets_in new q ≡ laid_by old now (On t Freezing) plain q
    unfolding lays
    table_frozen = worked Freezing (with_tablets (map frozen)) (λ x. refl) refl

    pub table_compacted : (kind : Compaction) → Changes (λ s. with_tablets (map (compacted kind (floor_of s.settings.time now s.settings.horizon) s.settings.versions)) s) → (q : List ℕ) → tablets_in new q ≡ laid_by old now (On t (Compacting kind)) plain q
    unfolding lays
    table_compacted kind = worked (Compacting kind) (λ s. with_tablets (map (compacted kind (floor_of s.settings.time now s.settings.horizon) s.settings.versions)) s) (λ x. refl) refl

    pub table_split : (row : List ℕ) → Changes (with_tablets (λ ts. (splits row old.tablet ts).1)) → (q : List ℕ) → tablets_in new q ≡ laid_by old now (On t (Splitting row)) plain q
    unfolding lays
    table_split row = worked (Splitting row) (with_tablets (λ ts. (splits row old.tablet ts).1)) (λ x. refl) refl

    pub table_halved : (row : List ℕ) (limit : ℕ) → Changes (with_tablets (λ ts. (halves row limit old.tablet ts).1)) → (q : List ℕ) → tablets_in new q ≡ laid_by old now (On t (Halving row limit)) plain q
    unfolding lays
    table_halved row limit = worked (Halving row limit) (with_tablets (λ ts. (halves row limit old.tablet ts).1)) (λ x. refl) refl

    -- a merge begins
    pub table_begun : (row : List ℕ) (kind : Compaction) → Changes (λ s. with_tablets (begins_at row old.job kind (floor_of s.settings.time now s.settings.horizon) s.settings.versions) s)
        → (q : List ℕ) → tablets_in new q ≡ laid_by old now (On t (Beginning row kind)) plain q
    unfolding lays
    table_begun row kind = worked (Beginning row kind) (λ s. with_tablets (begins_at row old.job kind (floor_of s.settings.time now s.settings.horizon) s.settings.versions) s) (λ x. refl) refl

    -- one is installed
    pub table_installed : (m : TabletMerge) → Changes (with_tablets (λ ts. (installs_in m ts).1)) → (q : List ℕ) → tablets_in new q ≡ laid_by old now (On t (Installing (Some m))) plain q
    unfolding lays
    table_installed m = worked (Installing (Some m)) (with_tablets (λ ts. (installs_in m ts).1)) (λ x. refl) refl

    -- where none came to be installed they stay
    pub table_uninstalled : ((q : List ℕ) → tablets_in new q ≡ tablets_in old q) → (q : List ℕ) → tablets_in new q ≡ laid_by old now (On t (Installing None)) plain q
    unfolding lays
    table_uninstalled same q = same q ∙ same_either (bytes_eq t q) (tablets_in old q)

    -- counts leave them
    pub table_counted : ((q : List ℕ) → tablets_in new q ≡ tablets_in old q) → (q : List ℕ) → tablets_in new q ≡ laid_by old now (On t Counting) plain q
    unfolding lays
    table_counted same q = same q ∙ same_either (bytes_eq t q) (tablets_in old q)

    -- and so does who lists their end rows
    pub table_listed : ((q : List ℕ) → tablets_in new q ≡ tablets_in old q) → (q : List ℕ) → tablets_in new q ≡ laid_by old now (On t Listing) plain q
    unfolding lays
    table_listed same q = same q ∙ same_either (bytes_eq t q) (tablets_in old q)

  -- ---- what it is set to
  reset : (o : Option TableState) → Renews o → (q : List ℕ) → settings_of (base_of new) [] q ≡ cond (bytes_eq t q) (settings_at o) (settings_of (base_of old) [] q)
  reset o f q = settings_read new q ∙ ap settings_at (f q) ∙ go (bytes_eq t q)
    where
      go : (v : Bool) → settings_at (cond v o (table_at old.tables q)) ≡ cond v (settings_at o) (settings_of (base_of old) [] q)
      go true = refl
      go false = sym (settings_read old q)

  pub settings_made : (time : TimeMode) (n number : ℕ) → Renews (Some (made_table time n number)) → (q : List ℕ) → settings_of (base_of new) [] q ≡ cond (bytes_eq t q) (Some (made_with time n)) (settings_of (base_of old) [] q)
  settings_made time n number f = reset (Some (made_table time n number)) f

  pub settings_dropped : Renews None → (q : List ℕ) → settings_of (base_of new) [] q ≡ cond (bytes_eq t q) None (settings_of (base_of old) [] q)
  settings_dropped f = reset None f

  pub settings_set : (setting : Setting) → Changes (with_setting setting) → (q : List ℕ) → settings_of (base_of new) [] q ≡ cond (bytes_eq t q) (read_so setting (settings_of (base_of old) [] q)) (settings_of (base_of old) [] q)
  settings_set setting f q = settings_read new q ∙ ap settings_at (f q) ∙ go setting (bytes_eq t q) (table_at old.tables q) ∙ ap (λ s. cond (bytes_eq t q) (read_so setting s) s) (sym (settings_read old q))
    where
      go : (x : Setting) (v : Bool) (o : Option TableState) → settings_at (cond v (option_map (with_setting x) o) o) ≡ cond v (read_so x (settings_at o)) (settings_at o)
      go (Constraints cs) true None = refl
      go (Constraints cs) true (Some s) = refl
      go (Versions many) true None = refl
      go (Versions many) true (Some s) = refl
      go (Horizon low) true None = refl
      go (Horizon low) true (Some s) = refl
      go x false o = refl

  -- where f leaves it
  pub settings_kept : (f : TableState → TableState) → ((s : TableState) → (f s).settings ≡ s.settings) → Changes f → (q : List ℕ) → settings_of (base_of new) [] q ≡ settings_of (base_of old) [] q
  settings_kept f same g q = settings_read new q ∙ ap settings_at (g q) ∙ go (bytes_eq t q) (table_at old.tables q) ∙ sym (settings_read old q)
    where
      go : (v : Bool) (o : Option TableState) → settings_at (cond v (option_map f o) o) ≡ settings_at o
      go true None = refl
      go true (Some s) = ap Some (same s)
      go false o = refl

-- ---- merges that begin and are installed
module _ (old : CoreContents) (now : ℤ) (t : List ℕ) (plain : Told) where
  -- the one that begins
  pub begun_read : (row : List ℕ) (kind : Compaction) → begun_in row old.job kind now (table_at old.tables t) ≡ job_by old now (On t (Beginning row kind))
  begun_read row kind = go (table_in old t)
    where
      go : (o : Option TableContents) → begun_in row old.job kind now (option_map state_of o) ≡ begun_by (place_of old now o) (Beginning row kind) (tablets_found o)
      go None = refl
      go (Some x) = refl

  -- what is told of it
  pub begun_told : (row : List ℕ) (kind : Compaction) → told_job (begun_in row old.job kind now (table_at old.tables t)) ≡ told_by old now (On t (Beginning row kind)) plain
  unfolding lays
  begun_told row kind = ap told_job (begun_read row kind)

  -- and of one that is installed
  pub installed_told : (m : TabletMerge) → told_install plain (installs_in m (tablets_of (table_at old.tables t))).0 ≡ told_by old now (On t (Installing (Some m))) plain
  unfolding lays
  installed_told m = ap (λ ts. told_install plain (installs_in m ts).0) (sym (tablets_read old t))

-- ---- where tables read as before
module _ (old new : CoreContents) (same : (q : List ℕ) → table_at new.tables q ≡ table_at old.tables q) where
  pub tablets_same : (q : List ℕ) → tablets_in new q ≡ tablets_in old q
  tablets_same q = tablets_read new q ∙ ap tablets_of (same q) ∙ sym (tablets_read old q)

  pub settings_same : (q : List ℕ) → settings_of (base_of new) [] q ≡ settings_of (base_of old) [] q
  settings_same q = settings_read new q ∙ ap settings_at (same q) ∙ sym (settings_read old q)

-- ---- a table put in and taken away again
module _ (old mid after : List TableContents) (t : List ℕ) (s : TableState) (absent : is_some (table_at old t) ≡ false)
    (put : (q : List ℕ) → table_at mid q ≡ cond (bytes_eq t q) (Some s) (table_at old q)) (taken : (q : List ℕ) → table_at after q ≡ cond (bytes_eq t q) None (table_at mid q)) where
  pub tables_back : (q : List ℕ) → table_at after q ≡ table_at old q
  tables_back q = taken q ∙ ap (λ o. cond (bytes_eq t q) None o) (put q) ∙ go (bytes_eq t q) refl
    where
      none : (o : Option TableState) → is_some o ≡ false → None ≡ o
      none None h = refl
      none (Some x) h = absurd (cc)

      go : (v : Bool) → bytes_eq t q ≡ v → cond v None (cond v (Some s) (table_at old q)) ≡ table_at old q
      go true w = none (table_at old q) (subst (λ (n : List ℕ). is_some (table_at old n) ≡ false) ((bytes_eq-Decides t q).0 w) absent)
      go false w = refl

  pub count_back : length mid ≡ cond (is_some (table_at old t)) (length old) (length old + 1) → length after ≡ cond (is_some (table_at mid t)) (length mid - 1) (length mid) → length after ≡ length old
  count_back more fewer =
      let there : is_some (table_at mid t) ≡ true = ap is_some (put t ∙ ap (λ v. cond v (Some s) (table_at old t)) ((bytes_eq-Decides t t).1 refl)) in
      let grown : length mid ≡ length old + 1 = more ∙ ap (λ v. cond v (length old) (length old + 1)) absent in
      let shrunk : length after ≡ length mid - 1 = fewer ∙ ap (λ v. cond v (length mid - 1) (length mid)) there in
      omega (arith, grown, shrunk)
