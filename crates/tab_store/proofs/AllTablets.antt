-- What work does to the tablets of a table leaves each of them refining the updates in its rows, and all together refining all updates.
use Rattle.std.proofs.Common.{◌≡◌, inl, inr, ℕ, ◌+◌, List, [], ◌∷◌, ◌++◌, Bool, true, false, cond, not, refl, sym, ◌∙◌, ap, subst}
use Rattle.std.specs.Prelude.{ℤ, int_le, map, filter, reverse, Contains}
use mathlib.Core.Bool.{true≢false}
use Rattle.tab_key.specs.Records.{Record}
use Rattle.tab_key.specs.Sorted.{IsIn}
use Rattle.tab_key.proofs.Rising.{in_from, in_to, in_filter, distinct_filter}
use Rattle.tab_cells.specs.Written.{TimedUpdate, timed, records_of, mutation_records}
use Rattle.tab_cells.proofs.Lists.{filter_append}
use Rattle.tab_iter.proofs.ColumnLaws.{filter_none}
use Rattle.tab_tablets.specs.Tablets.{Tablet, is_up_to, records_in, written, frozen, compacted, begins}
use Rattle.tab_tablets.specs.Splitting.{split_at}
use Rattle.tab_history.specs.Held.{RefinesTable}
use Rattle.tab_history.proofs.Holds.{holds_nothing, holds_beside}
use Rattle.tab_tablets.specs.ByRow.{records_of_all, at_row, is_end, AreWhole}
use Rattle.tab_tablets.specs.Places.{IsPlaceOf, at_place}
use Rattle.tab_tablets.proofs.EndRows.{has_place, row_at_place, end_at_place}
use Rattle.tab_tablets.proofs.Whole.{whole_map, whole_one, whole_split as split_at_place}
use Rattle.tab_tablets.proofs.Rows.{mutation_rows}
use Rattle.tab_tablets.proofs.Merged.{compacted_end}
use Rattle.tab_store.specs.Stepping.{Freezing, Writing, Compacting, Counting, Splitting, Halving, Listing, Beginning, Installing, floor_at, lays}
use Rattle.tab_store.specs.Keeping.{TabletRefines, is_low, is_high, TabletsRefine, TabletsHoldAll, WorkKeeps, StaysWhole}
use Rattle.tab_store.proofs.ByRows.{joined_refines}
use Rattle.tab_store.proofs.OneTablet.{freezes_keep, writes_keep, compactions_keep, beginnings_keep, installs_keep}
use Rattle.tab_store.proofs.SplitTablets.{all_split}
use Rattle.tab_store.proofs.SplitCases.{after_split, after_halve}
use Rattle.tab_store.proofs.InstallCases.{with_merge, with_merge_end, after_install}
use Rattle.tab_store.proofs.Middles.{lies}

-- ---- filters
pub filter_all : (p : Record → Bool) (xs : List Record) → ((u : Record) → IsIn xs u → p u ≡ true) → filter p xs ≡ xs
filter_all p [] f = refl
filter_all p (x ∷ xs) f = rw (f x (inl refl)) (ap (λ l. x ∷ l) (filter_all p xs (λ u h. f u (inr h))))

-- ---- one tablet for one, with the same end row
all_map : (next n : ℕ) (floor : ℤ) (f : Tablet → Tablet) → ((t : Tablet) → (f t).end ≡ t.end) → ((t : Tablet) (us : List Record) → TabletRefines t us next n floor → TabletRefines (f t) us next n floor)
    → (ts : List Tablet) (us : List Record) → TabletsRefine ts us next n floor → TabletsRefine (map f ts) us next n floor
all_map next n floor f ends keeps [] us a = a
all_map next n floor f ends keeps (t ∷ ts) us a = (
  subst (λ e. TabletRefines (f t) (filter (is_low e) us) next n floor) (sym (ends t)) (keeps t (filter (is_low t.end) us) a.0),
  subst (λ e. TabletsRefine (map f ts) (filter (is_high e) us) next n floor) (sym (ends t)) (all_map next n floor f ends keeps ts (filter (is_high t.end) us) a.1),
)

-- at the tablet that holds a row alone
all_at : (next n : ℕ) (floor : ℤ) (row : List ℕ) (f : Tablet → Tablet) → ((t : Tablet) → (f t).end ≡ t.end) → ((t : Tablet) (us : List Record) → TabletRefines t us next n floor → TabletRefines (f t) us next n floor)
    → (ts : List Tablet) (us : List Record) → TabletsRefine ts us next n floor → TabletsRefine (at_row row (λ t. f t ∷ []) ts) us next n floor
all_at next n floor row f ends keeps [] us a = a
all_at next n floor row f ends keeps (t ∷ ts) us a = go (is_up_to t.end row) (all_at next n floor row f ends keeps ts (filter (is_high t.end) us) a.1)
  where
    go : (v : Bool) → TabletsRefine (at_row row (λ x. f x ∷ []) ts) (filter (is_high t.end) us) next n floor → TabletsRefine (cond v (f t ∷ ts) (t ∷ at_row row (λ x. f x ∷ []) ts)) us next n floor
    go true ih = (
      subst (λ e. TabletRefines (f t) (filter (is_low e) us) next n floor) (sym (ends t)) (keeps t (filter (is_low t.end) us) a.0),
      subst (λ e. TabletsRefine ts (filter (is_high e) us) next n floor) (sym (ends t)) a.1,
    )
    go false ih = (a.0, ih)

-- ---- one more number
one_more : (t : Tablet) (us : List Record) (next n : ℕ) (floor : ℤ) → TabletRefines t us next n floor → TabletRefines t us (next + 1) n floor
one_more t us next n floor h = record { refines = holds_beside (records_in t) us next n floor h.refines; jobs = h.jobs }

all_more : (ts : List Tablet) (us : List Record) (next n : ℕ) (floor : ℤ) → TabletsRefine ts us next n floor → TabletsRefine ts us (next + 1) n floor
all_more [] us next n floor a = a
all_more (t ∷ ts) us next n floor a = (one_more t (filter (is_low t.end) us) next n floor a.0, all_more ts (filter (is_high t.end) us) next n floor a.1)

-- ---- a write
module _ (row : List ℕ) (ps : List TimedUpdate) (next n : ℕ) (floor : ℤ) (recent : (u : Record) → Contains (records_of next row ps) u → int_le floor u.key.timestamp ≡ true) where
  abbrev new : List Record
  new = records_of next row ps

  -- the tablet that holds the row, and those behind it
  here_written : (t : Tablet) (ts : List Tablet) (us : List Record) → is_up_to t.end row ≡ true → TabletRefines t (filter (is_low t.end) us) next n floor → TabletsRefine ts (filter (is_high t.end) us) next n floor → TabletsRefine (written new t ∷ ts) (new ++ us) (next + 1) n floor
  here_written t ts us e h a = (
    subst (λ l. TabletRefines (written new t) l (next + 1) n floor) (sym low_are) (writes_keep t (filter (is_low t.end) us) next n floor row ps recent h),
    subst (λ l. TabletsRefine ts l (next + 1) n floor) (sym high_are) (all_more ts (filter (is_high t.end) us) next n floor a),
  )
    where
      up : (u : Record) → IsIn new u → is_up_to t.end u.key.row ≡ true
      up u h = subst (λ r. is_up_to t.end r ≡ true) (sym (mutation_rows next row ps u h)) e

      low_are : filter (is_low t.end) (new ++ us) ≡ new ++ filter (is_low t.end) us
      low_are = filter_append (is_low t.end) new us ∙ ap (λ l. l ++ filter (is_low t.end) us) (filter_all (is_low t.end) new up)

      high_are : filter (is_high t.end) (new ++ us) ≡ filter (is_high t.end) us
      high_are = filter_append (is_high t.end) new us ∙ ap (λ l. l ++ filter (is_high t.end) us) (filter_none (is_high t.end) new (λ u h. ap not (up u h)))

  -- a tablet before it
  passed : (t : Tablet) (others : List Tablet) (us : List Record) → is_up_to t.end row ≡ false → TabletRefines t (filter (is_low t.end) us) next n floor → TabletsRefine others (new ++ filter (is_high t.end) us) (next + 1) n floor → TabletsRefine (t ∷ others) (new ++ us) (next + 1) n floor
  passed t others us e h a = (
    subst (λ l. TabletRefines t l (next + 1) n floor) (sym low_are) (one_more t (filter (is_low t.end) us) next n floor h),
    subst (λ l. TabletsRefine others l (next + 1) n floor) (sym high_are) a,
  )
    where
      over : (u : Record) → IsIn new u → is_up_to t.end u.key.row ≡ false
      over u h = subst (λ r. is_up_to t.end r ≡ false) (sym (mutation_rows next row ps u h)) e

      low_are : filter (is_low t.end) (new ++ us) ≡ filter (is_low t.end) us
      low_are = filter_append (is_low t.end) new us ∙ ap (λ l. l ++ filter (is_low t.end) us) (filter_none (is_low t.end) new over)

      high_are : filter (is_high t.end) (new ++ us) ≡ new ++ filter (is_high t.end) us
      high_are = filter_append (is_high t.end) new us ∙ ap (λ l. l ++ filter (is_high t.end) us) (filter_all (is_high t.end) new (λ u h. ap not (over u h)))

  all_written : (ts : List Tablet) (us : List Record) → AreWhole ts → TabletsRefine ts us next n floor → TabletsRefine (at_row row (λ x. written new x ∷ []) ts) (new ++ us) (next + 1) n floor
  all_written [] us whole a = absurd whole
  all_written (t ∷ []) us whole a = go (is_up_to t.end row) refl
    where
      go : (v : Bool) → is_up_to t.end row ≡ v → TabletsRefine (cond v (written new t ∷ []) (t ∷ [])) (new ++ us) (next + 1) n floor
      go true e = here_written t [] us e a.0 a.1
      go false e = absurd (true≢false (sym (ap (λ o. is_up_to o row) whole) ∙ e))
  all_written (t ∷ s ∷ ts) us whole a = go (is_up_to t.end row) refl (all_written (s ∷ ts) (filter (is_high t.end) us) whole.1 a.1)
    where
      go : (v : Bool) → is_up_to t.end row ≡ v → TabletsRefine (at_row row (λ x. written new x ∷ []) (s ∷ ts)) (new ++ filter (is_high t.end) us) (next + 1) n floor
          → TabletsRefine (cond v (written new t ∷ s ∷ ts) (t ∷ at_row row (λ x. written new x ∷ []) (s ∷ ts))) (new ++ us) (next + 1) n floor
      go true e ih = here_written t (s ∷ ts) us e a.0 a.1
      go false e ih = passed t (at_row row (λ x. written new x ∷ []) (s ∷ ts)) us e a.0 ih

-- ---- all work
pub work_keeps : WorkKeeps
unfolding lays
work_keeps p Freezing plain ts us w r a = all_map p.next p.settings.versions (floor_at p) frozen (λ t. refl) (λ t vs h. freezes_keep t vs p.next p.settings.versions (floor_at p) h) ts us a
work_keeps p (Writing m) plain ts us w r a = all_written m.row (reverse (map (timed p.now) m.updates)) p.next p.settings.versions (floor_at p) r ts us w a
work_keeps p (Compacting kind) plain ts us w r a = all_map p.next p.settings.versions (floor_at p) (compacted kind (floor_at p) p.settings.versions) (compacted_end kind (floor_at p) p.settings.versions) (λ t vs h. compactions_keep kind t vs p.next p.settings.versions (floor_at p) h) ts us a
work_keeps p Counting plain ts us w r a = a
work_keeps p (Splitting row) plain ts us w r a = after_split (λ vs. TabletsRefine vs us p.next p.settings.versions (floor_at p)) p.tablet ts a (λ at e. all_split at p.tablet p.next p.settings.versions (floor_at p) ts us a) row
work_keeps p (Halving row limit) plain ts us w r a = after_halve (λ vs. TabletsRefine vs us p.next p.settings.versions (floor_at p)) p.tablet ts a (λ at e. all_split at p.tablet p.next p.settings.versions (floor_at p) ts us a) row limit (λ t middle e k. (lies p.next p.settings.versions (floor_at p) row middle t k ts us w a e).fresh)
work_keeps p Listing plain ts us w r a = a
work_keeps p (Beginning row kind) plain ts us w r a = all_at p.next p.settings.versions (floor_at p) row (begins p.job kind (floor_at p) p.settings.versions) (λ t. refl) (λ t vs h. beginnings_keep p.job kind t vs p.next p.settings.versions (floor_at p) h) ts us a
work_keeps p (Installing given) plain ts us w r a = after_install (λ vs. TabletsRefine vs us p.next p.settings.versions (floor_at p)) ts a
    (λ m. all_at p.next p.settings.versions (floor_at p) m.row (with_merge m.merge) (with_merge_end m.merge) (λ t vs h. installs_keep m.merge t vs p.next p.settings.versions (floor_at p) h) ts us a) plain given

-- ---- each row has one tablet
-- what is done at the row's tablet leaves it so, if it does at that one's place
whole_at : (row : List ℕ) (f : Tablet → List Tablet) (ts : List Tablet) → ((p : ℕ) → IsPlaceOf row ts p → AreWhole (at_place p f ts)) → AreWhole ts → AreWhole (at_row row f ts)
whole_at row f ts keeps w = let k = has_place row ts w in subst AreWhole (sym (row_at_place row f ts k.0 k.1)) (keeps k.0 k.1)

whole_split : (row : List ℕ) (number : ℕ) (ts : List Tablet) → is_end row ts ≡ false → AreWhole ts → AreWhole (at_row row (split_at row number) ts)
whole_split row number ts n w = whole_at row (split_at row number) ts (λ p k. split_at_place row number ts p k (sym (end_at_place row ts p w k) ∙ n) w) w

pub stays_whole : StaysWhole
unfolding lays
stays_whole p Freezing plain ts us w a = whole_map frozen (λ t. refl) ts w
stays_whole p (Writing m) plain ts us w a = let new = written (mutation_records p.next p.now m) in whole_at m.row (λ t. new t ∷ []) ts (λ q k. whole_one new (λ t. refl) ts q w) w
stays_whole p (Compacting kind) plain ts us w a = whole_map (compacted kind (floor_at p) p.settings.versions) (compacted_end kind (floor_at p) p.settings.versions) ts w
stays_whole p Counting plain ts us w a = w
stays_whole p (Splitting row) plain ts us w a = after_split AreWhole p.tablet ts w (λ at e. whole_split at p.tablet ts e w) row
stays_whole p (Halving row limit) plain ts us w a = after_halve AreWhole p.tablet ts w (λ at e. whole_split at p.tablet ts e w) row limit (λ t middle e k. (lies p.next p.settings.versions (floor_at p) row middle t k ts us w a e).fresh)
stays_whole p Listing plain ts us w a = w
stays_whole p (Beginning row kind) plain ts us w a = let under_way = begins p.job kind (floor_at p) p.settings.versions in whole_at row (λ t. under_way t ∷ []) ts (λ q k. whole_one under_way (λ t. refl) ts q w) w
stays_whole p (Installing given) plain ts us w a = after_install AreWhole ts w (λ m. whole_at m.row (λ t. with_merge m.merge t ∷ []) ts (λ q k. whole_one (with_merge m.merge) (with_merge_end m.merge) ts q w) w) plain given

-- ---- so all that is held refines all updates
pub tablets_hold_all : TabletsHoldAll
tablets_hold_all [] us next n floor once numbers a = subst (λ l. RefinesTable [] l next n floor) (sym a) (holds_nothing next n floor)
tablets_hold_all (t ∷ ts) us next n floor once numbers a =
    joined_refines (is_up_to t.end) (records_in t) (records_of_all ts) us next n floor a.0.refines
    (tablets_hold_all ts (filter (is_high t.end) us) next n floor (distinct_filter (is_high t.end) us once) (λ u c. numbers u (in_to us u (in_filter (is_high t.end) us u (in_from _ u c)).0)) a.1)
    once (λ u i. numbers u (in_to us u i))
