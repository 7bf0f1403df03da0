-- What a core keeps of a table's tablets by itself.
use Rattle.std.proofs.Common.{◌≡◌, ◌⊎◌, inl, inr, ℕ, ◌+◌, ◌-◌, ◌<◌, ◌≤◌, List, [], ◌∷◌, ◌++◌, true, not, refl, sym, ◌∙◌, ap, subst, arith}
use Rattle.std.specs.Prelude.{ℤ, int_le, map, filter, reverse, Contains}
use mathlib.Core.Bool.{true≢false}
use Rattle.tab_mutation.specs.Mutations.{Mutation}
use Rattle.tab_key.specs.Records.{Record}
use Rattle.tab_key.specs.Kept.{is_put}
use Rattle.tab_key.specs.Sorted.{sorted, IsDistinct, IsIn}
use Rattle.tab_key.proofs.Rising.{in_from, in_to, in_filter, filter_in, distinct_filter, sorted_in, in_sorted}
use Rattle.tab_key.proofs.Sorting.{distinct_permuted}
use Rattle.tab_cells.specs.Written.{timed, mutation_records}
use Rattle.tab_cells.proofs.Lists.{in_append, in_left, in_right}
use Rattle.tab_cells.proofs.Written.{distinct_new, records_seq}
use Rattle.tab_tablets.specs.Tablets.{Tablet, records_in}
use Rattle.tab_tablets.proofs.Gathered.{permuted_sorted}
use Rattle.tab_history.specs.Held.{RefinesTable}
use Rattle.tab_history.proofs.Held.{any_in, not_false}
use Rattle.tab_history.proofs.HeldWrite.{covers, column_itself, le_itself_z, deleted_by, deleted_from}
use Rattle.tab_history.proofs.Holds.{holds_nothing}
use Rattle.tab_tablets.specs.ByRow.{records_of_all, AreWhole}
use Rattle.tab_tablets.specs.Places.{HoldOwnRows}
use Rattle.tab_store.specs.Stepping.{TabletWork, Freezing, Writing, Compacting, Counting, Splitting, Halving, Listing, Beginning, Installing, WorkContext, floor_at, lays}
use Rattle.tab_store.specs.Keeping.{TabletRefines, is_low, is_high, TabletsRefine, AreSound, updates_after, next_after, WorkStaysSound, NewTablesAreSound, SoundLater}
use Rattle.tab_store.proofs.OneTablet.{permuted_refines, later_keeps}
use Rattle.tab_store.proofs.CutTablet.{none_under_way}
use Rattle.tab_store.proofs.Accepted.{own_rows}
use Rattle.tab_store.proofs.AllTablets.{work_keeps, stays_whole, tablets_hold_all}

-- ---- records refine themselves
covers_itself : (m : Record) → not (is_put m.kind) ≡ true → covers m m ≡ true
covers_itself m p = rw (p, column_itself m.key, le_itself_z m.key.timestamp) refl

same_refines : (held us : List Record) (next n : ℕ) (floor : ℤ) → ((u : Record) → IsIn held u → IsIn us u) → ((u : Record) → IsIn us u → IsIn held u) → IsDistinct held → IsDistinct us → ((u : Record) → IsIn us u → u.seq < next) → RefinesTable held us next n floor
same_refines held us next n floor f g lone once numbers = record {
  refines = record {
    accepted = λ u c. in_to us u (f u (in_from held u c));
    kept = λ u c e. in_to held u (g u (in_from us u c));
    deleted = λ u c q d. let m = deleted_from us u d in deleted_by held m.0 u (g m.0 m.1) m.2;
    dropped = λ m c q e. absurd (true≢false (sym (any_in (covers m) held m (g m (in_from us m c)) (covers_itself m q)) ∙ not_false _ e));
  };
  held_once = lone;
  updates_once = once;
  numbered = λ u c. numbers u (in_from us u c);
}

-- tablets that refine some updates refine what they hold
alone : (ts : List Tablet) (us xs : List Record) (next n : ℕ) (floor : ℤ) → TabletsRefine ts us next n floor → ((u : Record) → IsIn xs u → IsIn (records_of_all ts) u) → ((u : Record) → IsIn (records_of_all ts) u → IsIn xs u) → IsDistinct xs → ((u : Record) → IsIn xs u → u.seq < next) → TabletsRefine ts xs next n floor
alone [] us [] next n floor a f g once numbers = refl
alone [] us (x ∷ xs) next n floor a f g once numbers = absurd (f x (inl refl))
alone (t ∷ ts) us xs next n floor a f g once numbers = (
  record { refines = same_refines (records_in t) (filter (is_low t.end) xs) next n floor here back a.0.refines.held_once (distinct_filter (is_low t.end) xs once) (λ u h. numbers u (in_filter (is_low t.end) xs u h).0); jobs = a.0.jobs },
  alone ts (filter (is_high t.end) us) (filter (is_high t.end) xs) next n floor a.1 there behind (distinct_filter (is_high t.end) xs once) (λ u h. numbers u (in_filter (is_high t.end) xs u h).0),
)
  where
    own : HoldOwnRows (t ∷ ts)
    own = own_rows (t ∷ ts) us next n floor a

    here : (u : Record) → IsIn (records_in t) u → IsIn (filter (is_low t.end) xs) u
    here u h = filter_in (is_low t.end) xs u (g u (in_left (records_in t) (records_of_all ts) u h)) (own.0 u h)

    back : (u : Record) → IsIn (filter (is_low t.end) xs) u → IsIn (records_in t) u
    back u h = go (in_append (records_in t) (records_of_all ts) u (f u (in_filter (is_low t.end) xs u h).0))
      where
        go : IsIn (records_in t) u ⊎ IsIn (records_of_all ts) u → IsIn (records_in t) u
        go (inl k) = k
        go (inr k) = absurd (true≢false (sym (in_filter (is_low t.end) xs u h).1 ∙ own.1 u k))

    there : (u : Record) → IsIn (filter (is_high t.end) xs) u → IsIn (records_of_all ts) u
    there u h = go (in_append (records_in t) (records_of_all ts) u (f u (in_filter (is_high t.end) xs u h).0))
      where
        go : IsIn (records_in t) u ⊎ IsIn (records_of_all ts) u → IsIn (records_of_all ts) u
        go (inl k) = absurd (true≢false (sym (own.0 u k) ∙ not_false _ (in_filter (is_high t.end) xs u h).1))
        go (inr k) = k

    behind : (u : Record) → IsIn (records_of_all ts) u → IsIn (filter (is_high t.end) xs) u
    behind u h = filter_in (is_high t.end) xs u (g u (in_right (records_in t) (records_of_all ts) u h)) (ap not (own.1 u h))

-- ---- the updates after some work
-- no two stand at one place, and their numbers are used up
record Fine (us : List Record) (next : ℕ) : Type 0 where
  once : IsDistinct us
  numbers : (u : Record) → Contains us u → u.seq < next

fine_written : (next : ℕ) (now : ℤ) (m : Mutation) (us : List Record) → Fine us next → Fine (mutation_records next now m ++ us) (next + 1)
fine_written next now m us f = record {
  once = distinct_new next m.row (reverse (map (timed now) m.updates)) us f.numbers f.once;
  numbers = λ u c. go u (in_append (mutation_records next now m) us u (in_from _ u c));
}
  where
    go : (u : Record) → IsIn (mutation_records next now m) u ⊎ IsIn us u → u.seq < next + 1
    go u (inl h) = let e = records_seq next m.row (reverse (map (timed now) m.updates)) u (in_to _ u h) in omega (arith, e)
    go u (inr h) = let lt = f.numbers u (in_to us u h) in omega (arith, lt)

fine_after : (p : WorkContext) (work : TabletWork) (us : List Record) → Fine us p.next → Fine (updates_after p work us) (next_after p work)
fine_after p Freezing us f = f
fine_after p (Writing m) us f = fine_written p.next p.now m us f
fine_after p (Compacting kind) us f = f
fine_after p Counting us f = f
fine_after p (Splitting row) us f = f
fine_after p (Halving row limit) us f = f
fine_after p Listing us f = f
fine_after p (Beginning row kind) us f = f
fine_after p (Installing given) us f = f

-- ---- sound tablets
in_all : (ts : List Tablet) (u : Record) → Contains (sorted (records_of_all ts)) u → Contains (records_of_all ts) u
in_all ts u c = in_to (records_of_all ts) u (in_sorted (records_of_all ts) u (in_from (sorted (records_of_all ts)) u c))

sorted_once : (ts : List Tablet) → IsDistinct (records_of_all ts) → IsDistinct (sorted (records_of_all ts))
sorted_once ts d = distinct_permuted (records_of_all ts) (sorted (records_of_all ts)) (permuted_sorted (records_of_all ts)) d

-- tablets whose records refine some updates, all together and each for its rows, are sound
sound_from : (ts : List Tablet) (us : List Record) (next n : ℕ) (floor : ℤ) → AreWhole ts → TabletsRefine ts us next n floor → RefinesTable (records_of_all ts) us next n floor → AreSound ts next n floor
sound_from ts us next n floor whole a h = record {
  whole = whole;
  once = h.held_once;
  numbered = λ u c. h.numbered u (h.refines.accepted u c);
  refines = alone ts us (sorted (records_of_all ts)) next n floor a (λ u k. in_sorted (records_of_all ts) u k) (λ u k. sorted_in (records_of_all ts) u k) (sorted_once ts h.held_once)
      (λ u k. h.numbered u (h.refines.accepted u (in_all ts u (in_to _ u k))));
}

pub work_stays_sound : WorkStaysSound
work_stays_sound p work plain ts s recent =
    let us : List Record = sorted (records_of_all ts) in
    let after : List Tablet = (lays p work plain ts).1 in
    let f : Fine (updates_after p work us) (next_after p work) = fine_after p work us (record { once = sorted_once ts s.once; numbers = λ u c. s.numbered u (in_all ts u c) }) in
    let a : TabletsRefine after (updates_after p work us) (next_after p work) p.settings.versions (floor_at p) = work_keeps p work plain ts us s.whole recent s.refines in
    let h : RefinesTable (records_of_all after) (updates_after p work us) (next_after p work) p.settings.versions (floor_at p) = tablets_hold_all after (updates_after p work us) (next_after p work) p.settings.versions (floor_at p) f.once f.numbers a in
    record {
      sound = sound_from after (updates_after p work us) (next_after p work) p.settings.versions (floor_at p) (stays_whole p work plain ts us s.whole s.refines) a h;
      refines = permuted_refines (records_of_all after) (sorted (records_of_all after)) (updates_after p work us) (next_after p work) p.settings.versions (floor_at p) (permuted_sorted (records_of_all after)) h;
    }

-- sound tablets refine what they hold
pub self_refines : (ts : List Tablet) (next n : ℕ) (floor : ℤ) → AreSound ts next n floor → RefinesTable (sorted (records_of_all ts)) (sorted (records_of_all ts)) next n floor
self_refines ts next n floor s = permuted_refines (records_of_all ts) (sorted (records_of_all ts)) (sorted (records_of_all ts)) next n floor (permuted_sorted (records_of_all ts))
    (tablets_hold_all ts (sorted (records_of_all ts)) next n floor (sorted_once ts s.once) (λ u c. s.numbered u (in_all ts u c)) s.refines)

-- ---- a new table, and time that passes
pub new_tables_are_sound : NewTablesAreSound
new_tables_are_sound number next n floor = record {
  whole = refl;
  once = tt;
  numbered = λ u c. absurd (in_from [] u c);
  refines = (record { refines = holds_nothing next n floor; jobs = none_under_way [] n floor }, refl);
}

lt_more : (a b c : ℕ) → a < b → a < b + c
lt_more a b c le = omega (arith, le)

one_later : (t : Tablet) (us : List Record) (next more n : ℕ) (floor higher : ℤ) → int_le floor higher ≡ true → TabletRefines t us next n floor → TabletRefines t us (next + more) n higher
one_later t us next more n floor higher le h =
    let later : TabletRefines t us next n higher = later_keeps t us next n floor higher le h in
    let l : RefinesTable (records_in t) us next n higher = later.refines in
    record { refines = record { refines = l.refines; held_once = l.held_once; updates_once = l.updates_once; numbered = λ u c. lt_more u.seq next more (l.numbered u c) }; jobs = later.jobs }

all_later : (ts : List Tablet) (us : List Record) (next more n : ℕ) (floor higher : ℤ) → int_le floor higher ≡ true → TabletsRefine ts us next n floor → TabletsRefine ts us (next + more) n higher
all_later [] us next more n floor higher le a = a
all_later (t ∷ ts) us next more n floor higher le a = (one_later t (filter (is_low t.end) us) next more n floor higher le a.0, all_later ts (filter (is_high t.end) us) next more n floor higher le a.1)

pub sound_later : SoundLater
sound_later ts next more n floor higher le s = record {
  whole = s.whole;
  once = s.once;
  numbered = λ u c. lt_more u.seq next more (s.numbered u c);
  refines = all_later ts (sorted (records_of_all ts)) next more n floor higher le s.refines;
}

filled : (a b : ℕ) → a ≤ b → a + (b - a) ≡ b
filled a b le = omega (arith, le)

-- the same by an inequality
pub sound_grown : (ts : List Tablet) (next more n : ℕ) (floor higher : ℤ) → next ≤ more → int_le floor higher ≡ true → AreSound ts next n floor → AreSound ts more n higher
sound_grown ts next more n floor higher le e s = subst (λ k. AreSound ts k n higher) (filled next more le) (sound_later ts next (more - next) n floor higher e s)
