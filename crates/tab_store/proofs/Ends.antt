-- Whatever is done to tablets, their end rows stay within their limits.
use Rattle.std.proofs.Common.{◌≡◌, ℕ, ◌+◌, ◌≤◌, ◌<◌, ◌^◌, List, [], ◌∷◌, ◌++◌, Bool, true, false, cond, refl, sym, ap, subst, length, arith}
use Rattle.std.specs.Prelude.{Option, Some, None, map, nat_le, nat_lt}
use Rattle.std.specs.List.{AllByRecursion, cons_option}
use Rattle.std.proofs.lemmas.Bool.Decides.{nat_tests}
use Rattle.tab_key.specs.declared.limited_part.TheConstants.{MAX_PART_LEN}
use Rattle.tab_cells.specs.Written.{mutation_records}
use Rattle.tab_tablets.specs.Sources.{size_of}
use Rattle.tab_tablets.specs.Tablets.{Tablet, is_up_to, written, frozen, compacted, begins}
use Rattle.tab_tablets.specs.Splitting.{split_at, middle_row, rows_in}
use Rattle.tab_tablets.specs.ByRow.{at_row, tablet_of, ends_of, is_end}
use Rattle.tab_tablets.specs.Splits.{is_full, split_in, splits, split_found, halved, halves}
use Rattle.tab_tablets.specs.declared.splitting.Split.{Split}
use Rattle.tab_tablets.specs.declared.splitting.Split.TheVariants.{Done, Present, Small, Full}
use Rattle.tab_tablets.proofs.Merged.{compacted_end}
use Rattle.tab_history.specs.Answers.{Told}
use Rattle.tab_store.specs.Stepping.{TabletWork, Freezing, Writing, Compacting, Counting, Splitting, Halving, Listing, Beginning, Installing, TableWork, On, WorkContext, floor_at, lays}
use Rattle.tab_store.specs.Limits.{AreEndRows}
use Rattle.tab_store.proofs.InstallCases.{with_merge, with_merge_end, after_install}

-- the end rows of these tablets are within their limits
abbrev pub EndsFit : List Tablet → Type 0
EndsFit ts = AreEndRows (ends_of ts)

-- one row is
abbrev pub IsShortRow : List ℕ → Type 0
IsShortRow row = length row ≤ MAX_PART_LEN

-- the row of a split that is asked for is
abbrev pub SplitFits : TabletWork → Type 0
SplitFits (Splitting row) = IsShortRow row
SplitFits _ = Unit {0}

abbrev pub WorkFits : TableWork → Type 0
WorkFits (On t work) = SplitFits work
WorkFits _ = Unit {0}

-- the row in the middle of each tablet is
abbrev pub MiddlesFit : List Tablet → Type 0
MiddlesFit ts = (row middle : List ℕ) (t : Tablet) → tablet_of row ts ≡ Some t → middle_row (rows_in t) ≡ Some middle → IsShortRow middle

-- ---- where each tablet keeps its end row
ends_map : (f : Tablet → Tablet) → ((t : Tablet) → (f t).end ≡ t.end) → (ts : List Tablet) → ends_of (map f ts) ≡ ends_of ts
ends_map f same [] = refl
ends_map f same (t ∷ ts) = λ i. cons_option (same t i) (ends_map f same ts i)

ends_at : (row : List ℕ) (f : Tablet → Tablet) → ((t : Tablet) → (f t).end ≡ t.end) → (ts : List Tablet) → ends_of (at_row row (λ t. f t ∷ []) ts) ≡ ends_of ts
ends_at row f same [] = refl
ends_at row f same (t ∷ ts) = go (is_up_to t.end row) (ends_at row f same ts)
  where
    go : (v : Bool) → ends_of (at_row row (λ s. f s ∷ []) ts) ≡ ends_of ts → ends_of (cond v (f t ∷ ts) (t ∷ at_row row (λ s. f s ∷ []) ts)) ≡ ends_of (t ∷ ts)
    go true ih = ap (λ o. cons_option o (ends_of ts)) (same t)
    go false ih = ap (cons_option t.end) ih

-- ---- where one is split
all_behind : (o : Option (List ℕ)) (xs ys : List (List ℕ)) → (AllByRecursion IsShortRow xs → AllByRecursion IsShortRow ys) → AllByRecursion IsShortRow (cons_option o xs) → AllByRecursion IsShortRow (cons_option o ys)
all_behind None xs ys f a = f a
all_behind (Some end) xs ys f a = (a.0, f a.1)

short_split : (row : List ℕ) (number : ℕ) → IsShortRow row → (ts : List Tablet) → AllByRecursion IsShortRow (ends_of ts) → AllByRecursion IsShortRow (ends_of (at_row row (split_at row number) ts))
short_split row number fits [] a = a
short_split row number fits (t ∷ ts) a = go (is_up_to t.end row) (short_split row number fits ts)
  where
    go : (v : Bool) → (AllByRecursion IsShortRow (ends_of ts) → AllByRecursion IsShortRow (ends_of (at_row row (split_at row number) ts))) → AllByRecursion IsShortRow (ends_of (cond v (split_at row number t ++ ts) (t ∷ at_row row (split_at row number) ts)))
    go true ih = (fits, a)
    go false ih = all_behind t.end (ends_of ts) (ends_of (at_row row (split_at row number) ts)) ih a

more_behind : (o : Option (List ℕ)) (xs ys : List (List ℕ)) → length ys ≤ length xs + 1 → length (cons_option o ys) ≤ length (cons_option o xs) + 1
more_behind None xs ys le = le
more_behind (Some end) xs ys le = omega (arith, le)

one_more_end : (row : List ℕ) (number : ℕ) (ts : List Tablet) → length (ends_of (at_row row (split_at row number) ts)) ≤ length (ends_of ts) + 1
one_more_end row number [] = omega arith
one_more_end row number (t ∷ ts) = go (is_up_to t.end row) (one_more_end row number ts)
  where
    go : (v : Bool) → length (ends_of (at_row row (split_at row number) ts)) ≤ length (ends_of ts) + 1 → length (ends_of (cond v (split_at row number t ++ ts) (t ∷ at_row row (split_at row number) ts))) ≤ length (ends_of (t ∷ ts)) + 1
    go true ih = omega arith
    go false ih = more_behind t.end (ends_of ts) (ends_of (at_row row (split_at row number) ts)) ih

room : (n : ℕ) → nat_le 4294967295 n ≡ false → n + 1 < 2 ^ 32
room n e = grind (arith, nat_tests)

within : (few more : ℕ) → more ≤ few + 1 → few + 1 < 2 ^ 32 → more < 2 ^ 32
within few more le lt = omega (arith, le, lt)

module _ (number : ℕ) (ts : List Tablet) (fit : EndsFit ts) where
  divided : (row : List ℕ) → IsShortRow row → EndsFit (split_in row number ts).1
  divided row fits = go (is_full ts) refl
    where
      go : (v : Bool) → is_full ts ≡ v → EndsFit (cond {A = Split × List Tablet} v (Full, ts) (Done, at_row row (split_at row number) ts)).1
      go true e = fit
      go false e = record {
        short = short_split row number fits ts fit.short;
        few = within (length (ends_of ts)) _ (one_more_end row number ts) (room (length (ends_of ts)) e);
      }

  split_fits : (row : List ℕ) → IsShortRow row → EndsFit (splits row number ts).1
  split_fits row fits = go (is_end row ts)
    where
      go : (v : Bool) → EndsFit (cond {A = Split × List Tablet} v (Present, ts) (split_in row number ts)).1
      go true = fit
      go false = divided row fits

  found_fits : (o : Option (List ℕ)) → ((middle : List ℕ) → o ≡ Some middle → IsShortRow middle) → EndsFit (split_found o number ts).1
  found_fits None short = fit
  found_fits (Some middle) short = divided middle (short middle refl)

  halve_fits : (row : List ℕ) (limit : ℕ) → MiddlesFit ts → EndsFit (halves row limit number ts).1
  halve_fits row limit middles = go (tablet_of row ts) refl
    where
      sized : (t : Tablet) → tablet_of row ts ≡ Some t → (v : Bool) → EndsFit (cond {A = Split × List Tablet} v (Small, ts) (split_found (middle_row (rows_in t)) number ts)).1
      sized t e true = fit
      sized t e false = found_fits (middle_row (rows_in t)) (λ middle k. middles row middle t e k)

      go : (o : Option Tablet) → tablet_of row ts ≡ o → EndsFit (halved limit number o ts).1
      go None e = fit
      go (Some t) e = sized t e (nat_lt (size_of t.sources) limit)

-- ---- all work
pub work_fits : (p : WorkContext) (work : TabletWork) (plain : Told) (ts : List Tablet) → MiddlesFit ts → SplitFits work → EndsFit ts → EndsFit (lays p work plain ts).1
unfolding lays
work_fits p Freezing plain ts middles s fit = subst AreEndRows (sym (ends_map frozen (λ t. refl) ts)) fit
work_fits p (Writing m) plain ts middles s fit = subst AreEndRows (sym (ends_at m.row (written (mutation_records p.next p.now m)) (λ t. refl) ts)) fit
work_fits p (Compacting kind) plain ts middles s fit = subst AreEndRows (sym (ends_map (compacted kind (floor_at p) p.settings.versions) (compacted_end kind (floor_at p) p.settings.versions) ts)) fit
work_fits p Counting plain ts middles s fit = fit
work_fits p (Splitting row) plain ts middles s fit = split_fits p.tablet ts fit row s
work_fits p (Halving row limit) plain ts middles s fit = halve_fits p.tablet ts fit row limit middles
work_fits p Listing plain ts middles s fit = fit
work_fits p (Beginning row kind) plain ts middles s fit = subst AreEndRows (sym (ends_at row (begins p.job kind (floor_at p) p.settings.versions) (λ t. refl) ts)) fit
work_fits p (Installing given) plain ts middles s fit = after_install EndsFit ts fit (λ m. subst AreEndRows (sym (ends_at m.row (with_merge m.merge) (with_merge_end m.merge) ts)) fit) plain given
