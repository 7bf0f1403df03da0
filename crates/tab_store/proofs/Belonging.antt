-- A merge that was begun belongs to its table: of no other tablet than that of its row will the number be that of its tablet.
use Rattle.std.proofs.Common.{◌≡◌, ◌≢◌, ◌⊎◌, inl, inr, ℕ, ◌≤◌, ◌<◌, List, [], ◌∷◌, ◌++◌, Bool, true, false, cond, ◌||◌, ◌==◌, refl, sym, ◌∙◌, ap, subst, arith}
use Rattle.std.specs.Prelude.{ℤ, Option, Some, None, map, bytes_eq, nat_lt}
use Rattle.std.specs.Option.{option_map}
use Rattle.std.specs.Cmp.Lexicographic.{bytes_decides}
use Rattle.std.proofs.lemmas.Bool.Decides.{nat_tests}
use Rattle.std.proofs.lemmas.Option.{none-some}
use mathlib.Core.Bool.{true≢false}
use Rattle.tab_cells.specs.Written.{mutation_records}
use Rattle.tab_cells.specs.declared.compaction.Compaction.{Compaction}
use Rattle.tab_cells.proofs.Lists.{by_bool}
use Rattle.tab_tablets.specs.Sources.{count_of, size_of}
use Rattle.tab_tablets.specs.Merges.{Merge, inputs_of}
use Rattle.tab_tablets.specs.Tablets.{Tablet, new_tablet, next_number, is_up_to, written, frozen, compacted, begins}
use Rattle.tab_tablets.specs.Splitting.{split_at, lower_at, upper_at, middle_row, rows_in}
use Rattle.tab_tablets.specs.ByRow.{at_row, tablet_of, is_end}
use Rattle.tab_tablets.specs.Parts.{TabletMerge, capture_in, found_for}
use Rattle.tab_tablets.specs.Splits.{is_full, split_in, splits, split_found, halved, halves}
use Rattle.tab_tablets.specs.declared.Installed.{Installed}
use Rattle.tab_tablets.specs.declared.splitting.Split.{Split}
use Rattle.tab_tablets.specs.declared.splitting.Split.TheVariants as split
use Rattle.tab_tablets.proofs.Merged.{compacted_end}
use Rattle.tab_tablets.proofs.Parted.{nat_same, some_is}
use Rattle.tab_tablets.proofs.Rows.{beyond}
use Rattle.tab_history.specs.Answers.{Told}
use Rattle.tab_history.specs.Histories.{Entry}
use Rattle.tab_history.specs.declared.event.Act.{Act}
use Rattle.tab_history.specs.declared.event.Act.TheVariants.{Begin, Install}
use Rattle.tab_history.specs.declared.event.Step.{Step}
use Rattle.tab_history.specs.declared.event.Step.TheVariants.{Event as IsEvent, Next}
use Rattle.tab_history.specs.declared.reply.Refusal.TheVariants.{NoMemory, Stale}
use Rattle.tab_history.specs.declared.reply.Reply.TheVariants.{Done, Refused, Begun}
use Rattle.tab_store.specs.Stores.{CoreContents, table_in, tablets_in}
use Rattle.tab_store.specs.Stepping.{TabletWork, Freezing, Writing, Compacting, Counting, Splitting, Halving, Listing, Beginning, Installing, TableWork, Aside, Making, Dropping, On, WorkContext, floor_at, told_install, lays, work_of, place_of, lays_in, told_by, laid_by, job_by, handed, tablet_told, told_exactly, laid_exactly, laid_told}
use Rattle.tab_store.specs.Chains.{Running, given_in, by_hand, RunsExactly, EntryGoes}
use Rattle.tab_store.specs.Numbers.{has_number, NumbersDiffer, AreNumbered, IsNumbered}
use Rattle.tab_store.specs.Belonging.{ChainsKeepNumbers, beside_row, BelongsTo, Belongs, BegunBelong, BelongingStays, BegunBelongOn, ElsewhereIsStale}
use Rattle.tab_store.proofs.InstallCases.{with_merge, with_merge_end, with_merge_number, after_install}
use Rattle.tab_store.proofs.Numbered.{or_right, or_none, itself, has_map, has_split, compacted_number}
use Rattle.tab_store.proofs.Numbering.{below_too, on_to, next_grows, numbers_stay}
use Rattle.tab_store.proofs.ByNumber.{or_first, or_second, others_are_stale}

-- ---- the rows and numbers of tablets
-- a tablet with nothing but these
abbrev bare : Tablet → Tablet
bare t = new_tablet t.number t.end

abbrev lines : List Tablet → List Tablet
lines ts = map bare ts

module _ (f : Tablet → Tablet) (number : (t : Tablet) → (f t).number ≡ t.number) (ends : (t : Tablet) → (f t).end ≡ t.end) where
  lines_map : (ts : List Tablet) → lines (map f ts) ≡ lines ts
  lines_map [] = refl
  lines_map (t ∷ ts) = λ i. new_tablet (number t i) (ends t i) ∷ lines_map ts i

  lines_at : (row : List ℕ) (ts : List Tablet) → lines (at_row row (λ t. f t ∷ []) ts) ≡ lines ts
  lines_at row [] = refl
  lines_at row (t ∷ ts) = go (is_up_to t.end row) (lines_at row ts)
    where
      go : (v : Bool) → lines (at_row row (λ x. f x ∷ []) ts) ≡ lines ts → lines (cond v (f t ∷ ts) (t ∷ at_row row (λ x. f x ∷ []) ts)) ≡ lines (t ∷ ts)
      go true ih = λ i. new_tablet (number t i) (ends t i) ∷ lines ts
      go false ih = ap (λ us. bare t ∷ us) ih

lines_beside : (row : List ℕ) (ts : List Tablet) → lines (beside_row row ts) ≡ beside_row row (lines ts)
lines_beside row [] = refl
lines_beside row (t ∷ ts) = go (is_up_to t.end row) (lines_beside row ts)
  where
    go : (v : Bool) → lines (beside_row row ts) ≡ beside_row row (lines ts) → lines (cond v ts (t ∷ beside_row row ts)) ≡ cond v (lines ts) (bare t ∷ beside_row row (lines ts))
    go true ih = refl
    go false ih = ap (λ us. bare t ∷ us) ih

-- the number of the row's tablet
abbrev number_at : List ℕ → List Tablet → Option ℕ
number_at row ts = option_map (λ (t : Tablet). t.number) (tablet_of row ts)

lines_number : (row : List ℕ) (ts : List Tablet) → number_at row (lines ts) ≡ number_at row ts
lines_number row [] = refl
lines_number row (t ∷ ts) = go (is_up_to t.end row) (lines_number row ts)
  where
    go : (v : Bool) → number_at row (lines ts) ≡ number_at row ts → option_map (λ (x : Tablet). x.number) (cond v (Some (bare t)) (tablet_of row (lines ts))) ≡ option_map (λ (x : Tablet). x.number) (cond v (Some t) (tablet_of row ts))
    go true ih = refl
    go false ih = ih

lines_has : (k : ℕ) (ts : List Tablet) → has_number k (lines ts) ≡ has_number k ts
lines_has k ts = has_map bare (λ t. refl) k ts

same_has : (k : ℕ) (ts us : List Tablet) → lines ts ≡ lines us → has_number k ts ≡ has_number k us
same_has k ts us e = sym (lines_has k ts) ∙ ap (has_number k) e ∙ lines_has k us

same_beside : (k : ℕ) (row : List ℕ) (ts us : List Tablet) → lines ts ≡ lines us → has_number k (beside_row row ts) ≡ has_number k (beside_row row us)
same_beside k row ts us e = same_has k (beside_row row ts) (beside_row row us) (lines_beside row ts ∙ ap (beside_row row) e ∙ sym (lines_beside row us))

same_number : (row : List ℕ) (ts us : List Tablet) → lines ts ≡ lines us → number_at row ts ≡ number_at row us
same_number row ts us e = sym (lines_number row ts) ∙ ap (number_at row) e ∙ lines_number row us

-- ---- the tablets of one table
-- What becomes of tablets: none gets this number, nor does any but that of this row.
record Stays (k : ℕ) (row : List ℕ) (ts after : List Tablet) : Type 0 where
  none : has_number k after ≡ true → has_number k ts ≡ true
  others : has_number k (beside_row row ts) ≡ false → has_number k (beside_row row after) ≡ false

stay_alike : (k : ℕ) (row : List ℕ) (ts after : List Tablet) → lines after ≡ lines ts → Stays k row ts after
stay_alike k row ts after e = record { none = λ h. sym (same_has k after ts e) ∙ h; others = λ h. same_beside k row after ts e ∙ h }

none_of : (k : ℕ) (row : List ℕ) (ts : List Tablet) → Stays k row ts []
none_of k row ts = record { none = λ h. absurd (true≢false (sym h)); others = λ h. refl }

less_other : (n k : ℕ) → k < n → (n == k) ≡ false
less_other n k lt = grind (arith, nat_tests, lt)

next_other : (n k : ℕ) → n < 18446744073709551615 → k < n → (next_number n == k) ≡ false
next_other n k few lt = less_other (next_number n) k (omega (arith, few, lt))

module _ (k : ℕ) (row at : List ℕ) (n : ℕ) (few : n < 18446744073709551615) (lt : k < n) where
  -- a split gives other numbers
  no_new : (ts : List Tablet) → has_number k (at_row at (split_at at n) ts) ≡ true → has_number k ts ≡ true
  no_new ts h = go (has_split at n k ts h)
    where
      go : (has_number k ts ≡ true) ⊎ (n ≡ k) ⊎ (next_number n ≡ k) → has_number k ts ≡ true
      go (inl e) = e
      go (inr (inl e)) = absurd (omega (arith, lt, e))
      go (inr (inr e)) = absurd (omega (arith, lt, few, e))

  none_new : (ts : List Tablet) → has_number k ts ≡ false → has_number k (at_row at (split_at at n) ts) ≡ false
  none_new ts f = by_bool (has_number k (at_row at (split_at at n) ts)) (λ h. absurd (true≢false (sym (no_new ts h) ∙ f))) (λ e. e)

  -- the two, and others that haven't the number
  both_other : (ts : List Tablet) → has_number k ts ≡ false → (n == k || (next_number n == k || has_number k ts)) ≡ false
  both_other ts f = or_none (n == k) (next_number n == k || has_number k ts) (less_other n k lt) (or_none (next_number n == k) (has_number k ts) (next_other n k few lt) f)

  beside_cut : (ts : List Tablet) → has_number k (beside_row row ts) ≡ false → has_number k (beside_row row (at_row at (split_at at n) ts)) ≡ false
  beside_cut [] h = refl
  beside_cut (t ∷ ts) h = go (is_up_to t.end at) (is_up_to t.end row) refl refl h (beside_cut ts)
    where
      -- the tablet of the row is the one that is split
      within : (v : Bool) → has_number k ts ≡ false → has_number k (cond v (upper_at at (next_number n) t ∷ ts) (lower_at at n t ∷ ts)) ≡ false
      within true f = or_none (next_number n == k) (has_number k ts) (next_other n k few lt) f
      within false f = or_none (n == k) (has_number k ts) (less_other n k lt) f

      go : (v w : Bool) → is_up_to t.end at ≡ v → is_up_to t.end row ≡ w → has_number k (cond w ts (t ∷ beside_row row ts)) ≡ false
          → (has_number k (beside_row row ts) ≡ false → has_number k (beside_row row (at_row at (split_at at n) ts)) ≡ false)
          → has_number k (beside_row row (cond v (split_at at n t ++ ts) (t ∷ at_row at (split_at at n) ts))) ≡ false
      go true true up e f ih = subst (λ x. has_number k (cond (is_up_to (Some at) row) (upper_at at (next_number n) t ∷ ts) (lower_at at n t ∷ cond x ts (upper_at at (next_number n) t ∷ beside_row row ts))) ≡ false) (sym e) (within (is_up_to (Some at) row) f)
      go true false up e f ih =
          subst (λ y. has_number k (cond y (upper_at at (next_number n) t ∷ ts) (lower_at at n t ∷ cond (is_up_to t.end row) ts (upper_at at (next_number n) t ∷ beside_row row ts))) ≡ false) (sym (beyond at n t.end row up e))
          (subst (λ x. has_number k (lower_at at n t ∷ cond x ts (upper_at at (next_number n) t ∷ beside_row row ts)) ≡ false) (sym e)
          (both_other (beside_row row ts) (or_second (t.number == k) (has_number k (beside_row row ts)) f)))
      go false true up e f ih = subst (λ x. has_number k (cond x (at_row at (split_at at n) ts) (t ∷ beside_row row (at_row at (split_at at n) ts))) ≡ false) (sym e) (none_new ts f)
      go false false up e f ih = subst (λ x. has_number k (cond x (at_row at (split_at at n) ts) (t ∷ beside_row row (at_row at (split_at at n) ts))) ≡ false) (sym e)
          (or_none (t.number == k) (has_number k (beside_row row (at_row at (split_at at n) ts))) (or_first (t.number == k) (has_number k (beside_row row ts)) f) (ih (or_second (t.number == k) (has_number k (beside_row row ts)) f)))

  stay_cut : (ts : List Tablet) → Stays k row ts (at_row at (split_at at n) ts)
  stay_cut ts = record { none = no_new ts; others = beside_cut ts }

-- ---- work
module _ (k : ℕ) (row : List ℕ) (p : WorkContext) (few : p.tablet < 18446744073709551615) (lt : k < p.tablet) (ts : List Tablet) where
  unchanged : Stays k row ts ts
  unchanged = record { none = λ h. h; others = λ h. h }

  within : (at : List ℕ) → Stays k row ts (split_in at p.tablet ts).1
  within at = go (is_full ts)
    where
      go : (v : Bool) → Stays k row ts (cond {A = Split × List Tablet} v (split.Full, ts) (split.Done, at_row at (split_at at p.tablet) ts)).1
      go true = unchanged
      go false = stay_cut k row at p.tablet few lt ts

  at_a_row : (at : List ℕ) → Stays k row ts (splits at p.tablet ts).1
  at_a_row at = go (is_end at ts)
    where
      go : (v : Bool) → Stays k row ts (cond {A = Split × List Tablet} v (split.Present, ts) (split_in at p.tablet ts)).1
      go true = unchanged
      go false = within at

  found : (o : Option (List ℕ)) → Stays k row ts (split_found o p.tablet ts).1
  found None = unchanged
  found (Some at) = within at

  by_size : (at : List ℕ) (limit : ℕ) → Stays k row ts (halves at limit p.tablet ts).1
  by_size at limit = go (tablet_of at ts)
    where
      sized : (x : Tablet) (v : Bool) → Stays k row ts (cond {A = Split × List Tablet} v (split.Small, ts) (split_found (middle_row (rows_in x)) p.tablet ts)).1
      sized x true = unchanged
      sized x false = found (middle_row (rows_in x))

      go : (o : Option Tablet) → Stays k row ts (halved limit p.tablet o ts).1
      go None = unchanged
      go (Some x) = sized x (nat_lt (size_of x.sources) limit)

  mapped : (f : Tablet → Tablet) → ((x : Tablet) → (f x).number ≡ x.number) → ((x : Tablet) → (f x).end ≡ x.end) → Stays k row ts (map f ts)
  mapped f number ends = stay_alike k row ts (map f ts) (lines_map f number ends ts)

  put : (at : List ℕ) (f : Tablet → Tablet) → ((x : Tablet) → (f x).number ≡ x.number) → ((x : Tablet) → (f x).end ≡ x.end) → Stays k row ts (at_row at (λ x. f x ∷ []) ts)
  put at f number ends = stay_alike k row ts (at_row at (λ x. f x ∷ []) ts) (lines_at f number ends at ts)

  work_stays : (work : TabletWork) (plain : Told) → Stays k row ts (lays p work plain ts).1
  unfolding lays
  work_stays Freezing plain = mapped frozen (λ x. refl) (λ x. refl)
  work_stays (Writing m) plain = put m.row (written (mutation_records p.next p.now m)) (λ x. refl) (λ x. refl)
  work_stays (Compacting kind) plain = mapped (compacted kind (floor_at p) p.settings.versions) (compacted_number kind (floor_at p) p.settings.versions) (compacted_end kind (floor_at p) p.settings.versions)
  work_stays Counting plain = unchanged
  work_stays (Splitting at) plain = at_a_row at
  work_stays (Halving at limit) plain = by_size at limit
  work_stays Listing plain = unchanged
  work_stays (Beginning at kind) plain = put at (begins p.job kind (floor_at p) p.settings.versions) (λ x. refl) (λ x. refl)
  work_stays (Installing given) plain = after_install (λ after. Stays k row ts after) ts unchanged (λ m. put m.row (with_merge m.merge) (with_merge_number m.merge) (with_merge_end m.merge)) plain given

-- ---- all tables
module _ (k : ℕ) (row : List ℕ) (old : CoreContents) (few : old.tablet < 18446744073709551615) (lt : k < old.tablet) (now : ℤ) (q : List ℕ) where
  abbrev Goes : List Tablet → Type 0
  Goes after = Stays k row (tablets_in old q) after

  as_it_was : Goes (tablets_in old q)
  as_it_was = record { none = λ h. h; others = λ h. h }

  made : Goes (new_tablet old.tablet None ∷ [])
  made = record { none = λ h. absurd (true≢false (sym h ∙ or_none (old.tablet == k) false (less_other old.tablet k lt) refl)); others = λ h. refl }

  on_named : (t : List ℕ) (after : List Tablet) → Goes after → Goes (cond (bytes_eq t q) after (tablets_in old q))
  on_named t after g = go (bytes_eq t q)
    where
      go : (v : Bool) → Goes (cond v after (tablets_in old q))
      go true = g
      go false = as_it_was

  laid_goes : (work : TableWork) (plain : Told) → Goes (laid_by old now work plain q)
  laid_goes Aside plain = as_it_was
  laid_goes (Making t) plain = on_named t (new_tablet old.tablet None ∷ []) made
  laid_goes (Dropping t) plain = on_named t [] (none_of k row (tablets_in old q))
  laid_goes (On t work) plain = on_named t (lays_in old now work plain (table_in old q)).1 (work_stays k row (place_of old now (table_in old q)) few lt (tablets_in old q) work plain)

  module _ (given : Option TabletMerge) (act : Act) where
    exactly_goes : (plain : Told) → Goes (laid_exactly old now given act plain q)
    exactly_goes (Refused r) = as_it_was
    exactly_goes plain = laid_goes (work_of given act) plain

    told_goes : (plain told : Told) → Goes (laid_told told old now given act plain q)
    told_goes plain (Refused NoMemory) = as_it_was
    told_goes plain told = exactly_goes plain

pub belonging_stays : BelongingStays
belonging_stays old new now given job act plain told q m exact was lt =
    let le : old.tablet ≤ new.tablet = next_grows old new now given job act plain told exact lt in
    let few : old.tablet < 18446744073709551615 = below_too old.tablet new.tablet 18446744073709551615 le lt in
    let b : BelongsTo q m (tablets_in old) old.tablet = was few in
    let goes : (r : List ℕ) → Stays m.merge.tablet m.row (tablets_in old r) (tablets_in new r) =
    λ r. subst (λ after. Stays m.merge.tablet m.row (tablets_in old r) after) (sym (exact.tablets r)) (told_goes m.merge.tablet m.row old few b.given now r given act plain told) in
    record {
      table = λ r h. b.table r ((goes r).none h);
      row = (goes q).others b.row;
      given = on_to m.merge.tablet old.tablet new.tablet b.given le;
    }

-- ---- chains
module _ (before last : Running) where
  module _ (q : List ℕ) (m : TabletMerge) where
    goes_on : (step : Step) (r : Told) → RunsExactly before step r last → Belongs q m before.held → Belongs q m last.held
    goes_on (IsEvent event) r x was = belonging_stays before.held last.held _ (given_in before.begun event.act) x.0 (by_hand before.begun event).act _ r q m x.1.exact was
    goes_on (Next user slot n) r x was = absurd x
    goes_on step r x was = absurd x

    entry_belongs : (e : Entry) → EntryGoes before e last → Belongs q m before.held → Belongs q m last.held
    entry_belongs e (inl x) was = goes_on e.step e.reply x was
    entry_belongs e (inr x) was = subst (λ (v : Running). Belongs q m v.held) (sym x.1) was

  goes_numbered : (step : Step) (r : Told) → RunsExactly before step r last → IsNumbered before.held → IsNumbered last.held
  goes_numbered (IsEvent event) r x was = numbers_stay before.held last.held (given_in before.begun event.act) x.0 (by_hand before.begun event) r was x.1.exact
  goes_numbered (Next user slot n) r x was = absurd x
  goes_numbered step r x was = absurd x

  entry_numbered : (e : Entry) → EntryGoes before e last → IsNumbered before.held → IsNumbered last.held
  entry_numbered e (inl x) was = goes_numbered e.step e.reply x was
  entry_numbered e (inr x) was = subst (λ (v : Running). IsNumbered v.held) (sym x.1) was

pub begun_belong_on : BegunBelongOn
begun_belong_on first last [] q m same was = subst (λ (v : Running). Belongs q m v.held) same was
begun_belong_on first last (e ∷ es) q m chain was = entry_belongs chain.0 last q m e chain.2 (begun_belong_on first chain.0 es q m chain.1 was)

pub chains_keep_numbers : ChainsKeepNumbers
chains_keep_numbers first last [] was same = subst (λ (v : Running). IsNumbered v.held) same was
chains_keep_numbers first last (e ∷ es) was chain = entry_numbered chain.0 last e chain.2 (chains_keep_numbers first chain.0 es was chain.1)

-- ---- a merge that begins
-- it has the number of the tablet of its row
record Names (m : TabletMerge) (row : List ℕ) (o : Option Tablet) : Type 0 where
  tablet : Tablet
  there : o ≡ Some tablet
  asked : m.row ≡ row
  number : m.merge.tablet ≡ tablet.number

begun_names : (m : TabletMerge) (row : List ℕ) (number : ℕ) (kind : Compaction) (floor : ℤ) (n : ℕ) (o : Option Tablet) → Some m ≡ found_for row (capture_in number kind floor n o) → Names m row o
begun_names m row number kind floor n None e = absurd (none-some m (sym e))
begun_names m row number kind floor n (Some t) e = go (count_of (inputs_of kind (frozen t).sources) == 0) e
  where
    it : Merge
    it = record { tablet = t.number; number = number; kind = kind; inputs = inputs_of kind (frozen t).sources; floor = floor; versions = n }

    go : (v : Bool) → Some m ≡ found_for row (cond v None (Some it)) → Names m row (Some t)
    go true q = absurd (none-some m (sym q))
    go false q = let is : m ≡ record { row = row; merge = it } = some_is m (record { row = row; merge = it }) q in record { tablet = t; there = refl; asked = ap (λ (x : TabletMerge). x.row) is; number = ap (λ (x : TabletMerge). x.merge.tablet) is }

-- the row's tablet has its number, and where numbers differ no other one has
row_has : (row : List ℕ) (ts : List Tablet) (x : Tablet) → tablet_of row ts ≡ Some x → has_number x.number ts ≡ true
row_has row [] x e = absurd (none-some x e)
row_has row (t ∷ ts) x e = go (is_up_to t.end row) (row_has row ts x) e
  where
    go : (v : Bool) → (tablet_of row ts ≡ Some x → has_number x.number ts ≡ true) → cond v (Some t) (tablet_of row ts) ≡ Some x → has_number x.number (t ∷ ts) ≡ true
    go true ih q = let is : t ≡ x = some_is t x q in ap (λ v. v || has_number x.number ts) (ap (λ (y : Tablet). y.number == x.number) is ∙ itself x.number)
    go false ih q = or_right (t.number == x.number) (has_number x.number ts) (ih q)

row_alone : (row : List ℕ) (ts : List Tablet) (x : Tablet) → NumbersDiffer ts → tablet_of row ts ≡ Some x → has_number x.number (beside_row row ts) ≡ false
row_alone row [] x d e = refl
row_alone row (t ∷ ts) x d e = go (is_up_to t.end row) (row_alone row ts x d.1) e
  where
    other : has_number x.number ts ≡ true → (t.number == x.number) ≡ false
    other h = by_bool (t.number == x.number) (λ s. absurd (true≢false (sym h ∙ ap (λ k. has_number k ts) (sym (nat_same t.number x.number s)) ∙ d.0))) (λ f. f)

    go : (v : Bool) → (tablet_of row ts ≡ Some x → has_number x.number (beside_row row ts) ≡ false) → cond v (Some t) (tablet_of row ts) ≡ Some x → has_number x.number (cond v ts (t ∷ beside_row row ts)) ≡ false
    go true ih q = let is : t ≡ x = some_is t x q in ap (λ (y : Tablet). has_number y.number ts) (sym is) ∙ d.0
    go false ih q = or_none (t.number == x.number) (has_number x.number (beside_row row ts)) (other (row_has row ts x q)) (ih q)

module _ (old : CoreContents) (now : ℤ) (given : Option TabletMerge) (t row : List ℕ) (kind : Compaction) where
  abbrev p : WorkContext
  p = place_of old now (table_in old t)

  abbrev work : TableWork
  work = On t (Beginning row kind)

  -- it was handed out
  was_begun : (m : TabletMerge) (told : Told) → Some m ≡ handed told (job_by old now work) → Names m row (tablet_of row (tablets_in old t))
  was_begun m (Begun job) e = begun_names m row p.job kind (floor_at p) p.settings.versions (tablet_of row (tablets_in old t)) e
  was_begun m told e = absurd (none-some m (sym e))

  -- no tablet gets another row or number
  begun_lines : (plain : Told) (q : List ℕ) → lines (laid_by old now work plain q) ≡ lines (tablets_in old q)
  unfolding lays
  begun_lines plain q = go (bytes_eq t q)
    where
      go : (v : Bool) → lines (cond v (lays_in old now (Beginning row kind) plain (table_in old q)).1 (tablets_in old q)) ≡ lines (tablets_in old q)
      go true = let at : WorkContext = place_of old now (table_in old q) in lines_at (begins at.job kind (floor_at at) at.settings.versions) (λ x. refl) (λ x. refl) row (tablets_in old q)
      go false = refl

  exactly_lines : (plain : Told) (q : List ℕ) → lines (laid_exactly old now given (Begin t row kind) plain q) ≡ lines (tablets_in old q)
  exactly_lines (Refused r) q = refl
  exactly_lines plain q = begun_lines plain q

  told_lines : (plain told : Told) (q : List ℕ) → lines (laid_told told old now given (Begin t row kind) plain q) ≡ lines (tablets_in old q)
  told_lines plain (Refused NoMemory) q = refl
  told_lines plain told q = exactly_lines plain q

  none_numbered : (told : Told) (n : ℕ) → tablet_told told work n ≡ n
  none_numbered Done n = refl
  none_numbered told n = refl

pub begun_belong : BegunBelong
begun_belong old new now given t row kind plain told m was exact =
    let names : Names m row (tablet_of row (tablets_in old t)) = was_begun old now given t row kind m told exact.hands in
    let same : (q : List ℕ) → lines (tablets_in new q) ≡ lines (tablets_in old q) = λ q. ap lines (exact.tablets q) ∙ told_lines old now given t row kind plain told q in
    let next : new.tablet ≡ old.tablet = exact.tablet ∙ none_numbered old now given t row kind told old.tablet in
    let had : has_number m.merge.tablet (tablets_in old t) ≡ true = ap (λ k. has_number k (tablets_in old t)) names.number ∙ row_has row (tablets_in old t) names.tablet names.there in (
      same_number m.row (tablets_in new t) (tablets_in old t) (same t) ∙ ap (λ r. number_at r (tablets_in old t)) names.asked ∙ ap (option_map (λ (x : Tablet). x.number)) names.there ∙ ap Some (sym names.number),
      λ lt. let a : AreNumbered (tablets_in old) old.tablet = was (subst (λ n. n < 18446744073709551615) next lt) in record {
        table = λ r h. a.apart r t m.merge.tablet (sym (same_has m.merge.tablet (tablets_in new r) (tablets_in old r) (same r)) ∙ h) had;
        row = same_beside m.merge.tablet m.row (tablets_in new t) (tablets_in old t) (same t) ∙ (λ i. has_number (names.number i) (beside_row (names.asked i) (tablets_in old t))) ∙ row_alone row (tablets_in old t) names.tablet (a.once t) names.there;
        given = subst (λ n. m.merge.tablet < n) (sym next) (a.below t m.merge.tablet had);
      },
    )

-- ---- an install into another table
module _ (old : CoreContents) (now : ℤ) (q r : List ℕ) (m : TabletMerge) (b : BelongsTo q m (tablets_in old) old.tablet) (ne : r ≢ q) where
  none_there : has_number m.merge.tablet (tablets_in old r) ≡ false
  none_there = by_bool (has_number m.merge.tablet (tablets_in old r)) (λ h. absurd (ne (b.table r h))) (λ f. f)

  told_stale : told_by old now (On r (Installing (Some m))) Done ≡ Refused (Stale 0)
  unfolding lays
  told_stale = ap (λ (s : Installed × List Tablet). told_install Done s.0) (others_are_stale m (tablets_in old r) none_there)

  all_stay : (s : List ℕ) → laid_by old now (On r (Installing (Some m))) Done s ≡ tablets_in old s
  unfolding lays
  all_stay s = go (bytes_eq r s) refl
    where
      go : (v : Bool) → bytes_eq r s ≡ v → cond v (lays_in old now (Installing (Some m)) Done (table_in old s)).1 (tablets_in old s) ≡ tablets_in old s
      go true e = ap (λ (x : Installed × List Tablet). x.1) (others_are_stale m (tablets_in old s) (ap (λ n. has_number m.merge.tablet (tablets_in old n)) (sym ((bytes_decides r s).0 e)) ∙ none_there))
      go false e = refl

pub elsewhere_is_stale : ElsewhereIsStale
elsewhere_is_stale old new now job q r by m told lt was ne exact = go exact.answers
  where
    b : BelongsTo q m (tablets_in old) old.tablet
    b = was lt

    stays : (reply : Told) → told ≡ reply → ((s : List ℕ) → laid_told reply old now (Some m) (Install r by) Done s ≡ tablets_in old s) → (s : List ℕ) → tablets_in new s ≡ tablets_in old s
    stays reply is f s = exact.tablets s ∙ ap (λ x. laid_told x old now (Some m) (Install r by) Done s) is ∙ f s

    go : (told ≡ told_exactly old now (Some m) (Install r by) Done) ⊎ ((true ≡ true) × (told ≡ Refused NoMemory)) → ((told ≡ Refused (Stale 0)) ⊎ (told ≡ Refused NoMemory)) × ((s : List ℕ) → tablets_in new s ≡ tablets_in old s)
    go (inl e) = let is : told ≡ Refused (Stale 0) = e ∙ told_stale old now q r m b ne in (inl is, stays (Refused (Stale 0)) is (all_stay old now q r m b ne))
    go (inr e) = (inr e.1, stays (Refused NoMemory) e.1 (λ s. refl))
