-- Whatever is done to the tablets of a table, none has the number of another one.
use Rattle.std.proofs.Common.{◌≡◌, ◌⊎◌, inl, inr, ℕ, ◌+◌, ◌≤◌, ◌<◌, List, [], ◌∷◌, ◌++◌, Bool, true, false, cond, ◌||◌, ◌==◌, refl, sym, ◌∙◌, ap, subst, arith}
use Rattle.std.specs.Prelude.{ℤ, Option, Some, None, map, nat_lt}
use Rattle.std.proofs.lemmas.Bool.Decides.{nat_tests}
use mathlib.Core.Bool.{true≢false}
use Rattle.tab_cells.specs.Written.{mutation_records}
use Rattle.tab_cells.specs.declared.compaction.Compaction.{Compaction}
use Rattle.tab_cells.proofs.Lists.{by_bool}
use Rattle.tab_tablets.specs.Sources.{Sources, size_of, left_by}
use Rattle.tab_tablets.specs.Merges.{Merge}
use Rattle.tab_tablets.specs.Tablets.{Tablet, next_number, is_up_to, written, frozen, capture, replaced_in, merged_by, compacted, begins}
use Rattle.tab_tablets.specs.Splitting.{split_at, middle_row, rows_in}
use Rattle.tab_tablets.specs.ByRow.{at_row, tablet_of, is_end}
use Rattle.tab_tablets.specs.Splits.{is_full, split_in, splits, split_found, halved, halves}
use Rattle.tab_tablets.specs.declared.splitting.Split.{Split}
use Rattle.tab_tablets.specs.declared.splitting.Split.TheVariants as split
use Rattle.tab_tablets.proofs.Parted.{nat_same}
use Rattle.tab_history.specs.Answers.{Told}
use Rattle.tab_history.specs.declared.reply.Reply.TheVariants.{Done}
use Rattle.tab_store.specs.Stepping.{TabletWork, Freezing, Writing, Compacting, Counting, Splitting, Halving, Listing, Beginning, Installing, On, WorkContext, floor_at, told_split, laid_install, lays, tablets_numbered, tablet_told}
use Rattle.tab_store.specs.Numbers.{has_number, NumbersDiffer}
use Rattle.tab_store.proofs.InstallCases.{with_merge, with_merge_number, after_install}

-- ---- tests
pub or_true : (a b : Bool) → (a || b) ≡ true → (a ≡ true) ⊎ (b ≡ true)
or_true true b e = inl refl
or_true false b e = inr e

pub or_right : (a b : Bool) → b ≡ true → (a || b) ≡ true
or_right true b e = refl
or_right false b e = e

pub or_none : (a b : Bool) → a ≡ false → b ≡ false → (a || b) ≡ false
or_none true b e f = absurd (true≢false e)
or_none false b e f = f

pub itself : (k : ℕ) → (k == k) ≡ true
itself k = grind (arith, nat_tests)

other : (a b : ℕ) → b ≡ a + 1 → (b == a) ≡ false
other a b e = grind (arith, nat_tests, e)

-- ---- where each tablet keeps its number
module _ (f : Tablet → Tablet) (same : (t : Tablet) → (f t).number ≡ t.number) where
  pub has_map : (k : ℕ) (ts : List Tablet) → has_number k (map f ts) ≡ has_number k ts
  has_map k [] = refl
  has_map k (t ∷ ts) = λ i. same t i == k || has_map k ts i

  differ_map : (ts : List Tablet) → NumbersDiffer ts → NumbersDiffer (map f ts)
  differ_map [] d = tt
  differ_map (t ∷ ts) d = (ap (λ k. has_number k (map f ts)) (same t) ∙ has_map t.number ts ∙ d.0, differ_map ts d.1)

  module _ (row : List ℕ) where
    has_at : (k : ℕ) (ts : List Tablet) → has_number k (at_row row (λ t. f t ∷ []) ts) ≡ has_number k ts
    has_at k [] = refl
    has_at k (t ∷ ts) = go (is_up_to t.end row) (has_at k ts)
      where
        go : (v : Bool) → has_number k (at_row row (λ s. f s ∷ []) ts) ≡ has_number k ts → has_number k (cond v (f t ∷ ts) (t ∷ at_row row (λ s. f s ∷ []) ts)) ≡ has_number k (t ∷ ts)
        go true ih = ap (λ n. n == k || has_number k ts) (same t)
        go false ih = ap (λ v. t.number == k || v) ih

    differ_at : (ts : List Tablet) → NumbersDiffer ts → NumbersDiffer (at_row row (λ t. f t ∷ []) ts)
    differ_at [] d = tt
    differ_at (t ∷ ts) d = go (is_up_to t.end row) (differ_at ts d.1)
      where
        go : (v : Bool) → NumbersDiffer (at_row row (λ s. f s ∷ []) ts) → NumbersDiffer (cond v (f t ∷ ts) (t ∷ at_row row (λ s. f s ∷ []) ts))
        go true ih = (ap (λ k. has_number k ts) (same t) ∙ d.0, d.1)
        go false ih = (has_at t.number ts ∙ d.0, ih)

-- ---- where one is split
module _ (row : List ℕ) (n : ℕ) where
  -- the numbers that it gets
  abbrev IsNew : ℕ → Type 0
  IsNew k = (n ≡ k) ⊎ (next_number n ≡ k)

  pub has_split : (k : ℕ) (ts : List Tablet) → has_number k (at_row row (split_at row n) ts) ≡ true → (has_number k ts ≡ true) ⊎ IsNew k
  has_split k [] h = inl h
  has_split k (t ∷ ts) h = go (is_up_to t.end row) h (has_split k ts)
    where
      lower : ((n == k) ≡ true) ⊎ ((next_number n == k || has_number k ts) ≡ true) → (has_number k (t ∷ ts) ≡ true) ⊎ IsNew k
      lower (inl e) = inr (inl (nat_same n k e))
      lower (inr e) = upper (or_true (next_number n == k) (has_number k ts) e)
        where
          upper : ((next_number n == k) ≡ true) ⊎ (has_number k ts ≡ true) → (has_number k (t ∷ ts) ≡ true) ⊎ IsNew k
          upper (inl q) = inr (inr (nat_same (next_number n) k q))
          upper (inr q) = inl (or_right (t.number == k) (has_number k ts) q)

      passed : ((t.number == k) ≡ true) ⊎ (has_number k (at_row row (split_at row n) ts) ≡ true) → (has_number k (at_row row (split_at row n) ts) ≡ true → (has_number k ts ≡ true) ⊎ IsNew k) → (has_number k (t ∷ ts) ≡ true) ⊎ IsNew k
      passed (inl e) ih = inl (ap (λ v. v || has_number k ts) e)
      passed (inr e) ih = further (ih e)
        where
          further : (has_number k ts ≡ true) ⊎ IsNew k → (has_number k (t ∷ ts) ≡ true) ⊎ IsNew k
          further (inl q) = inl (or_right (t.number == k) (has_number k ts) q)
          further (inr q) = inr q

      go : (v : Bool) → has_number k (cond v (split_at row n t ++ ts) (t ∷ at_row row (split_at row n) ts)) ≡ true → (has_number k (at_row row (split_at row n) ts) ≡ true → (has_number k ts ≡ true) ⊎ IsNew k) → (has_number k (t ∷ ts) ≡ true) ⊎ IsNew k
      go true e ih = lower (or_true (n == k) (next_number n == k || has_number k ts) e)
      go false e ih = passed (or_true (t.number == k) (has_number k (at_row row (split_at row n) ts)) e) ih

  module _ (step : next_number n ≡ n + 1) where
    -- none has a number that is still to be given
    fresh : (k : ℕ) (ts : List Tablet) → ((j : ℕ) → has_number j ts ≡ true → j < n) → n ≤ k → has_number k ts ≡ false
    fresh k ts below le = by_bool (has_number k ts) (λ h. let lt = below k h in absurd (omega (arith, lt, le))) (λ f. f)

    differ_split : (ts : List Tablet) → NumbersDiffer ts → ((j : ℕ) → has_number j ts ≡ true → j < n) → NumbersDiffer (at_row row (split_at row n) ts)
    differ_split [] d below = tt
    differ_split (t ∷ ts) d below = go (is_up_to t.end row) (differ_split ts d.1 later)
      where
        later : (j : ℕ) → has_number j ts ≡ true → j < n
        later j h = below j (or_right (t.number == j) (has_number j ts) h)

        here : t.number < n
        here = below t.number (ap (λ v. v || has_number t.number ts) (itself t.number))

        alone : (has_number t.number ts ≡ true) ⊎ IsNew t.number → ⊥
        alone (inl h) = true≢false (sym h ∙ d.0)
        alone (inr (inl e)) = omega (arith, here, e)
        alone (inr (inr e)) = omega (arith, here, e, step)

        go : (v : Bool) → NumbersDiffer (at_row row (split_at row n) ts) → NumbersDiffer (cond v (split_at row n t ++ ts) (t ∷ at_row row (split_at row n) ts))
        go true ih = (
          or_none (next_number n == n) (has_number n ts) (other n (next_number n) step) (fresh n ts later (omega arith)),
          (fresh (next_number n) ts later (omega (arith, step)), d.1),
        )
        go false ih = (by_bool (has_number t.number (at_row row (split_at row n) ts)) (λ h. absurd (alone (has_split t.number ts h))) (λ f. f), ih)

-- ---- the tablets of one table
-- once something was done to them: none has the number of another one, and each number is one of theirs, or new
pub record Renumbered (first next : ℕ) (ts after : List Tablet) : Type 0 where
  pub differ : NumbersDiffer after
  pub from : (k : ℕ) → has_number k after ≡ true → (has_number k ts ≡ true) ⊎ ((first ≤ k) × (k < next))

-- a split gives two
two_more : (n : ℕ) → next_number (next_number n) < 18446744073709551615 → (next_number n ≡ n + 1) × (next_number (next_number n) ≡ n + 2)
two_more n lt = (omega (arith, lt), omega (arith, lt))

-- the answer of histories to a split is that it is done
abbrev pub IsPlain : TabletWork → Told → Type 0
IsPlain (Splitting row) plain = plain ≡ Done
IsPlain (Halving row limit) plain = plain ≡ Done
IsPlain _ plain = Unit {0}

pub compacted_number : (kind : Compaction) (floor : ℤ) (n : ℕ) (t : Tablet) → (compacted kind floor n t).number ≡ t.number
compacted_number kind floor n t = go (capture 0 kind floor n t)
  where
    by_left : (m : Merge) (o : Option Sources) → (replaced_in m o (frozen t)).number ≡ t.number
    by_left m None = refl
    by_left m (Some left) = refl

    go : (o : Option Merge) → (merged_by o (frozen t)).number ≡ t.number
    go None = refl
    go (Some m) = by_left m (left_by m.inputs (frozen t).sources)

module _ (p : WorkContext) (t : List ℕ) (ts : List Tablet) (d : NumbersDiffer ts) (below : (k : ℕ) → has_number k ts ≡ true → k < p.tablet) where
  mapped : (f : Tablet → Tablet) → ((x : Tablet) → (f x).number ≡ x.number) → (next : ℕ) → Renumbered p.tablet next ts (map f ts)
  mapped f same next = record { differ = differ_map f same ts d; from = λ k h. inl (sym (has_map f same k ts) ∙ h) }

  put : (row : List ℕ) (f : Tablet → Tablet) → ((x : Tablet) → (f x).number ≡ x.number) → (next : ℕ) → Renumbered p.tablet next ts (at_row row (λ x. f x ∷ []) ts)
  put row f same next = record { differ = differ_at f same row ts d; from = λ k h. inl (sym (has_at f same row k ts) ∙ h) }

  unchanged : (next : ℕ) → Renumbered p.tablet next ts ts
  unchanged next = record { differ = d; from = λ k h. inl h }

  divided : (row : List ℕ) → next_number (next_number p.tablet) < 18446744073709551615 → Renumbered p.tablet (next_number (next_number p.tablet)) ts (at_row row (split_at row p.tablet) ts)
  divided row lt = record {
    differ = differ_split row p.tablet (two_more p.tablet lt).0 ts d below;
    from = λ k h. given k (has_split row p.tablet k ts h);
  }
    where
      given : (k : ℕ) → (has_number k ts ≡ true) ⊎ (p.tablet ≡ k) ⊎ (next_number p.tablet ≡ k) → (has_number k ts ≡ true) ⊎ ((p.tablet ≤ k) × (k < next_number (next_number p.tablet)))
      given k (inl h) = inl h
      given k (inr (inl e)) = let two = two_more p.tablet lt in let b = two.1 in inr (omega (arith, e), omega (arith, e, b))
      given k (inr (inr e)) = let two = two_more p.tablet lt in let a = two.0 in let b = two.1 in inr (omega (arith, e, a), omega (arith, e, a, b))

  -- what is left, where that many are numbered
  abbrev pub Leaves : TabletWork → Told × List Tablet → Type 0
  Leaves work s = tablet_told s.0 (On t work) p.tablet < 18446744073709551615 → Renumbered p.tablet (tablet_told s.0 (On t work) p.tablet) ts s.1

  module _ (work : TabletWork) (plain : Told) (is : plain ≡ Done) (two : tablets_numbered (On t work) p.tablet ≡ next_number (next_number p.tablet)) where
    abbrev Ends : Split × List Tablet → Type 0
    Ends s = Leaves work (told_split plain s.0, s.1)

    stays : (x : Split) → Ends (x, ts)
    stays x lt = unchanged (tablet_told (told_split plain x) (On t work) p.tablet)

    cut : (row : List ℕ) → Ends (split.Done, at_row row (split_at row p.tablet) ts)
    cut row = subst (λ (r : Told). Leaves work (r, at_row row (split_at row p.tablet) ts)) (sym is)
        (λ lt. subst (λ m. Renumbered p.tablet m ts (at_row row (split_at row p.tablet) ts)) (sym two) (divided row (subst (λ m. m < 18446744073709551615) two lt)))

    within : (row : List ℕ) → Ends (split_in row p.tablet ts)
    within row = go (is_full ts)
      where
        go : (v : Bool) → Ends (cond {A = Split × List Tablet} v (split.Full, ts) (split.Done, at_row row (split_at row p.tablet) ts))
        go true = stays split.Full
        go false = cut row

    at_a_row : (row : List ℕ) → Ends (splits row p.tablet ts)
    at_a_row row = go (is_end row ts)
      where
        go : (v : Bool) → Ends (cond {A = Split × List Tablet} v (split.Present, ts) (split_in row p.tablet ts))
        go true = stays split.Present
        go false = within row

    found : (o : Option (List ℕ)) → Ends (split_found o p.tablet ts)
    found None = stays split.OneRow
    found (Some row) = within row

    by_size : (row : List ℕ) (limit : ℕ) → Ends (halves row limit p.tablet ts)
    by_size row limit = go (tablet_of row ts)
      where
        sized : (x : Tablet) (v : Bool) → Ends (cond {A = Split × List Tablet} v (split.Small, ts) (split_found (middle_row (rows_in x)) p.tablet ts))
        sized x true = stays split.Small
        sized x false = found (middle_row (rows_in x))

        go : (o : Option Tablet) → Ends (halved limit p.tablet o ts)
        go None = stays split.OneRow
        go (Some x) = sized x (nat_lt (size_of x.sources) limit)

  pub work_numbers : (work : TabletWork) (plain : Told) → IsPlain work plain → Leaves work (lays p work plain ts)
  unfolding lays
  work_numbers Freezing plain s lt = mapped frozen (λ x. refl) _
  work_numbers (Writing m) plain s lt = put m.row (written (mutation_records p.next p.now m)) (λ x. refl) _
  work_numbers (Compacting kind) plain s lt = mapped (compacted kind (floor_at p) p.settings.versions) (compacted_number kind (floor_at p) p.settings.versions) _
  work_numbers Counting plain s lt = unchanged _
  work_numbers (Splitting row) plain s lt = at_a_row (Splitting row) plain s refl row lt
  work_numbers (Halving row limit) plain s lt = by_size (Halving row limit) plain s refl row limit lt
  work_numbers Listing plain s lt = unchanged _
  work_numbers (Beginning row kind) plain s lt = put row (begins p.job kind (floor_at p) p.settings.versions) (λ x. refl) _
  work_numbers (Installing given) plain s lt =
      let next : ℕ = tablet_told (laid_install plain given ts).0 (On t (Installing given)) p.tablet in
      after_install (λ after. Renumbered p.tablet next ts after) ts (unchanged next) (λ m. put m.row (with_merge m.merge) (with_merge_number m.merge) next) plain given
