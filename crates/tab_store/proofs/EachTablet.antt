-- Where what the tablets of a table hold refines some updates, each of them refines those in its rows.
use Rattle.std.proofs.Common.{◌≡◌, ℕ, List, [], ◌∷◌, ◌++◌, not, ◌∙◌, ap, subst, append-nil}
use Rattle.std.specs.Prelude.{ℤ, filter}
use Rattle.std.proofs.lemmas.List.Sorted.{IsPermutation-sym}
use Rattle.tab_key.specs.Records.{Record}
use Rattle.tab_key.specs.Sorted.{sorted}
use Rattle.tab_cells.proofs.Lists.{filter_append}
use Rattle.tab_iter.proofs.ColumnLaws.{filter_none}
use Rattle.tab_tablets.specs.Tablets.{Tablet, is_up_to, records_in}
use Rattle.tab_tablets.specs.ByRow.{records_of_all, AreWhole}
use Rattle.tab_tablets.specs.Places.{HoldOwnRows}
use Rattle.tab_tablets.proofs.Gathered.{permuted_sorted}
use Rattle.tab_history.specs.Held.{RefinesTable}
use Rattle.tab_store.specs.Keeping.{is_low, is_high, TabletsRefine, EachTabletRefines}
use Rattle.tab_store.proofs.ByRows.{rows_refine}
use Rattle.tab_store.proofs.OneTablet.{permuted_refines}
use Rattle.tab_store.proofs.Accepted.{own_rows}
use Rattle.tab_store.proofs.AllTablets.{filter_all}

-- ---- one tablet, and those behind it
module _ (t : Tablet) (ts : List Tablet) (own : HoldOwnRows (t ∷ ts)) where
  -- what is held up to its end row is what it holds
  low_held : filter (is_low t.end) (records_of_all (t ∷ ts)) ≡ records_in t
  low_held = filter_append (is_low t.end) (records_in t) (records_of_all ts)
      ∙ ap (λ l. l ++ filter (is_low t.end) (records_of_all ts)) (filter_all (is_low t.end) (records_in t) own.0)
      ∙ ap (λ l. records_in t ++ l) (filter_none (is_low t.end) (records_of_all ts) own.1)
      ∙ append-nil (records_in t)

  -- and what is held above it is what those behind it hold
  high_held : filter (is_high t.end) (records_of_all (t ∷ ts)) ≡ records_of_all ts
  high_held = filter_append (is_high t.end) (records_in t) (records_of_all ts)
      ∙ ap (λ l. l ++ filter (is_high t.end) (records_of_all ts)) (filter_none (is_high t.end) (records_in t) (λ u h. ap not (own.0 u h)))
      ∙ filter_all (is_high t.end) (records_of_all ts) (λ u h. ap not (own.1 u h))

  module _ (us : List Record) (next n : ℕ) (floor : ℤ) (all : RefinesTable (records_of_all (t ∷ ts)) us next n floor) where
    low_refines : RefinesTable (records_in t) (filter (is_low t.end) us) next n floor
    low_refines = subst (λ l. RefinesTable l (filter (is_low t.end) us) next n floor) low_held (rows_refine (is_up_to t.end) (records_of_all (t ∷ ts)) us next n floor all)

    high_refines : RefinesTable (records_of_all ts) (filter (is_high t.end) us) next n floor
    high_refines = subst (λ l. RefinesTable l (filter (is_high t.end) us) next n floor) high_held (rows_refine (λ r. not (is_up_to t.end r)) (records_of_all (t ∷ ts)) us next n floor all)

-- above the last tablet of a table there is no row
none_above : (t : Tablet) (us : List Record) → AreWhole (t ∷ []) → filter (is_high t.end) us ≡ []
none_above t us whole = filter_none (is_high t.end) us (λ u h. ap (λ o. not (is_up_to o u.key.row)) whole)

-- ---- all tablets; their merges under way don't depend on the updates
each_refines : (ts : List Tablet) (vs us : List Record) (next n : ℕ) (floor : ℤ) → AreWhole ts → TabletsRefine ts vs next n floor → RefinesTable (records_of_all ts) us next n floor → TabletsRefine ts us next n floor
each_refines [] vs us next n floor whole a all = absurd whole
each_refines (t ∷ []) vs us next n floor whole a all = (record { refines = low_refines t [] (own_rows (t ∷ []) vs next n floor a) us next n floor all; jobs = a.0.jobs }, none_above t us whole)
each_refines (t ∷ s ∷ ts) vs us next n floor whole a all =
    let own : HoldOwnRows (t ∷ s ∷ ts) = own_rows (t ∷ s ∷ ts) vs next n floor a in (
      record { refines = low_refines t (s ∷ ts) own us next n floor all; jobs = a.0.jobs },
      each_refines (s ∷ ts) (filter (is_high t.end) vs) (filter (is_high t.end) us) next n floor whole.1 a.1 (high_refines t (s ∷ ts) own us next n floor all),
    )

pub each_tablet_refines : EachTabletRefines
each_tablet_refines ts us next n floor s all = each_refines ts (sorted (records_of_all ts)) us next n floor s.whole s.refines
    (permuted_refines (sorted (records_of_all ts)) (records_of_all ts) us next n floor (IsPermutation-sym (records_of_all ts) (sorted (records_of_all ts)) (permuted_sorted (records_of_all ts))) all)
