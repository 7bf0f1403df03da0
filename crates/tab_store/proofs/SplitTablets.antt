-- A split of one of the tablets of a table leaves each of them refining the updates in its rows.
use Rattle.std.proofs.Common.{◌≡◌, ℕ, List, [], ◌∷◌, ◌++◌, Bool, true, false, cond, not, ◌&&◌, refl, sym, ◌∙◌, ap, subst}
use Rattle.std.specs.Prelude.{ℤ, filter, Some}
use mathlib.Core.Bool.{true≢false}
use Rattle.tab_key.specs.Records.{Record}
use Rattle.tab_cells.proofs.Lists.{by_bool, and_false, filter_seen}
use Rattle.tab_tablets.specs.Tablets.{Tablet, next_number, is_up_to}
use Rattle.tab_tablets.specs.Splitting.{lower_at, upper_at, split_at}
use Rattle.tab_tablets.specs.ByRow.{at_row}
use Rattle.tab_tablets.proofs.EndRows.{lower_up}
use Rattle.tab_tablets.proofs.Rows.{beyond}
use Rattle.tab_store.specs.Keeping.{TabletRefines, is_low, is_high, TabletsRefine}
use Rattle.tab_store.proofs.CutTablet.{splits_keep}

-- ---- filters
filter_under : (p q : Record → Bool) → ((u : Record) → p u ≡ false → q u ≡ false) → (xs : List Record) → filter q xs ≡ filter q (filter p xs)
filter_under p q f xs = filter_seen p q q f (λ u t. refl) xs

and_true : (v : Bool) → (v && true) ≡ v
and_true true = refl
and_true false = refl

filter_turned : (p q : Record → Bool) (xs : List Record) → filter q (filter p xs) ≡ filter p (filter q xs)
filter_turned p q xs =
    sym (filter_seen p (λ u. p u && q u) q (λ u f. ap (λ v. v && q u) f) (λ u t. ap (λ v. v && q u) t) xs)
    ∙ filter_seen q (λ u. p u && q u) p (λ u f. ap (λ v. p u && v) f ∙ and_false (p u)) (λ u t. ap (λ v. p u && v) t ∙ and_true (p u)) xs

-- ---- the split
module _ (row : List ℕ) (number next n : ℕ) (floor : ℤ) where
  -- of the tablet that holds the row, with those behind it
  here_split : (t : Tablet) (ts : List Tablet) (us : List Record) → is_up_to t.end row ≡ true → TabletRefines t (filter (is_low t.end) us) next n floor → TabletsRefine ts (filter (is_high t.end) us) next n floor
      → TabletsRefine (split_at row number t ++ ts) us next n floor
  here_split t ts us e h a =
      let both = splits_keep row number (next_number number) t (filter (is_low t.end) us) next n floor h in (
        subst (λ l. TabletRefines (lower_at row number t) l next n floor) (sym (filter_under (is_low t.end) (is_low (Some row)) lower us)) both.0,
        (
          subst (λ l. TabletRefines (upper_at row (next_number number) t) l next n floor) (filter_turned (is_low t.end) (is_high (Some row)) us) both.1,
          subst (λ l. TabletsRefine ts l next n floor) (filter_under (is_high (Some row)) (is_high t.end) behind us) a,
        ),
      )
    where
      lower : (u : Record) → is_low t.end u ≡ false → is_low (Some row) u ≡ false
      lower u f = beyond row number t.end u.key.row e f

      behind : (u : Record) → is_high (Some row) u ≡ false → is_high t.end u ≡ false
      behind u f = by_bool (is_low (Some row) u) (λ w. ap not (lower_up t.end u.key.row row w e)) (λ w. absurd (true≢false (sym (ap not w) ∙ f)))

  pub all_split : (ts : List Tablet) (us : List Record) → TabletsRefine ts us next n floor → TabletsRefine (at_row row (split_at row number) ts) us next n floor
  all_split [] us a = a
  all_split (t ∷ ts) us a = go (is_up_to t.end row) refl (all_split ts (filter (is_high t.end) us) a.1)
    where
      go : (v : Bool) → is_up_to t.end row ≡ v → TabletsRefine (at_row row (split_at row number) ts) (filter (is_high t.end) us) next n floor → TabletsRefine (cond v (split_at row number t ++ ts) (t ∷ at_row row (split_at row number) ts)) us next n floor
      go true e ih = here_split t ts us e a.0 a.1
      go false e ih = (a.0, ih)
