-- What a scan of the rows in range shows.
use Rattle.std.proofs.Common.{◌≡◌, ℕ, List, Bool, true, false, ◌&&◌, refl, sym, ◌∙◌, ap}
use Rattle.std.specs.Prelude.{filter, map}
use Rattle.tab_key.specs.Records.{Record, cell_of}
use Rattle.tab_key.specs.Kept.{is_kept}
use Rattle.tab_key.specs.Sorted.{sorted, IsDistinct}
use Rattle.tab_key.specs.Ranges.{is_in_range}
use Rattle.tab_key.specs.Columns.{is_selected}
use Rattle.tab_key.specs.declared.column.Column.{Column}
use Rattle.tab_key.specs.declared.range.Bounds.{Bounds}
use Rattle.tab_label.specs.Holding.{label_holds}
use Rattle.tab_key.proofs.Rising.{distinct_filter}
use Rattle.tab_cells.specs.Cells.{Query, matches, is_shown, cells}
use Rattle.tab_iter.specs.Stack.{query_of}
use Rattle.tab_iter.proofs.BagLaws.{sorted_filter}
use Rattle.tab_cells.proofs.Lists.{and_false, filter_seen}
use Rattle.tab_cells.proofs.RowsInRange.{kept_seen}
use Rattle.tab_version.proofs.InOrder.{cells_sorted}
use Rattle.tab_tablet.specs.Opened.{ShowsRowsOf}

-- all rows of what is in range show what the range shows of all
module _ (us : List Record) (n : ℕ) (bounds : Bounds) (columns : List Column) (auths : List (List ℕ)) where
  abbrev asked : Query
  asked = record { bounds = bounds; columns = columns; authorizations = auths }

  abbrev part : List Record
  part = filter (λ u. is_in_range bounds u.key.row) us

  cells_part : cells part n (query_of columns auths) ≡ cells us n asked
  unfolding cells matches
  cells_part = ap (λ l. map cell_of (sorted l)) (sym (filter_seen (λ u. is_in_range bounds u.key.row) (is_shown us n asked) (is_shown part n (query_of columns auths)) skip same us))
    where
      skip : (u : Record) → is_in_range bounds u.key.row ≡ false → is_shown us n asked u ≡ false
      skip u e = rw e (ap (λ v. v && is_selected columns u.key && is_kept us n u) (and_false (label_holds u.key.label auths)))

      same : (u : Record) → is_in_range bounds u.key.row ≡ true → is_shown us n asked u ≡ is_shown part n (query_of columns auths) u
      same u e = rw (e, kept_seen bounds us n u e) refl

-- so do the records in range in any order
pub cells_open : (us : List Record) (n : ℕ) (bounds : Bounds) (columns : List Column) (auths : List (List ℕ)) → IsDistinct us
    → cells (filter (λ u. is_in_range bounds u.key.row) us) n (query_of columns auths) ≡ cells (sorted us) n (record { bounds = bounds; columns = columns; authorizations = auths })
cells_open us n bounds columns auths d =
    let p : Record → Bool = λ u. is_in_range bounds u.key.row in
    sym (cells_sorted (filter p us) (sorted (filter p us)) n columns auths (distinct_filter p us d) refl)
    ∙ ap (λ l. cells l n (query_of columns auths)) (sorted_filter p us d)
    ∙ cells_part (sorted us) n bounds columns auths

-- whatever is asked
pub shows_rows : (us : List Record) (bounds : Bounds) (vs : List Record) → IsDistinct us → vs ≡ filter (λ u. is_in_range bounds u.key.row) us → ShowsRowsOf bounds (sorted us) vs
shows_rows us bounds vs d is = λ n columns auths. ap (λ l. cells l n (query_of columns auths)) is ∙ cells_open us n bounds columns auths d
