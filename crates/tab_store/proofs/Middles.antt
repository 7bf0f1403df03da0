-- The row in the middle of what a tablet holds lies in its rows, and is no end row.
use Rattle.std.proofs.Common.{◌≡◌, ℕ, zero, suc, ◌<◌, List, [], ◌∷◌, false, refl, sym, ◌∙◌, ap, length, arith}
use Rattle.std.specs.Prelude.{ℤ, filter, Some}
use Rattle.tab_key.specs.Records.{Record}
use Rattle.tab_key.specs.Sorted.{sorted, IsDistinct, IsIn}
use Rattle.tab_tablets.specs.Tablets.{Tablet, records_in}
use Rattle.tab_tablets.specs.Splitting.{middle_row, rows_in}
use Rattle.tab_tablets.proofs.Parted.{some_is}
use Rattle.tab_tablets.specs.ByRow.{AreWhole, tablet_of, records_of_all, is_end}
use Rattle.tab_tablets.specs.Places.{tablet_at}
use Rattle.tab_tablets.proofs.EndRows.{has_place, tablet_at_place, end_at_place}
use Rattle.tab_tablets.proofs.Rows.{in_all}
use Rattle.tab_tablets.proofs.Middle.{middle_held, middle_place, middle_fresh}
use Rattle.tab_store.specs.Keeping.{is_high, TabletsRefine, MiddlesLieInside}
use Rattle.tab_store.proofs.Accepted.{own_rows}

-- a tablet holds no record twice
once_at : (ts : List Tablet) (us : List Record) (next n : ℕ) (floor : ℤ) (p : ℕ) → TabletsRefine ts us next n floor → p < length ts → IsDistinct (records_in (tablet_at ts p))
once_at [] us next n floor p a lt = absurd (omega arith)
once_at (t ∷ ts) us next n floor zero a lt = a.0.refines.held_once
once_at (t ∷ ts) us next n floor (suc p) a lt = once_at ts (filter (is_high t.end) us) next n floor p a.1 (omega arith)

-- a row of the tablet, which is no end row
pub record Lies (ts : List Tablet) (t : Tablet) (row : List ℕ) : Type 0 where
  pub found : tablet_of row ts ≡ Some t
  pub fresh : is_end row ts ≡ false
  pub which : Record
  pub member : IsIn (records_of_all ts) which
  pub is : which.key.row ≡ row

module _ (next n : ℕ) (floor : ℤ) (at middle : List ℕ) (t : Tablet) (halves : middle_row (rows_in t) ≡ Some middle) where
  pub lies : (ts : List Tablet) (us : List Record) → AreWhole ts → TabletsRefine ts us next n floor → tablet_of at ts ≡ Some t → Lies ts t middle
  lies ts us w a e =
      let k = has_place at ts w in
      let same : tablet_at ts k.0 ≡ t = some_is (tablet_at ts k.0) t (sym (tablet_at_place at ts k.0 k.1) ∙ e) in
      let halved : middle_row (rows_in (tablet_at ts k.0)) ≡ Some middle = ap (λ (s : Tablet). middle_row (rows_in s)) same ∙ halves in
      let own = own_rows ts us next n floor a in
      let once = once_at ts us next n floor k.0 a k.1.inside in
      let place = middle_place ts k.0 (tablet_at ts k.0) middle own k.1.inside refl once (sym halved) in
      let held = middle_held (tablet_at ts k.0) middle once halved in
      record {
        found = tablet_at_place middle ts k.0 place ∙ ap Some same;
        fresh = end_at_place middle ts k.0 w place ∙ middle_fresh ts k.0 (tablet_at ts k.0) middle own k.1.inside refl once (sym halved);
        which = held.0;
        member = in_all ts k.0 held.0 held.1;
        is = held.2;
      }

pub middles_lie_inside : MiddlesLieInside
middles_lie_inside ts next n floor row middle t s found halves =
    let l : Lies ts t middle = lies next n floor row middle t halves ts (sorted (records_of_all ts)) s.whole s.refines found in
    (l.found, l.fresh)
