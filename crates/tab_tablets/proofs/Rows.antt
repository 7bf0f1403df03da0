-- Each record lies in a row of its tablet still.
use Rattle.std.proofs.Common.{◌≡◌, ◌⊎◌, inl, inr, ℕ, zero, suc, ◌<◌, List, [], ◌∷◌, ◌++◌, Bool, true, false, sym, ◌∙◌, ap, subst, length, arith}
use Rattle.std.specs.Prelude.{Option, map, Contains}
use Rattle.std.specs.Ordering.{is_le, is_gt}
use mathlib.Core.Bool.{true≢false}
use Rattle.tab_key.specs.Bytes.{bytes_cmp}
use Rattle.tab_key.specs.Records.{Record}
use Rattle.tab_key.specs.Sorted.{IsIn}
use Rattle.tab_key.proofs.Rising.{in_from, in_to, in_filter}
use Rattle.tab_cells.specs.Written.{TimedUpdate, records_of as mutated}
use Rattle.tab_cells.proofs.Lists.{by_bool, in_left, in_right, in_append}
use Rattle.tab_version.specs.Sources.{records_of}
use Rattle.tab_tablet.specs.Tablets.{Tablet, is_up_to, records_in, written, frozen}
use Rattle.tab_tablet.specs.Splitting.{cut_to, lower_at, upper_at, split_at}
use Rattle.tab_tablet.proofs.Compacted.{frozen_in}
use Rattle.tab_tablet.proofs.Cut.{clipped_records}
use Rattle.tab_tablets.specs.ByRow.{records_of_all}
use Rattle.tab_tablets.specs.Places.{tablet_at, IsPlaceOf, at_place, HoldOwnRows}
use Rattle.tab_tablets.proofs.Orders.{not_up_to}
use Rattle.tab_tablets.proofs.EndRows.{lower_up, first_place, next_place, later_place, first_over}
use Rattle.tab_tablets.proofs.At.{one}

-- ---- one tablet for one
module _ (f : Tablet → Tablet) (ends : (t : Tablet) → (f t).end ≡ t.end) (fewer : (t : Tablet) (u : Record) → IsIn (records_in (f t)) u → IsIn (records_in t) u) where
  pub in_map : (ts : List Tablet) (u : Record) → IsIn (records_of_all (map f ts)) u → IsIn (records_of_all ts) u
  in_map [] u k = k
  in_map (t ∷ ts) u k = go (in_append (records_in (f t)) (records_of_all (map f ts)) u k) (in_map ts u)
    where
      go : IsIn (records_in (f t)) u ⊎ IsIn (records_of_all (map f ts)) u → (IsIn (records_of_all (map f ts)) u → IsIn (records_of_all ts) u) → IsIn (records_in t ++ records_of_all ts) u
      go (inl a) ih = in_left (records_in t) (records_of_all ts) u (fewer t u a)
      go (inr b) ih = in_right (records_in t) (records_of_all ts) u (ih b)

  pub rows_map : (ts : List Tablet) → HoldOwnRows ts → HoldOwnRows (map f ts)
  rows_map [] h = tt
  rows_map (t ∷ ts) h = (
    λ u k. ap (λ o. is_up_to o u.key.row) (ends t) ∙ h.0 u (fewer t u k),
    λ u k. ap (λ o. is_up_to o u.key.row) (ends t) ∙ h.1 u (in_map ts u k),
    rows_map ts h.2,
  )

  in_one : (ts : List Tablet) (p : ℕ) (u : Record) → IsIn (records_of_all (at_place p (one f) ts)) u → IsIn (records_of_all ts) u
  in_one [] p u k = k
  in_one (t ∷ ts) zero u k = go (in_append (records_in (f t)) (records_of_all ts) u k)
    where
      go : IsIn (records_in (f t)) u ⊎ IsIn (records_of_all ts) u → IsIn (records_in t ++ records_of_all ts) u
      go (inl a) = in_left (records_in t) (records_of_all ts) u (fewer t u a)
      go (inr b) = in_right (records_in t) (records_of_all ts) u b
  in_one (t ∷ ts) (suc p) u k = go (in_append (records_in t) (records_of_all (at_place p (one f) ts)) u k) (in_one ts p u)
    where
      go : IsIn (records_in t) u ⊎ IsIn (records_of_all (at_place p (one f) ts)) u → (IsIn (records_of_all (at_place p (one f) ts)) u → IsIn (records_of_all ts) u) → IsIn (records_in t ++ records_of_all ts) u
      go (inl a) ih = in_left (records_in t) (records_of_all ts) u a
      go (inr b) ih = in_right (records_in t) (records_of_all ts) u (ih b)

  pub rows_one : (ts : List Tablet) (p : ℕ) → HoldOwnRows ts → HoldOwnRows (at_place p (one f) ts)
  rows_one [] p h = h
  rows_one (t ∷ ts) zero h = (
    λ u k. ap (λ o. is_up_to o u.key.row) (ends t) ∙ h.0 u (fewer t u k),
    λ u k. ap (λ o. is_up_to o u.key.row) (ends t) ∙ h.1 u k,
    h.2,
  )
  rows_one (t ∷ ts) (suc p) h = (h.0, λ u k. h.1 u (in_one ts p u k), rows_one ts p h.2)

-- ---- a write
-- the records of a mutation are of its row
pub mutation_rows : (seq : ℕ) (row : List ℕ) (us : List TimedUpdate) (u : Record) → IsIn (mutated seq row us) u → u.key.row ≡ row
unfolding mutated
mutation_rows seq row [] u h = absurd h
mutation_rows seq row (x ∷ us) u (inl e) = ap (λ (r : Record). r.key.row) (sym e)
mutation_rows seq row (x ∷ us) u (inr h) = mutation_rows seq row us u h

module _ (row : List ℕ) (us : List Record) (own : (u : Record) → IsIn us u → u.key.row ≡ row) where
  in_written : (t : Tablet) (u : Record) → IsIn (records_in (written us t)) u → IsIn us u ⊎ IsIn (records_in t) u
  in_written t u k = go (in_append (t.active ++ us) (records_of t.sources) u k)
    where
      back : IsIn t.active u ⊎ IsIn us u → IsIn us u ⊎ IsIn (records_in t) u
      back (inl a) = inr (in_left t.active (records_of t.sources) u a)
      back (inr b) = inl b

      go : IsIn (t.active ++ us) u ⊎ IsIn (records_of t.sources) u → IsIn us u ⊎ IsIn (records_in t) u
      go (inl a) = back (in_append t.active us u a)
      go (inr b) = inr (in_right t.active (records_of t.sources) u b)

  in_all_written : (ts : List Tablet) (p : ℕ) (u : Record) → IsIn (records_of_all (at_place p (one (written us)) ts)) u → IsIn us u ⊎ IsIn (records_of_all ts) u
  in_all_written [] p u k = inr k
  in_all_written (t ∷ ts) zero u k = go (in_append (records_in (written us t)) (records_of_all ts) u k)
    where
      back : IsIn us u ⊎ IsIn (records_in t) u → IsIn us u ⊎ IsIn (records_in t ++ records_of_all ts) u
      back (inl a) = inl a
      back (inr b) = inr (in_left (records_in t) (records_of_all ts) u b)

      go : IsIn (records_in (written us t)) u ⊎ IsIn (records_of_all ts) u → IsIn us u ⊎ IsIn (records_in t ++ records_of_all ts) u
      go (inl a) = back (in_written t u a)
      go (inr b) = inr (in_right (records_in t) (records_of_all ts) u b)
  in_all_written (t ∷ ts) (suc p) u k = go (in_append (records_in t) (records_of_all (at_place p (one (written us)) ts)) u k) (in_all_written ts p u)
    where
      back : IsIn us u ⊎ IsIn (records_of_all ts) u → IsIn us u ⊎ IsIn (records_in t ++ records_of_all ts) u
      back (inl a) = inl a
      back (inr b) = inr (in_right (records_in t) (records_of_all ts) u b)

      go : IsIn (records_in t) u ⊎ IsIn (records_of_all (at_place p (one (written us)) ts)) u → (IsIn (records_of_all (at_place p (one (written us)) ts)) u → IsIn us u ⊎ IsIn (records_of_all ts) u) → IsIn us u ⊎ IsIn (records_in t ++ records_of_all ts) u
      go (inl a) ih = inr (in_left (records_in t) (records_of_all ts) u a)
      go (inr b) ih = back (ih b)

  at_its_row : (o : Option (List ℕ)) (v : Bool) (u : Record) → is_up_to o row ≡ v → IsIn us u → is_up_to o u.key.row ≡ v
  at_its_row o v u e k = ap (is_up_to o) (own u k) ∙ e

  pub rows_written : (ts : List Tablet) (p : ℕ) → IsPlaceOf row ts p → HoldOwnRows ts → HoldOwnRows (at_place p (one (written us)) ts)
  rows_written [] p q h = h
  rows_written (t ∷ ts) zero q h = (λ u k. go u (in_written t u k), h.1, h.2)
    where
      go : (u : Record) → IsIn us u ⊎ IsIn (records_in t) u → is_up_to t.end u.key.row ≡ true
      go u (inl a) = at_its_row t.end true u q.holds a
      go u (inr b) = h.0 u b
  rows_written (t ∷ ts) (suc p) q h = (h.0, λ u k. go u (in_all_written ts p u k), rows_written ts p (later_place row t ts p q) h.2)
    where
      go : (u : Record) → IsIn us u ⊎ IsIn (records_of_all ts) u → is_up_to t.end u.key.row ≡ false
      go u (inl a) = at_its_row t.end false u (first_over row t ts p q) a
      go u (inr b) = h.1 u b

-- ---- a split
in_cut : (number : ℕ) (p : List ℕ → Bool) (t : Tablet) (u : Record) → IsIn (records_in (cut_to number p t)) u → IsIn (records_in t) u × (p u.key.row ≡ true)
in_cut number p t u k =
    let h = in_filter (λ (v : Record). p v.key.row) (records_in (frozen t)) u (subst (λ l. IsIn l u) (clipped_records p (frozen t).sources) k) in
    (frozen_in t u h.0, h.1)

module _ (row : List ℕ) (number : ℕ) where
  in_low : (t : Tablet) (u : Record) → IsIn (records_in (lower_at row number t)) u → IsIn (records_in t) u × (is_le (bytes_cmp u.key.row row) ≡ true)
  in_low t u k = in_cut number (λ r. is_le (bytes_cmp r row)) t u k

  in_high : (t : Tablet) (u : Record) → IsIn (records_in (upper_at row number t)) u → IsIn (records_in t) u × (is_gt (bytes_cmp u.key.row row) ≡ true)
  in_high t u k = in_cut number (λ r. is_gt (bytes_cmp r row)) t u k

  in_both : (t : Tablet) (rest : List Record) (u : Record) → IsIn (records_in (upper_at row number t) ++ rest) u → IsIn (records_in (upper_at row number t)) u ⊎ IsIn rest u
  in_both t rest u k = in_append (records_in (upper_at row number t)) rest u k

  in_split : (ts : List Tablet) (p : ℕ) (u : Record) → IsIn (records_of_all (at_place p (split_at row number) ts)) u → IsIn (records_of_all ts) u
  in_split [] p u k = k
  in_split (t ∷ ts) zero u k = go (in_append (records_in (lower_at row number t)) (records_in (upper_at row number t) ++ records_of_all ts) u k)
    where
      back : IsIn (records_in (upper_at row number t)) u ⊎ IsIn (records_of_all ts) u → IsIn (records_in t ++ records_of_all ts) u
      back (inl a) = in_left (records_in t) (records_of_all ts) u (in_high t u a).0
      back (inr b) = in_right (records_in t) (records_of_all ts) u b

      go : IsIn (records_in (lower_at row number t)) u ⊎ IsIn (records_in (upper_at row number t) ++ records_of_all ts) u → IsIn (records_in t ++ records_of_all ts) u
      go (inl a) = in_left (records_in t) (records_of_all ts) u (in_low t u a).0
      go (inr b) = back (in_both t (records_of_all ts) u b)
  in_split (t ∷ ts) (suc p) u k = go (in_append (records_in t) (records_of_all (at_place p (split_at row number) ts)) u k) (in_split ts p u)
    where
      go : IsIn (records_in t) u ⊎ IsIn (records_of_all (at_place p (split_at row number) ts)) u → (IsIn (records_of_all (at_place p (split_at row number) ts)) u → IsIn (records_of_all ts) u) → IsIn (records_in t ++ records_of_all ts) u
      go (inl a) ih = in_left (records_in t) (records_of_all ts) u a
      go (inr b) ih = in_right (records_in t) (records_of_all ts) u (ih b)

  -- a row beyond the tablet's end row is beyond one that is up to it
  pub beyond : (o : Option (List ℕ)) (r : List ℕ) → is_up_to o row ≡ true → is_up_to o r ≡ false → is_le (bytes_cmp r row) ≡ false
  beyond o r up over = by_bool (is_le (bytes_cmp r row)) (λ t. absurd (true≢false (sym (lower_up o r row t up) ∙ over))) (λ f. f)

  pub rows_split : (ts : List Tablet) (p : ℕ) → IsPlaceOf row ts p → HoldOwnRows ts → HoldOwnRows (at_place p (split_at row number) ts)
  rows_split [] p q h = h
  rows_split (t ∷ ts) zero q h = (λ u k. (in_low t u k).1, λ u k. go u (in_both t (records_of_all ts) u k), (λ u k. h.0 u (in_high t u k).0, h.1, h.2))
    where
      go : (u : Record) → IsIn (records_in (upper_at row number t)) u ⊎ IsIn (records_of_all ts) u → is_le (bytes_cmp u.key.row row) ≡ false
      go u (inl a) = not_up_to u.key.row row (in_high t u a).1
      go u (inr b) = beyond t.end u.key.row q.holds (h.1 u b)
  rows_split (t ∷ ts) (suc p) q h = (h.0, λ u k. h.1 u (in_split ts p u k), rows_split ts p (later_place row t ts p q) h.2)

-- ---- so a record's tablet is that of its row
pub in_all : (ts : List Tablet) (p : ℕ) (u : Record) → IsIn (records_in (tablet_at ts p)) u → IsIn (records_of_all ts) u
in_all [] p u k = k
in_all (t ∷ ts) zero u k = in_left (records_in t) (records_of_all ts) u k
in_all (t ∷ ts) (suc p) u k = in_right (records_in t) (records_of_all ts) u (in_all ts p u k)

-- what lies below a number in all of them does so in one
pub held_below : (ts : List Tablet) (p seq : ℕ) → ((u : Record) → Contains (records_of_all ts) u → u.seq < seq) → (u : Record) → Contains (records_in (tablet_at ts p)) u → u.seq < seq
held_below ts p seq below u k = below u (in_to (records_of_all ts) u (in_all ts p u (in_from (records_in (tablet_at ts p)) u k)))

pub own_place : (ts : List Tablet) (p : ℕ) (u : Record) → HoldOwnRows ts → p < length ts → IsIn (records_in (tablet_at ts p)) u → IsPlaceOf u.key.row ts p
own_place [] p u h lt k = absurd (omega arith)
own_place (t ∷ ts) zero u h lt k = first_place u.key.row t ts (h.0 u k)
own_place (t ∷ ts) (suc p) u h lt k = next_place u.key.row t ts p (h.1 u (in_all ts p u k)) (own_place ts p u h.2 (omega arith) k)
