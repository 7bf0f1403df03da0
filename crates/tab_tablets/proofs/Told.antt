-- What is told of a split, test by test, and what it leaves.
use Rattle.std.proofs.Common.{◌≡◌, ℕ, ◌<◌, ◌≤◌, ◌^◌, List, [], ◌∷◌, true, false, cond, sym, ◌∙◌, ap, subst, min, arith}
use Rattle.std.specs.Ordering.{is_le, is_gt}
use Rattle.tab_key.specs.Bytes.{bytes_cmp}
use Rattle.std.specs.Prelude.{Some, nat_lt}
use Rattle.std.proofs.lemmas.Bool.Decides.{nat_tests}
use Rattle.tab_version.specs.Sources.{size_of}
use Rattle.tab_tablet.specs.Tablets.{Tablet, next_number}
use Rattle.tab_tablet.specs.Splitting.{cut_to, lower_at, upper_at, split_at, middle_row, rows_in}
use Rattle.tab_tablets.specs.Places.{ended, tablet_at, IsPlaceOf}
use Rattle.tab_tablets.specs.ByRow.{at_row, tablet_of, is_end}
use Rattle.tab_tablets.specs.Splits.{is_full, split_in, splits, split_found, halved, halves}
use Rattle.tab_tablets.proofs.EndRows.{tablet_at_place}
use Rattle.tab_tablets.specs.declared.splitting.Split.{Split}
use Rattle.tab_tablets.specs.declared.splitting.Split.TheVariants.{Done, Present, Small, Full}

abbrev Told : Type 0
Told = Split × List Tablet

abbrev told : Split → List Tablet → Told
told s ts = (s, ts)

pub present : (row : List ℕ) (number : ℕ) (ts : List Tablet) → is_end row ts ≡ true → splits row number ts ≡ told Present ts
present row number ts e = ap (λ v. cond {A = Told} v (Present, ts) (split_in row number ts)) e

pub absent : (row : List ℕ) (number : ℕ) (ts : List Tablet) → is_end row ts ≡ false → splits row number ts ≡ split_in row number ts
absent row number ts e = ap (λ v. cond {A = Told} v (Present, ts) (split_in row number ts)) e

pub full : (row : List ℕ) (number : ℕ) (ts : List Tablet) → is_full ts ≡ true → split_in row number ts ≡ told Full ts
full row number ts e = ap (λ v. cond {A = Told} v (Full, ts) (Done, at_row row (split_at row number) ts)) e

pub done : (row : List ℕ) (number : ℕ) (ts : List Tablet) → is_full ts ≡ false → split_in row number ts ≡ told Done (at_row row (split_at row number) ts)
done row number ts e = ap (λ v. cond {A = Told} v (Full, ts) (Done, at_row row (split_at row number) ts)) e

module _ (row : List ℕ) (limit number : ℕ) (ts : List Tablet) (t : Tablet) (is : tablet_of row ts ≡ Some t) where
  pub small : nat_lt (size_of t.sources) limit ≡ true → halves row limit number ts ≡ told Small ts
  small e = ap (λ o. halved limit number o ts) is ∙ ap (λ v. cond {A = Told} v (Small, ts) (split_found (middle_row (rows_in t)) number ts)) e

  pub large : nat_lt (size_of t.sources) limit ≡ false → halves row limit number ts ≡ split_found (middle_row (rows_in t)) number ts
  large e = ap (λ o. halved limit number o ts) is ∙ ap (λ v. cond {A = Told} v (Small, ts) (split_found (middle_row (rows_in t)) number ts)) e

-- a size that was cut off is below a limit where it was before
pub is_small : (size limit : ℕ) → limit < 2 ^ 64 → min size 18446744073709551615 < limit → nat_lt size limit ≡ true
is_small size limit fits lt = let h : size < limit = omega arith in grind (arith, nat_tests)

pub is_large : (size limit : ℕ) → limit < 2 ^ 64 → limit ≤ min size 18446744073709551615 → nat_lt size limit ≡ false
is_large size limit fits ge = let h : limit ≤ size = omega arith in grind (arith, nat_tests)

-- ---- by what is asked of the tablet of the row
module _ (row : List ℕ) (limit number size : ℕ) (tablet_list now : List Tablet) (p : ℕ) (bare : Tablet) (same : tablet_list ≡ now) (place : IsPlaceOf row tablet_list p) (is : ended (tablet_at tablet_list p).end bare ≡ tablet_at tablet_list p) (cut : size ≡ min (size_of bare.sources) 18446744073709551615) (fits : limit < 2 ^ 64) where
  there : tablet_of row now ≡ Some (tablet_at tablet_list p)
  there = ap (tablet_of row) (sym same) ∙ tablet_at_place row tablet_list p place

  size_is : size ≡ min (size_of (tablet_at tablet_list p).sources) 18446744073709551615
  size_is = cut ∙ ap (λ (t : Tablet). min (size_of t.sources) 18446744073709551615) is

  pub small_told : size < limit → halves row limit number now ≡ told Small now
  small_told lt = small row limit number now (tablet_at tablet_list p) there (is_small (size_of (tablet_at tablet_list p).sources) limit fits (subst (λ n. n < limit) size_is lt))

  pub large_told : limit ≤ size → halves row limit number now ≡ split_found (middle_row (rows_in (tablet_at now p))) number now
  large_told ge = large row limit number now (tablet_at tablet_list p) there (is_large (size_of (tablet_at tablet_list p).sources) limit fits (subst (λ n. limit ≤ n) size_is ge))
      ∙ ap (λ (ts : List Tablet). split_found (middle_row (rows_in (tablet_at ts p))) number now) same

-- ---- the two tablets
pub halves_are : (row : List ℕ) (number : ℕ) (t bare low up : Tablet) → ended t.end bare ≡ t → low ≡ cut_to number (λ r. is_le (bytes_cmp r row)) bare → up ≡ cut_to (next_number number) (λ r. is_gt (bytes_cmp r row)) bare
    → ended (Some row) low ∷ ended t.end up ∷ [] ≡ split_at row number t
halves_are row number t bare low up is a b = λ i. (ap (ended (Some row)) a ∙ ap (lower_at row number) is) i ∷ (ap (ended t.end) b ∙ ap (upper_at row (next_number number)) is) i ∷ []
