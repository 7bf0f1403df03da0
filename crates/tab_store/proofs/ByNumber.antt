-- An install finds its tablet as by the number alone, where no tablet but that of its row has the number.
use Rattle.std.proofs.Common.{◌≡◌, List, [], ◌∷◌, Bool, true, false, cond, ◌||◌, ◌==◌, refl, sym, ◌∙◌, ap}
use Rattle.std.specs.Prelude.{ℕ, Option, Some, None, map}
use Rattle.std.proofs.lemmas.Option.{none-some}
use mathlib.Core.Bool.{true≢false}
use Rattle.tab_tablets.specs.Tablets.{Tablet, is_up_to, fitting, sources_told, installs}
use Rattle.tab_tablets.specs.ByRow.{at_row, tablet_of}
use Rattle.tab_tablets.specs.Parts.{TabletMerge, installed_in}
use Rattle.tab_tablets.specs.declared.Installed.{Installed}
use Rattle.tab_tablets.specs.declared.Installed.TheVariants as installed
use Rattle.tab_tablets.proofs.Parted.{some_is}
use Rattle.tab_store.specs.Numbers.{has_number}
use Rattle.tab_store.specs.Belonging.{with_number, installed_with, beside_row, InstallsByNumber, OthersAreStale}
use Rattle.tab_store.proofs.InstallCases.{with_merge}
use Rattle.tab_store.proofs.Numbered.{or_none}

-- ---- tests
pub or_first : (a b : Bool) → (a || b) ≡ false → a ≡ false
or_first true b e = absurd (true≢false e)
or_first false b e = refl

pub or_second : (a b : Bool) → (a || b) ≡ false → b ≡ false
or_second true b e = absurd (true≢false e)
or_second false b e = e

-- ---- tablets of which none has the number
module _ (k : ℕ) where
  none_with : (ts : List Tablet) → has_number k ts ≡ false → with_number k ts ≡ None
  none_with [] e = refl
  none_with (t ∷ ts) e = ap (λ v. cond v (Some t) (with_number k ts)) (or_first (t.number == k) (has_number k ts) e) ∙ none_with ts (or_second (t.number == k) (has_number k ts) e)

  module _ (row : List ℕ) where
    -- that of the row hasn't it either
    other_at : (ts : List Tablet) (t : Tablet) → has_number k ts ≡ false → tablet_of row ts ≡ Some t → (t.number == k) ≡ false
    other_at [] t e f = absurd (cc)
    other_at (s ∷ ts) t e f = go (is_up_to s.end row) (other_at ts t (or_second (s.number == k) (has_number k ts) e)) f
      where
        go : (v : Bool) → (tablet_of row ts ≡ Some t → (t.number == k) ≡ false) → cond v (Some s) (tablet_of row ts) ≡ Some t → (t.number == k) ≡ false
        go true ih q = let is : s ≡ t = cc in ap (λ (x : Tablet). x.number == k) (sym is) ∙ or_first (s.number == k) (has_number k ts) e
        go false ih q = ih q

    -- the others haven't it, nor has that of the row
    none_at : (ts : List Tablet) → has_number k (beside_row row ts) ≡ false → ((t : Tablet) → tablet_of row ts ≡ Some t → (t.number == k) ≡ false) → has_number k ts ≡ false
    none_at [] e f = refl
    none_at (t ∷ ts) e f = go (is_up_to t.end row) (none_at ts) e f
      where
        go : (v : Bool) → (has_number k (beside_row row ts) ≡ false → ((x : Tablet) → tablet_of row ts ≡ Some x → (x.number == k) ≡ false) → has_number k ts ≡ false)
            → has_number k (cond v ts (t ∷ beside_row row ts)) ≡ false → ((x : Tablet) → cond v (Some t) (tablet_of row ts) ≡ Some x → (x.number == k) ≡ false) → has_number k (t ∷ ts) ≡ false
        go true ih q g = or_none (t.number == k) (has_number k ts) (g t refl) q
        go false ih q g = or_none (t.number == k) (has_number k ts) (or_first (t.number == k) (has_number k (beside_row row ts)) q) (ih (or_second (t.number == k) (has_number k (beside_row row ts)) q) g)

-- ---- a merge
module _ (m : TabletMerge) where
  -- a tablet with another number stays as it is
  other_stays : (t : Tablet) → (t.number == m.merge.tablet) ≡ false → with_merge m.merge t ≡ t
  other_stays t e = ap (λ v. (cond {A = Installed × Tablet} v (installs m.merge (fitting m.merge t) t) (installed.Stale (sources_told t), t)).1) e

  others_stay : (ts : List Tablet) → has_number m.merge.tablet ts ≡ false → map (with_merge m.merge) ts ≡ ts
  others_stay [] e = refl
  others_stay (t ∷ ts) e = λ i. other_stays t (or_first (t.number == m.merge.tablet) (has_number m.merge.tablet ts) e) i ∷ others_stay ts (or_second (t.number == m.merge.tablet) (has_number m.merge.tablet ts) e) i

  -- what is told, and left
  abbrev Left : Type 0
  Left = Installed × List Tablet

  abbrev stale : List Tablet → Left
  stale ts = (installed.Stale 0, ts)

  abbrev put : List Tablet → List Tablet
  put ts = at_row m.row (λ x. with_merge m.merge x ∷ []) ts

  -- that of the row has the number
  found_at : (ts : List Tablet) (t : Tablet) → has_number m.merge.tablet (beside_row m.row ts) ≡ false → tablet_of m.row ts ≡ Some t → (t.number == m.merge.tablet) ≡ true
      → (with_number m.merge.tablet ts ≡ Some t) × (put ts ≡ map (with_merge m.merge) ts)
  found_at [] t e f n = absurd (cc)
  found_at (s ∷ ts) t e f n = go (is_up_to s.end m.row) (found_at ts t) e f
    where
      go : (v : Bool) → (has_number m.merge.tablet (beside_row m.row ts) ≡ false → tablet_of m.row ts ≡ Some t → (t.number == m.merge.tablet) ≡ true → (with_number m.merge.tablet ts ≡ Some t) × (put ts ≡ map (with_merge m.merge) ts))
          → has_number m.merge.tablet (cond v ts (s ∷ beside_row m.row ts)) ≡ false → cond v (Some s) (tablet_of m.row ts) ≡ Some t
          → (with_number m.merge.tablet (s ∷ ts) ≡ Some t) × (cond v (with_merge m.merge s ∷ ts) (s ∷ put ts) ≡ map (with_merge m.merge) (s ∷ ts))
      go true ih q g =
          let is : s ≡ t = cc in
          (ap (λ v. cond v (Some s) (with_number m.merge.tablet ts)) (ap (λ (x : Tablet). x.number == m.merge.tablet) is ∙ n) ∙ g, ap (λ us. with_merge m.merge s ∷ us) (sym (others_stay ts q)))
      go false ih q g =
          let other : (s.number == m.merge.tablet) ≡ false = or_first (s.number == m.merge.tablet) (has_number m.merge.tablet (beside_row m.row ts)) q in
          let more = ih (or_second (s.number == m.merge.tablet) (has_number m.merge.tablet (beside_row m.row ts)) q) g n in
          (ap (λ v. cond v (Some s) (with_number m.merge.tablet ts)) other ∙ more.0, λ i. sym (other_stays s other) i ∷ more.1 i)

pub others_are_stale : OthersAreStale
others_are_stale m ts e = go (tablet_of m.row ts) (λ t f. other_at m.merge.tablet m.row ts t e f)
  where
    go : (o : Option Tablet) → ((t : Tablet) → o ≡ Some t → (t.number == m.merge.tablet) ≡ false) → installed_in m o ts ≡ (installed.Stale 0, ts)
    go None f = refl
    go (Some t) f = ap (λ v. cond {A = Left m} v ((installed_with m (Some t) ts).0, put m ts) (stale m ts)) (f t refl)

pub installs_by_number : InstallsByNumber
installs_by_number m ts e = go (tablet_of m.row ts) refl
  where
    nowhere : ((t : Tablet) → tablet_of m.row ts ≡ Some t → (t.number == m.merge.tablet) ≡ false) → stale m ts ≡ installed_with m (with_number m.merge.tablet ts) ts
    nowhere f = sym (ap (λ o. installed_with m o ts) (none_with m.merge.tablet ts (none_at m.merge.tablet m.row ts e f)))

    here : (t : Tablet) → tablet_of m.row ts ≡ Some t → (v : Bool) → (t.number == m.merge.tablet) ≡ v
        → cond {A = Left m} v ((installed_with m (Some t) ts).0, put m ts) (stale m ts) ≡ installed_with m (with_number m.merge.tablet ts) ts
    here t q true n = let f = found_at m ts t e q n in (λ i. ((installed_with m (Some t) ts).0, f.1 i)) ∙ sym (ap (λ o. installed_with m o ts) f.0)
    here t q false n = nowhere (λ x g. let is : x ≡ t = some_is x t (sym g ∙ q) in ap (λ (y : Tablet). y.number == m.merge.tablet) is ∙ n)

    go : (o : Option Tablet) → tablet_of m.row ts ≡ o → installed_in m o ts ≡ installed_with m (with_number m.merge.tablet ts) ts
    go None q = nowhere (λ t f. absurd (none-some t (sym q ∙ f)))
    go (Some t) q = here t q (t.number == m.merge.tablet) refl
