-- Compactions in parts: what one leaves of a tablet, whatever its end row, and at which place.
use Rattle.std.proofs.Common.{◌≡◌, ◌∙◌, ℕ, List, Bool, true, false, cond, refl, ap}
use Rattle.std.specs.Prelude.{ℤ, ◌==◌, Option, Some, None, Result, Ok, Err, OnOk, OnErr}
use Rattle.tab_key.specs.Records.{Record}
use Rattle.tab_key.specs.Sorted.{IsIn}
use Rattle.tab_cells.specs.declared.compaction.Compaction.{Compaction}
use Rattle.tab_version.specs.Sources.{Sources}
use Rattle.tab_tablet.specs.Merges.{Merge}
use Rattle.tab_tablet.specs.Tablets.{Tablet, records_in, capture, begins, fitting, sources_told, installs, installed}
use Rattle.tab_tablet.specs.declared.installed.Installed.{Installed}
use Rattle.tab_tablet.specs.declared.installed.Installed.TheVariants.{Stale}
use Rattle.tab_tablet.proofs.Compacted.{frozen_in}
use Rattle.tab_tablets.specs.Parts.{TabletMerge, capture_in, found_for, begun_at, begins_at, installed_in, installs_in}
use Rattle.tab_tablets.specs.Places.{ended, tablet_at, IsPlaceOf, at_place}
use Rattle.tab_tablets.proofs.At.{one}
use Rattle.tab_tablets.proofs.EndRows.{row_at_place, tablet_at_place}

-- ---- whatever the end row
module _ (m : Merge) (end : Option (List ℕ)) (t : Tablet) where
  pub told_ended : (installed m (ended end t)).0 ≡ (installed m t).0
  told_ended = go (t.number == m.tablet) (fitting m t)
    where
      go : (v : Bool) (o : Option Sources) → (cond {A = Installed × Tablet} v (installs m o (ended end t)) (Stale (sources_told t), ended end t)).0 ≡ (cond {A = Installed × Tablet} v (installs m o t) (Stale (sources_told t), t)).0
      go true None = refl
      go true (Some left) = refl
      go false o = refl

  pub installed_ended : (installed m (ended end t)).1 ≡ ended end (installed m t).1
  installed_ended = go (t.number == m.tablet) (fitting m t)
    where
      go : (v : Bool) (o : Option Sources) → (cond {A = Installed × Tablet} v (installs m o (ended end t)) (Stale (sources_told t), ended end t)).1 ≡ ended end (cond {A = Installed × Tablet} v (installs m o t) (Stale (sources_told t), t)).1
      go true None = refl
      go true (Some left) = refl
      go false o = refl

-- the end row stays where it does either way
pub either_end : {A E : Type 0} (r : Result A E) (old new other : Tablet) → OnOk r (new ≡ other) → OnErr r (new ≡ old) → other.end ≡ old.end → new.end ≡ old.end
either_end (Ok x) old new other ok err same = ap (λ (t : Tablet). t.end) ok ∙ same
either_end (Err e) old new other ok err same = ap (λ (t : Tablet). t.end) err

-- ---- at its place
module _ (row : List ℕ) (number : ℕ) (kind : Compaction) (floor : ℤ) (n : ℕ) where
  -- a freeze holds nothing that wasn't there, and a merge under way holds nothing
  pub begins_in : (t : Tablet) (u : Record) → IsIn (records_in (begins number kind floor n t)) u → IsIn (records_in t) u
  begins_in t u k = frozen_in t u k

  module _ (ts : List Tablet) (p : ℕ) (place : IsPlaceOf row ts p) where
    pub begun_there : begun_at row number kind floor n ts ≡ found_for row (capture number kind floor n (tablet_at ts p))
    begun_there = ap (λ o. found_for row (capture_in number kind floor n o)) (tablet_at_place row ts p place)

    pub begins_there : begins_at row number kind floor n ts ≡ at_place p (one (begins number kind floor n)) ts
    begins_there = row_at_place row (one (begins number kind floor n)) ts p place

module _ (m : TabletMerge) (ts : List Tablet) (p : ℕ) (place : IsPlaceOf m.row ts p) where
  abbrev after : Tablet → Tablet
  after t = (installed m.merge t).1

  chosen : (v : Bool) → ((tablet_at ts p).number == m.merge.tablet) ≡ v → installs_in m ts ≡ cond v ((installed m.merge (tablet_at ts p)).0, at_place p (one after) ts) (Stale 0, ts)
  chosen v e =
      ap (λ o. installed_in m o ts) (tablet_at_place m.row ts p place)
      ∙ (λ i. cond (e i) ((installed m.merge (tablet_at ts p)).0, row_at_place m.row (one after) ts p place i) (Stale 0, ts))

  -- where the tablet there has the merge's number, it is installed there
  pub installs_there : ((tablet_at ts p).number == m.merge.tablet) ≡ true → installs_in m ts ≡ ((installed m.merge (tablet_at ts p)).0, at_place p (one after) ts)
  installs_there e = chosen true e

  -- and else nowhere
  pub installs_nowhere : ((tablet_at ts p).number == m.merge.tablet) ≡ false → installs_in m ts ≡ (Stale 0, ts)
  installs_nowhere e = chosen false e
