-- Compactions of a tablet in parts.
use Rattle.std.proofs.Common.{◌≡◌, Bool, true, false, cond, refl}
use Rattle.std.specs.Prelude.{Option, Some, None, ◌==◌}
use Rattle.tab_key.specs.Records.{Record}
use Rattle.tab_key.specs.Sorted.{IsIn}
use Rattle.tab_version.specs.Sources.{Sources, left_by}
use Rattle.tab_compact.specs.Merges.{Merge, is_under_way}
use Rattle.tab_tablet.specs.Tablets.{Tablet, records_in, job_of, fitting, sources_told, installs, installed}
use Rattle.tab_tablet.specs.declared.installed.Installed.{Installed}
use Rattle.tab_tablet.specs.declared.installed.Installed.TheVariants.{Stale}
use Rattle.tab_tablet.proofs.Compacted.{replaced_in_held}

module _ (m : Merge) where
  -- where a merge fits, its inputs are there
  pub fits_left : (t : Tablet) (left : Sources) → fitting m t ≡ Some left → left_by m.inputs t.sources ≡ Some left
  fits_left t left e = go (is_under_way m (job_of m.kind t.jobs)) e
    where
      go : (v : Bool) → cond v (left_by m.inputs t.sources) None ≡ Some left → left_by m.inputs t.sources ≡ Some left
      go true q = q
      go false q = absurd (cc)

  -- ---- whether it is installed or stale
  -- what waits to be frozen stays, and so does the end row
  pub installed_active : (t : Tablet) → (installed m t).1.active ≡ t.active
  installed_active t = go (t.number == m.tablet) (fitting m t)
    where
      go : (v : Bool) (o : Option Sources) → (cond {A = Installed × Tablet} v (installs m o t) (Stale (sources_told t), t)).1.active ≡ t.active
      go true None = refl
      go true (Some left) = refl
      go false o = refl

  pub installed_end : (t : Tablet) → (installed m t).1.end ≡ t.end
  installed_end t = go (t.number == m.tablet) (fitting m t)
    where
      go : (v : Bool) (o : Option Sources) → (cond {A = Installed × Tablet} v (installs m o t) (Stale (sources_told t), t)).1.end ≡ t.end
      go true None = refl
      go true (Some left) = refl
      go false o = refl

  -- so does its number
  pub installed_number : (t : Tablet) → (installed m t).1.number ≡ t.number
  installed_number t = go (t.number == m.tablet) (fitting m t)
    where
      go : (v : Bool) (o : Option Sources) → (cond {A = Installed × Tablet} v (installs m o t) (Stale (sources_told t), t)).1.number ≡ t.number
      go true None = refl
      go true (Some left) = refl
      go false o = refl

  -- nothing is held that wasn't
  pub installed_in : (t : Tablet) (u : Record) → IsIn (records_in (installed m t).1) u → IsIn (records_in t) u
  installed_in t u k = go (t.number == m.tablet) (fitting m t) refl k
    where
      go : (v : Bool) (o : Option Sources) → fitting m t ≡ o → IsIn (records_in (cond {A = Installed × Tablet} v (installs m o t) (Stale (sources_told t), t)).1) u → IsIn (records_in t) u
      go true None e h = h
      go true (Some left) e h = replaced_in_held m t left (fits_left t left e) u h
      go false o e h = h
