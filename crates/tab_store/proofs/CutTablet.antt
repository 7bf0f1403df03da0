-- The two tablets that a split makes refine the updates in their rows.
use Rattle.std.proofs.Common.{◌≡◌, ℕ, List, Bool, not, refl, sym, subst}
use Rattle.std.specs.Prelude.{ℤ, filter, Some}
use Rattle.std.specs.Ordering.{is_le, is_gt}
use Rattle.std.specs.declared.cmp.Ordering.{Ordering}
use Rattle.std.specs.declared.cmp.Ordering.TheVariants.{Less, Equal, Greater}
use Rattle.tab_key.specs.Bytes.{bytes_cmp}
use Rattle.tab_key.specs.Records.{Record}
use Rattle.tab_tablets.specs.Sources.{records_of, clipped}
use Rattle.tab_cells.specs.declared.compaction.Compaction.{Compaction}
use Rattle.tab_cells.specs.declared.compaction.Compaction.TheVariants.{Minor, Partial, Full}
use Rattle.tab_tablets.specs.Tablets.{Tablet, no_jobs, job_of, records_in, frozen}
use Rattle.tab_tablets.specs.Splitting.{lower_at, upper_at}
use Rattle.tab_tablets.proofs.Cut.{clipped_records}
use Rattle.tab_history.specs.Held.{RefinesTable}
use Rattle.tab_store.specs.Keeping.{MayAllInstall, TabletRefines, is_high, SplitsKeep}
use Rattle.tab_store.proofs.ByRows.{here, rows_refine}
use Rattle.tab_store.proofs.OneTablet.{freezes_keep}

-- ---- what is left of a tablet in some rows refines the updates in these rows
cut_refines : (p : List ℕ → Bool) (t : Tablet) (us : List Record) (next n : ℕ) (floor : ℤ) → TabletRefines t us next n floor → RefinesTable (records_of (clipped p (frozen t).sources)) (filter (here p) us) next n floor
cut_refines p t us next n floor h = subst (λ l. RefinesTable l (filter (here p) us) next n floor) (sym (clipped_records p (frozen t).sources))
    (rows_refine p (records_of (frozen t).sources) us next n floor (freezes_keep t us next n floor h).refines)

gt_not_le : (o : Ordering) → is_gt o ≡ not (is_le o)
gt_not_le Less = refl
gt_not_le Equal = refl
gt_not_le Greater = refl

-- none is under way in a tablet that a split makes
pub none_under_way : (held : List Record) (n : ℕ) (floor : ℤ) → MayAllInstall no_jobs held n floor
none_under_way held n floor kind m e = absurd (none kind e)
  where
    none : (kind : Compaction) → job_of kind no_jobs ≡ Some m → ⊥
    none Minor q = cc
    none Partial q = cc
    none Full q = cc

pub splits_keep : SplitsKeep
splits_keep row lower upper t us next n floor h = (
  record { refines = cut_refines (λ r. is_le (bytes_cmp r row)) t us next n floor h; jobs = none_under_way (records_in (lower_at row lower t)) n floor },
  subst (λ q. TabletRefines (upper_at row upper t) (filter q us) next n floor) are_high
      (record { refines = cut_refines (λ r. is_gt (bytes_cmp r row)) t us next n floor h; jobs = none_under_way (records_in (upper_at row upper t)) n floor }),
)
  where
    are_high : here (λ r. is_gt (bytes_cmp r row)) ≡ is_high (Some row)
    are_high = λ i u. gt_not_le (bytes_cmp u.key.row row) i
