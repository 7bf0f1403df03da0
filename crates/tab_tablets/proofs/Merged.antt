-- A compaction leaves a tablet its end row, and nothing to freeze.
use Rattle.std.proofs.Common.{◌≡◌, ◌∙◌, ℕ, List, [], sym, ap}
use Rattle.std.specs.Prelude.{ℤ, Option}
use Rattle.tab_cells.specs.declared.compaction.Compaction.{Compaction}
use Rattle.tab_tablet.specs.Tablets.{Tablet, compacted}
use Rattle.tab_tablet.proofs.Compacted.{compacted_is}
use Rattle.tab_tablets.specs.Places.{ended}

module _ (kind : Compaction) (floor : ℤ) (n : ℕ) where
  pub compacted_end : (t : Tablet) → (compacted kind floor n t).end ≡ t.end
  compacted_end t = ap (λ (x : Tablet). x.end) (compacted_is kind floor n t)

  pub compacted_idle : (t : Tablet) → (compacted kind floor n t).active ≡ []
  compacted_idle t = ap (λ (x : Tablet). x.active) (compacted_is kind floor n t)

  pub compacted_ended : (end : Option (List ℕ)) (t : Tablet) → ended end (compacted kind floor n t) ≡ compacted kind floor n (ended end t)
  compacted_ended end t = ap (ended end) (compacted_is kind floor n t) ∙ sym (compacted_is kind floor n (ended end t))
