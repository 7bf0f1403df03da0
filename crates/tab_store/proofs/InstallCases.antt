-- How an install may end: what holds of the tablets, and of them with the merge installed in the one of its row, holds after it.
use Rattle.std.proofs.Common.{◌≡◌, ◌⊎◌, inl, inr, ℕ, List, [], ◌∷◌, Bool, true, false, cond, ◌==◌, refl}
use Rattle.std.specs.Prelude.{Option, Some, None}
use Rattle.tab_tablets.specs.Merges.{Merge}
use Rattle.tab_tablets.specs.Tablets.{Tablet, installed}
use Rattle.tab_tablets.specs.ByRow.{at_row, tablet_of}
use Rattle.tab_tablets.specs.Parts.{TabletMerge, installed_in, installs_in}
use Rattle.tab_tablets.specs.declared.Installed.{Installed}
use Rattle.tab_tablets.specs.declared.Installed.TheVariants as installed
use Rattle.tab_tablets.proofs.TabletParts.{installed_end, installed_number}
use Rattle.tab_history.specs.Answers.{Told}
use Rattle.tab_history.specs.declared.reply.Refusal.TheVariants.{Stale}
use Rattle.tab_history.specs.declared.reply.Reply.TheVariants.{Refused}
use Rattle.tab_store.specs.Stepping.{told_install, laid_install}

-- what an install leaves of a tablet
abbrev pub with_merge : Merge → Tablet → Tablet
with_merge m t = (installed m t).1

-- it keeps its end row, and its number
pub with_merge_end : (m : Merge) (t : Tablet) → (with_merge m t).end ≡ t.end
with_merge_end m t = installed_end m t

pub with_merge_number : (m : Merge) (t : Tablet) → (with_merge m t).number ≡ t.number
with_merge_number m t = installed_number m t

-- ---- the tablets afterwards
module _ (P : List Tablet → Type 0) (ts : List Tablet) (same : P ts) (put : (m : TabletMerge) → P (at_row m.row (λ t. with_merge m.merge t ∷ []) ts)) (plain : Told) where
  merged : (m : TabletMerge) → P (installs_in m ts).1
  merged m = go (tablet_of m.row ts)
    where
      numbered : (t : Tablet) (v : Bool) → P (cond {A = Installed × List Tablet} v ((installed m.merge t).0, at_row m.row (λ x. with_merge m.merge x ∷ []) ts) (installed.Stale 0, ts)).1
      numbered t true = put m
      numbered t false = same

      go : (o : Option Tablet) → P (installed_in m o ts).1
      go None = same
      go (Some t) = numbered t (t.number == m.merge.tablet)

  pub after_install : (given : Option TabletMerge) → P (laid_install plain given ts).1
  after_install None = same
  after_install (Some m) = merged m

-- ---- what is told
module _ (plain : Told) (ts : List Tablet) where
  abbrev MayInstallSo : Told → Type 0
  MayInstallSo told = (told ≡ plain) ⊎ ((count : ℕ) × (told ≡ Refused (Stale count)))

  ended_so : (i : Installed) → MayInstallSo (told_install plain i)
  ended_so installed.Done = inl refl
  ended_so (installed.Stale count) = inr (count, refl)

  pub install_told : (given : Option TabletMerge) → MayInstallSo (laid_install plain given ts).0
  install_told None = inr (0, refl)
  install_told (Some m) = ended_so (installs_in m ts).0
