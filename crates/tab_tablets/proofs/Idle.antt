-- A tablet to which nothing was written, and one that is frozen: what is read of it, and what is put in its place.
use Rattle.std.proofs.Common.{◌≡◌, ◌≢◌, ◌∙◌, inr, ℕ, zero, suc, ◌<◌, List, [], ◌∷◌, true, false, length, refl, sym, ap, subst, arith}
use Rattle.std.specs.Prelude.{filter, map, Result, IfOk, ◌==◌}
use Rattle.tab_key.specs.Ranges.{is_in_range}
use Rattle.tab_key.specs.Records.{Record}
use Rattle.tab_key.specs.declared.range.Bounds.{Bounds}
use Rattle.tab_cells.proofs.Lists.{by_bool}
use Rattle.tab_tablet.specs.Tablets.{Tablet, records_in, frozen}
use Rattle.tab_tablet.proofs.Compacted.{none_waits, frozen_itself}
use Rattle.tab_tablets.specs.Places.{ended, tablet_at, at_place, IsMadeOf, IsSettled, part_in}
use Rattle.tab_key.specs.Sorted.{sorted}
use Rattle.tab_version.specs.Sources.{Sources, records_of}
use Rattle.tab_tablet.specs.MergedRuns.{IsFreezeOf}
use Rattle.tab_tablet.specs.declared.freeze.Freeze.{Freeze}
use Rattle.tab_tablets.proofs.At.{one}
use Rattle.tab_tablets.specs.declared.bounded_tablet.MadeTablet.{MadeTablet}

module _ (t bare : Tablet) (is : ended t.end bare ≡ t) where
  -- nothing waits in it
  pub idle : (length bare.active == 0) ≡ true → t.active ≡ []
  idle e = ap (λ (x : Tablet). x.active) (sym is) ∙ none_waits bare e

  -- something does
  pub busy : t.active ≢ [] → (length bare.active == 0) ≡ false
  busy some = by_bool (length bare.active == 0) (λ e. absurd (some (idle e))) (λ e. e)

  pub idle_itself : (length bare.active == 0) ≡ true → frozen t ≡ t
  idle_itself e = frozen_itself t (idle e)

  pub idle_part : (bounds : Bounds) → (length bare.active == 0) ≡ true → filter (λ (u : Record). is_in_range bounds u.key.row) (records_in bare) ≡ part_in bounds t
  idle_part bounds e = ap (λ (x : Tablet). filter (λ (u : Record). is_in_range bounds u.key.row) (records_in x)) (is ∙ sym (idle_itself e))

  pub frozen_part : (bounds : Bounds) (new : Tablet) → new ≡ frozen bare → filter (λ (u : Record). is_in_range bounds u.key.row) (records_in new) ≡ part_in bounds t
  frozen_part bounds new e = ap (λ (x : Tablet). filter (λ (u : Record). is_in_range bounds u.key.row) (records_in x)) e ∙ ap (part_in bounds) is

  pub frozen_ended : (new : Tablet) → new ≡ frozen bare → ended t.end new ≡ frozen t
  frozen_ended new e = ap (ended t.end) e ∙ ap frozen is

pub frozen_made : (ts : List Tablet) (m : MadeTablet) (bare : Tablet) → m.place < length ts → ended (tablet_at ts m.place).end bare ≡ tablet_at ts m.place → m.tablet ≡ frozen bare → IsMadeOf frozen ts m
frozen_made ts m bare lt is e = record { inside = lt; is = frozen_ended (tablet_at ts m.place) bare is m.tablet e }

pub idle_settled : (ts : List Tablet) (ms : List MadeTablet) (place : ℕ) (bare : Tablet) → ended (tablet_at ts place).end bare ≡ tablet_at ts place → (length bare.active == 0) ≡ true → IsSettled frozen ts ms place
idle_settled ts ms place bare is e = inr (idle_itself (tablet_at ts place) bare is e)

-- where nothing waits there a freeze changes nothing
pub waits_settled : (ts : List Tablet) (ms : List MadeTablet) (place : ℕ) → (tablet_at ts place).active ≡ [] → IsSettled frozen ts ms place
waits_settled ts ms place e = inr (frozen_itself (tablet_at ts place) e)

-- ---- one that is frozen in its place
module _ (t bare : Tablet) (f : Freeze) (is : ended t.end bare ≡ t) where
  pub freeze_there : IsFreezeOf bare f → IsFreezeOf t f
  freeze_there h = subst (λ (x : Tablet). IsFreezeOf x f) is (record { run = h.run; merged_runs = h.merged_runs })

  pub freeze_bare : IsFreezeOf t f → IsFreezeOf bare f
  freeze_bare h = let k = subst (λ (x : Tablet). IsFreezeOf x f) (sym is) h in record { run = k.run; merged_runs = k.merged_runs }

-- what is read of a tablet is its part
module _ {E : Type 0} (bounds : Bounds) (t bare : Tablet) (is : ended t.end bare ≡ t) (r : Result Sources E) where
  pub frozen_read : IfOk r (λ c. sorted (records_of c) ≡ sorted (filter (λ (u : Record). is_in_range bounds u.key.row) (records_in (frozen bare)))) → IfOk r (λ c. sorted (records_of c) ≡ sorted (part_in bounds t))
  frozen_read h = subst (λ (x : Tablet). IfOk r (λ c. sorted (records_of c) ≡ sorted (part_in bounds x))) is h

  pub idle_read : t.active ≡ [] → IfOk r (λ c. sorted (records_of c) ≡ sorted (filter (λ (u : Record). is_in_range bounds u.key.row) (records_in bare))) → IfOk r (λ c. sorted (records_of c) ≡ sorted (part_in bounds t))
  idle_read e h = subst (λ (x : Tablet). IfOk r (λ c. sorted (records_of c) ≡ sorted (filter (λ (u : Record). is_in_range bounds u.key.row) (records_in x)))) (is ∙ sym (frozen_itself t e)) h

-- where nothing waits elsewhere, all of them are frozen then
all_idle : (ts : List Tablet) → ((k : ℕ) → (tablet_at ts k).active ≡ []) → map frozen ts ≡ ts
all_idle [] idle = refl
all_idle (t ∷ ts) idle = λ i. frozen_itself t (idle 0) i ∷ all_idle ts (λ k. idle (suc k)) i

pub frozen_only : (ts : List Tablet) (p : ℕ) → ((k : ℕ) → k ≢ p → (tablet_at ts k).active ≡ []) → at_place p (one frozen) ts ≡ map frozen ts
frozen_only [] p idle = refl
frozen_only (t ∷ ts) zero idle = ap (λ l. frozen t ∷ l) (sym (all_idle ts (λ k. idle (suc k) (λ e. let z = e in omega (arith, z)))))
frozen_only (t ∷ ts) (suc p) idle = λ i. sym (frozen_itself t (idle 0 (λ e. let z = e in omega (arith, z)))) i ∷ frozen_only ts p (λ k ne. idle (suc k) (λ e. ne (let z = e in omega (arith, z)))) i
