-- Each tablet of a core that refines a world refines the updates in its rows that the world has.
use Rattle.std.proofs.Common.{◌≡◌, ℕ, List, refl, sym, ◌∙◌, ap, subst}
use Rattle.std.specs.Prelude.{ℤ, Option, Some, None, unwrap_or}
use Rattle.std.proofs.lemmas.Option.{none-some}
use Rattle.tab_history.specs.Settings.{Settings}
use Rattle.tab_history.specs.Held.{floor_of, RefinesTable}
use Rattle.tab_history.specs.Readings.{settings_of, next_number, updates_of}
use Rattle.tab_history.specs.Histories.{World, world_of}
use Rattle.tab_history.specs.Refinement.{Refines}
use Rattle.tab_store.specs.Tablets.{Tablet}
use Rattle.tab_store.specs.Stores.{TableContents, CoreContents, base_of, table_in, tablets_found, tablets_in}
use Rattle.tab_store.specs.Keeping.{settings_in, TabletsRefine, AreSound}
use Rattle.tab_store.proofs.EachTablet.{each_tablet_refines}
use Rattle.tab_store.proofs.Reading.{bases_read}
use Rattle.tab_core.specs.ByTablet.{TabletsRefineWorlds}
use Rattle.tab_core.specs.Stepping.{IsCore}

some_is : {X : Type 0} (x y : X) → Some x ≡ Some y → x ≡ y
some_is x y e = ap (λ o. unwrap_or o x) e

-- tablets are sound by whatever reads the same
sound_alike : (ts others : List Tablet) (next more : ℕ) (a b : Settings) (clock now : ℤ) → ts ≡ others → next ≡ more → a ≡ b → clock ≡ now
    → AreSound ts next a.versions (floor_of a.time clock a.horizon) → AreSound others more b.versions (floor_of b.time now b.horizon)
sound_alike ts others next more a b clock now tablets number settings time sound =
    subst (λ (l : List Tablet). AreSound l more b.versions (floor_of b.time now b.horizon)) tablets
    (subst (λ (k : ℕ). AreSound ts k b.versions (floor_of b.time now b.horizon)) number
    (subst (λ (z : Settings). AreSound ts next z.versions (floor_of z.time now z.horizon)) settings
    (subst (λ (c : ℤ). AreSound ts next a.versions (floor_of a.time c a.horizon)) time sound)))

pub tablets_refine_worlds : (h : CoreContents) → IsCore h → TabletsRefineWorlds h
unfolding next_number
tablets_refine_worlds h core w refines t s there = go (table_in h t) refl (sym (bases_read h t).0 ∙ refines.reads.settings t ∙ there)
  where
    go : (o : Option TableContents) → table_in h t ≡ o → settings_in o ≡ Some s
        → TabletsRefine (tablets_in h t) (updates_of w.base w.changes t) (next_number w.base w.changes) s.versions (floor_of s.time w.clock s.horizon)
    go None found same = absurd (none-some s same)
    go (Some x) found same = each_tablet_refines (tablets_in h t) (updates_of w.base w.changes t) (next_number w.base w.changes) s.versions (floor_of s.time w.clock s.horizon)
        (sound_alike x.tablets (tablets_in h t) h.next (next_number w.base w.changes) x.settings s h.clock w.clock (sym (ap tablets_found found)) refines.reads.next (some_is x.settings s same) refines.reads.clock (core.store.tables t x found))
        (subst (λ us. RefinesTable us (updates_of w.base w.changes t) (next_number w.base w.changes) s.versions (floor_of s.time w.clock s.horizon)) (bases_read h t).1 (refines.tables t s there))
