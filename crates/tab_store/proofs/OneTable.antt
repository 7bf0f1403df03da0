-- What becomes of one table of a store: its tablets stay while time passes, or work is done with them.
use Rattle.std.proofs.Common.{◌≡◌, ℕ, ◌≤◌, List, [], true, refl, sym, ◌∙◌, ap, subst, arith}
use Rattle.std.specs.Prelude.{ℤ, int_le, Option, Some, None}
use Rattle.tab_key.specs.Records.{Record}
use Rattle.tab_key.specs.Sorted.{sorted}
use Rattle.tab_tablets.specs.Tablets.{Tablet}
use Rattle.tab_tablets.proofs.Parted.{some_is}
use Rattle.tab_tablets.specs.ByRow.{records_of_all}
use Rattle.tab_history.specs.Settings.{Settings}
use Rattle.tab_history.specs.Readings.{settings_of, updates_of}
use Rattle.tab_history.specs.Held.{floor_of, RefinesTable}
use Rattle.tab_history.specs.Answers.{Told}
use Rattle.tab_history.proofs.Refines.{floor_later}
use Rattle.tab_store.specs.Stores.{TableContents, CoreContents, base_of, table_in, tablets_found, tablets_in}
use Rattle.tab_store.specs.Stepping.{TabletWork, WorkContext, lays, lays_in}
use Rattle.tab_store.specs.Keeping.{settings_in, AreSound, updates_after, next_after, IsRecent, GoesOnWell}
use Rattle.tab_store.specs.Rightness.{IsStore}
use Rattle.tab_store.proofs.Sound.{work_stays_sound, self_refines, sound_grown}
use Rattle.tab_store.proofs.Reading.{bases_read}

-- what holds of each held table's settings holds of the settings that histories read
pub at_table : (h : CoreContents) (q : List ℕ) (P : Settings → Type 0) → ((t : TableContents) → table_in h q ≡ Some t → P t.settings) → (s : Settings) → settings_of (base_of h) [] q ≡ Some s → P s
at_table h q P f s e = go (table_in h q) refl (sym (bases_read h q).0 ∙ e)
  where
    go : (o : Option TableContents) → table_in h q ≡ o → settings_in o ≡ Some s → P s
    go None p k = absurd (cc)
    go (Some t) p k = subst P (some_is t.settings s k) (f t p)

-- a table's records refine these updates, and its tablets are sound
pub record Both (new : CoreContents) (q : List ℕ) (us : List Record) (next n : ℕ) (floor : ℤ) : Type 0 where
  pub refines : RefinesTable (updates_of (base_of new) [] q) us next n floor
  pub sound : AreSound (tablets_in new q) next n floor

le_itself : (n : ℕ) → n ≤ n
le_itself n = omega arith

module _ (old new : CoreContents) (store : IsStore old) (now : ℤ) (later : int_le old.clock now ≡ true) (q : List ℕ) (t : TableContents) (there : table_in old q ≡ Some t) where
  abbrev was : List Record
  was = updates_of (base_of old) [] q

  -- below this time it takes no update any more
  abbrev low : ℤ
  low = floor_of t.settings.time now t.settings.horizon

  here : tablets_in old q ≡ t.tablets
  here = ap tablets_found there

  before : was ≡ sorted (records_of_all t.tablets)
  before = (bases_read old q).1 ∙ ap (λ ts. sorted (records_of_all ts)) here

  after : (ts : List Tablet) → tablets_in new q ≡ ts → updates_of (base_of new) [] q ≡ sorted (records_of_all ts)
  after ts e = (bases_read new q).1 ∙ ap (λ l. sorted (records_of_all l)) e

  grown : (more : ℕ) → old.next ≤ more → AreSound t.tablets more t.settings.versions low
  grown more le = sound_grown t.tablets old.next more t.settings.versions (floor_of t.settings.time old.clock t.settings.horizon) low le (floor_later t.settings.time old.clock now t.settings.horizon later) (store.tables q t there)

  -- its tablets stay
  pub stays : (more : ℕ) → old.next ≤ more → tablets_in new q ≡ tablets_in old q → Both new q was more t.settings.versions low
  stays more le same = record {
    refines = subst (λ l. RefinesTable l was more t.settings.versions low) (sym (after t.tablets (same ∙ here)))
        (subst (λ l. RefinesTable (sorted (records_of_all t.tablets)) l more t.settings.versions low) (sym before) (self_refines t.tablets more t.settings.versions low (grown more le)));
    sound = subst (λ ts. AreSound ts more t.settings.versions low) (sym (same ∙ here)) (grown more le);
  }

  abbrev pub place : WorkContext
  place = record { settings = t.settings; now = now; next = old.next; tablet = old.tablet; job = old.job }

  -- work is done with them
  pub happens : (work : TabletWork) (plain : Told) → tablets_in new q ≡ (lays_in old now work plain (table_in old q)).1 → IsRecent place work → Both new q (updates_after place work was) (next_after place work) t.settings.versions low
  happens work plain same recent =
      let well : GoesOnWell place work t.tablets (lays place work plain t.tablets).1 = work_stays_sound place work plain t.tablets (grown old.next (le_itself old.next)) recent in
      let laid : tablets_in new q ≡ (lays place work plain t.tablets).1 = same ∙ ap (λ o. (lays_in old now work plain o).1) there in
      record {
        refines = subst (λ l. RefinesTable l (updates_after place work was) (next_after place work) t.settings.versions low) (sym (after (lays place work plain t.tablets).1 laid))
            (subst (λ l. RefinesTable (sorted (records_of_all (lays place work plain t.tablets).1)) (updates_after place work l) (next_after place work) t.settings.versions low) (sym before) well.refines);
        sound = subst (λ ts. AreSound ts (next_after place work) t.settings.versions low) (sym laid) well.sound;
      }
