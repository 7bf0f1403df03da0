-- A new core is a store, whose tablets have numbers of their own, and chains of exact steps of a store end in one.
use Rattle.std.proofs.Common.{◌≡◌, inl, inr, ℕ, ◌<◌, List, [], ◌∷◌, refl, sym, ap, subst}
use Rattle.std.specs.Prelude.{ℤ, Contains, Option, Some, None, map}
use Rattle.std.specs.List.Sorted.{IsStrictlySortedBy}
use mathlib.Core.Bool.{true≢false}
use Rattle.tab_key.specs.Records.{Record}
use Rattle.tab_key.specs.Sorted.{sorted, IsDistinct}
use Rattle.tab_key.proofs.Rising.{in_from}
use Rattle.tab_tablets.specs.ByRow.{records_of_all}
use Rattle.tab_tablets.specs.Parts.{TabletMerge}
use Rattle.tab_key.specs.declared.limited_part.LimitedPart.TheVariants.{Sessions}
use Rattle.tab_history.specs.Bases.{Base}
use Rattle.tab_history.specs.Runs.{IsNoEvent}
use Rattle.tab_history.specs.declared.reply.Refusal.TheVariants.{NoMemory, TooLarge, NoSession, NoJob}
use Rattle.tab_history.specs.declared.reply.Reply.TheVariants.{Refused}
use Rattle.tab_history.specs.Readings.{next_number}
use Rattle.tab_history.specs.Answers.{Told}
use Rattle.tab_history.specs.Histories.{Entry, World, clock_of, journal, world_of, world_after}
use Rattle.tab_history.specs.Refinement.{Refines}
use Rattle.tab_history.specs.Chains.{GoesRight, NamesNoSlot, IsChain}
use Rattle.tab_history.specs.declared.event.Act.{Act}
use Rattle.tab_history.specs.declared.event.Act.TheVariants.{Install}
use Rattle.tab_history.specs.declared.event.Event.{Event}
use Rattle.tab_history.specs.declared.event.Given.TheVariants.{InSlot, ByHand}
use Rattle.tab_history.specs.declared.event.Step.{Step}
use Rattle.tab_history.specs.declared.event.Step.TheVariants.{Event as IsEvent, Next}
use Rattle.tab_history.proofs.Chains.{sound_refines_itself, chains_refine}
use Rattle.tab_history.proofs.GoesOnLemmas.{goes_on}
use Rattle.tab_history.proofs.Playing.{unmoved}
use Rattle.tab_store.specs.Stores.{TableContents, CoreContents, base_table_of, base_of, table_in, tablets_found, tablets_in}
use Rattle.tab_store.specs.Rightness.{IsStore, NewStoresAreStores, StoresAreSound}
use Rattle.tab_store.specs.Numbers.{AreNumbered, NewStoresAreNumbered}
use Rattle.tab_store.specs.Stepping.{entry_of}
use Rattle.tab_store.specs.Chains.{DoesExactly, EventGoes, DoesAlone, ServedGoes, Running, given_in, act_by_hand, by_hand, RunsExactly, EntryGoes, ChainsStay, ChainsAreLegal}
use Rattle.tab_store.proofs.Sound.{self_refines}
use Rattle.tab_store.proofs.Reading.{bases_read}
use Rattle.tab_store.proofs.Staying.{stores_stay}

-- ---- a new core
no_tables : (ts : List TableContents) → map base_table_of ts ≡ [] → ts ≡ []
no_tables [] e = refl
no_tables (t ∷ ts) e = absurd (cc)

none_numbered : (next : ℕ) → AreNumbered (λ q. []) next
none_numbered next = record { once = λ q. tt; apart = λ q r k g h. absurd (true≢false (sym g)); below = λ q k g. absurd (true≢false (sym g)) }

pub new_stores_are_stores : NewStoresAreStores
unfolding IsStrictlySortedBy
new_stores_are_stores h new = subst (λ ts. IsStore (record h { tables = ts })) (sym (no_tables h.tables new.base.tables)) (record { names = tt; tables = λ q t e. absurd (cc); limits = λ q t e. absurd (cc); numbers = λ left. none_numbered h.tablet })

pub new_stores_are_numbered : NewStoresAreNumbered
new_stores_are_numbered h new left = subst (λ ts. AreNumbered (tablets_in (record h { tables = ts })) h.tablet) (sym (no_tables h.tables new.base.tables)) (none_numbered h.tablet)

-- ---- what histories see of a store
pub stores_are_sound : StoresAreSound
unfolding next_number
stores_are_sound h store q = subst (λ us. IsDistinct us × ((u : Record) → Contains us u → u.seq < h.next)) (sym (bases_read h q).1) (go (table_in h q) refl)
  where
    go : (o : Option TableContents) → table_in h q ≡ o → IsDistinct (sorted (records_of_all (tablets_found o))) × ((u : Record) → Contains (sorted (records_of_all (tablets_found o))) u → u.seq < h.next)
    go None e = (tt, λ u c. absurd (in_from [] u c))
    go (Some t) e = let r = self_refines t.tablets h.next t.settings.versions _ (store.tables q t e) in (r.updates_once, r.numbered)

-- ---- chains of a run
-- an event by hand names no slot
by_hand_alone : (begun : List TabletMerge) (act : Act) → NamesNoSlot (act_by_hand begun act)
by_hand_alone begun (Install t (InSlot slot)) = tt
by_hand_alone begun (Install t (ByHand number)) = tt
by_hand_alone begun act = tt

-- and leaves what the event leaves
by_hand_leaves : (w : World) (es : List Entry) (begun : List TabletMerge) (user : List ℕ) (moment : ℤ) (act : Act) (r : Told)
    → world_after w (entry_of (record { user = user; moment = moment; act = act_by_hand begun act }) r ∷ es) ≡ world_after w (entry_of (record { user = user; moment = moment; act = act }) r ∷ es)
unfolding journal clock_of
by_hand_leaves w es begun user moment (Install t (InSlot slot)) (Refused NoMemory) = refl
by_hand_leaves w es begun user moment (Install t (InSlot slot)) (Refused (TooLarge Sessions)) = refl
by_hand_leaves w es begun user moment (Install t (InSlot slot)) (Refused (NoSession k)) = refl
by_hand_leaves w es begun user moment (Install t (InSlot slot)) (Refused (NoJob k)) = refl
by_hand_leaves w es begun user moment (Install t (InSlot slot)) r = refl
by_hand_leaves w es begun user moment act r = refl

-- what is no event leaves a core refining the same
stays_refines : (w : World) (es : List Entry) (e : Entry) (b : Base) → IsNoEvent e.step e.reply → Refines (world_of b) (world_after w es) → Refines (world_of b) (world_after w (e ∷ es))
stays_refines w es e b none refines = subst (Refines (world_of b)) (sym (unmoved w es e none)) refines

module _ (w : World) (es : List Entry) (before last : Running) where
  abbrev Ends : Entry → Type 0
  Ends e = IsStore last.held × Refines (world_of (base_of last.held)) (world_after w (e ∷ es))

  goes_exactly : (step : Step) (r : Told) → RunsExactly before step r last → IsStore before.held → Refines (world_of (base_of before.held)) (world_after w es) → Ends (record { step = step; reply = r })
  goes_exactly (IsEvent event) r x store refines =
      let asked : Event = by_hand before.begun event in (
        stores_stay before.held last.held (given_in before.begun event.act) x.0 asked r store (by_hand_alone before.begun event.act) (record { exact = x.1.exact; reads = x.1.right.refines.reads }),
        subst (Refines (world_of (base_of last.held))) (by_hand_leaves w es before.begun event.user event.moment event.act r) (goes_on w es (base_of before.held) (entry_of asked r) (base_of last.held) refines x.1.right).refines,
      )
  goes_exactly (Next user slot n) r x store refines = absurd x
  goes_exactly step r x store refines = absurd x

  -- an entry of a run leaves a store that refines what the entry leaves
  pub entry_stays : (e : Entry) → EntryGoes before e last → IsStore before.held → Refines (world_of (base_of before.held)) (world_after w es) → Ends e
  entry_stays e (inl x) store refines = goes_exactly e.step e.reply x store refines
  entry_stays e (inr x) store refines = subst (λ (v : Running). IsStore v.held × Refines (world_of (base_of v.held)) (world_after w (e ∷ es))) (sym x.1) (store, stays_refines w es e (base_of before.held) x.0 refines)

pub chains_stay : ChainsStay
unfolding journal clock_of
chains_stay first last [] store same = subst (λ (v : Running). IsStore v.held × Refines (world_of (base_of v.held)) (world_of (base_of first.held))) same (store, sound_refines_itself (world_of (base_of first.held)) (stores_are_sound first.held store))
chains_stay first last (e ∷ es) store chain =
    let so_far = chains_stay first chain.0 es store chain.1 in
    entry_stays (world_of (base_of first.held)) es chain.0 last e chain.2 so_far.0 so_far.1

-- ---- a core behind a connection
served_exactly : (w : World) (es : List Entry) (before last : CoreContents) (step : Step) (r : Told) → DoesAlone before step r last → Refines (world_of (base_of before)) (world_after w es) → Refines (world_of (base_of last)) (world_after w (record { step = step; reply = r } ∷ es))
served_exactly w es before last (IsEvent event) r x refines = (goes_on w es (base_of before) (entry_of event r) (base_of last) refines x.1.right).refines
served_exactly w es before last step r x refines = absurd x

-- an entry leaves a core that refines what the entry leaves
pub served_refines : (w : World) (es : List Entry) (before last : CoreContents) (e : Entry) → ServedGoes before e last → Refines (world_of (base_of before)) (world_after w es) → Refines (world_of (base_of last)) (world_after w (e ∷ es))
served_refines w es before last e (inl x) refines = served_exactly w es before last e.step e.reply x refines
served_refines w es before last e (inr x) refines = subst (λ (h : CoreContents). Refines (world_of (base_of h)) (world_after w (e ∷ es))) (sym x.1) (stays_refines w es e (base_of before) x.0 refines)

-- ---- events alone
-- each exact step is a right one
right_step : (before last : CoreContents) (step : Step) (r : Told) → DoesExactly before step r last → GoesRight (base_of before) (record { step = step; reply = r }) (base_of last)
right_step before last (IsEvent event) r x = x.3.right
right_step before last step r x = absurd x

right_chain : (first last : CoreContents) (es : List Entry) → IsChain EventGoes first es last → IsChain GoesRight (base_of first) es (base_of last)
right_chain first last [] same = ap base_of same
right_chain first last (e ∷ es) chain = (base_of chain.0, right_chain first chain.0 es chain.1, right_step chain.0 last e.step e.reply chain.2)

pub chains_are_legal : ChainsAreLegal
chains_are_legal first last es store chain = (chains_refine (world_of (base_of first)) (base_of first) (base_of last) es (sound_refines_itself (world_of (base_of first)) (stores_are_sound first store)) (right_chain first last es chain)).0
