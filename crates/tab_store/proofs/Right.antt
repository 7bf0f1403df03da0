-- An exact step of a store is a right one, and leaves the tablets of each table sound: act by act.
use Rattle.std.proofs.Common.{◌≡◌, ◌⊎◌, inl, inr, ℕ, ◌+◌, ◌≤◌, List, [], ◌∷◌, ◌++◌, Bool, true, false, cond, ◌&&◌, refl, sym, ◌∙◌, ap, subst, arith}
use Rattle.std.specs.Prelude.{ℤ, int_le, bytes_eq, Option, Some, None}
use Rattle.std.specs.Int.{int_max}
use Rattle.std.specs.Cmp.Lexicographic.{bytes_decides}
use mathlib.Core.Bool.{true≢false}
use Rattle.tab_key.specs.Records.{Record}
use Rattle.tab_key.specs.Sorted.{sorted}
use Rattle.tab_key.specs.declared.limited_part.LimitedPart.TheVariants.{Sessions, Numbers}
use Rattle.tab_key.proofs.Rising.{in_from}
use Rattle.tab_cells.specs.Written.{mutation_records}
use Rattle.tab_cells.specs.declared.compaction.Compaction.{Compaction}
use Rattle.tab_cells.specs.declared.compaction.Compaction.TheVariants.{Minor}
use Rattle.tab_mutation.specs.Mutations.{Mutation}
use Rattle.tab_rules.specs.declared.constraint.Constraint.{Constraint}
use Rattle.tab_policy.specs.declared.permission.Permission.{Permission}
use Rattle.tab_policy.specs.declared.permission.Permission.TheVariants.{OfSystem, OfTable}
use Rattle.tab_tablets.specs.Tablets.{Tablet, new_tablet}
use Rattle.tab_tablets.proofs.Parted.{some_is}
use Rattle.tab_tablets.specs.ByRow.{records_of_all}
use Rattle.tab_tablets.specs.Parts.{TabletMerge}
use Rattle.tab_history.specs.Settings.{Settings, made_with}
use Rattle.tab_history.specs.Bases.{Base}
use Rattle.tab_history.specs.Readings.{constrained, limited, closed_below, settings_of, next_number, updates_of}
use Rattle.tab_history.specs.Held.{floor_of, RefinesTable}
use Rattle.tab_history.specs.Checks.{Caller, standing, exists_in, user_named, refusal_of}
use Rattle.tab_history.specs.Sessions.{opened, closed, is_full}
use Rattle.tab_history.specs.Answers.{Told, told_opened, told, are_used_up, numbered, granted, event_answer, is_open, answer, slotted, empty_slot, leaves_open, MayTell, IsReply, changes_by}
use Rattle.tab_history.specs.Histories.{world_of, clock_after, clock_of, journal, moves_of, jobs_of}
use Rattle.tab_history.specs.Legal.{answer_at, IsAnswer, takes_memory, LacksMemory}
use Rattle.tab_history.specs.Chains.{NamesNoSlot}
use Rattle.tab_history.specs.declared.event.TimeMode.{TimeMode}
use Rattle.tab_history.specs.declared.event.Act.{Act}
use Rattle.tab_history.specs.declared.event.Act.TheVariants.{Open, Write, CreateTable, DropTable, SetConstraints, SetVersions, SetHorizon, Grant, Revoke, Status, Flush, Compact, AddSplit, SplitBySize, Splits, Begin, Install}
use Rattle.tab_history.specs.declared.event.Given.TheVariants.{InSlot, ByHand}
use Rattle.tab_history.specs.declared.event.Event.{Event}
use Rattle.tab_history.specs.declared.event.Step.{Step}
use Rattle.tab_history.specs.declared.event.Step.TheVariants.{Event as IsEvent}
use Rattle.tab_history.specs.declared.reply.Refusal.{Refusal}
use Rattle.tab_history.specs.declared.reply.Refusal.TheVariants.{NoMemory, TooLarge}
use Rattle.tab_history.specs.declared.reply.Reply.TheVariants.{Done, Refused}
use Rattle.tab_history.proofs.GoOn.{max_left, clock_grows}
use Rattle.tab_history.proofs.Fitting.{fits_legal}
use Rattle.tab_history.proofs.Holds.{holds_nothing, holds_higher, holds_fewer}
use Rattle.tab_history.proofs.LeftOpen.{of_told}
use Rattle.tab_history.proofs.Refines.{FitAll, floor_raised}
use Rattle.tab_store.specs.Stores.{TableContents, CoreContents, base_of, table_in, tablets_found, tablets_in}
use Rattle.tab_store.specs.Stepping.{Freezing, Writing, Compacting, Counting, Splitting, Halving, Listing, Beginning, Installing, Making, Dropping, On, kind_of, work_of, lays_in, told_by, laid_by, told_exactly, laid_told}
use Rattle.tab_store.specs.Keeping.{settings_in, AreSound}
use Rattle.tab_store.specs.Rightness.{IsStore, LeavesExactly, StepsAreRight}
use Rattle.tab_store.proofs.Sound.{new_tables_are_sound, sound_grown}
use Rattle.tab_store.proofs.Fewer.{sound_with_fewer}
use Rattle.tab_store.proofs.Reading.{bases_read}
use Rattle.tab_store.proofs.Telling.{tells_legally}
use Rattle.tab_store.proofs.OneTable.{at_table, Both, stays, happens}

module _ (old new : CoreContents) (store : IsStore old) (given : Option TabletMerge) (user : List ℕ) (moment : ℤ) (q : List ℕ) where
  abbrev b : Base
  b = base_of old

  abbrev now : ℤ
  now = int_max old.clock moment

  abbrev step : Act → Step
  step act = IsEvent (record { user = user; moment = moment; act = act })

  -- what is changed where this was told keeps to the settings of its table
  abbrev Fit : Act → Told → Type 0
  Fit act r = FitAll b [] now (changes_by now (step act) r)

  -- what has to hold of the table q, where this was told
  abbrev Goal : Act → Told → Type 0
  Goal act r = (s : Settings) → settings_of b (changes_by now (step act) r ++ []) q ≡ Some s
      → Both new q (updates_of b (changes_by now (step act) r ++ []) q) (next_number b (changes_by now (step act) r ++ [])) s.versions (floor_of s.time (clock_after (step act) r old.clock) s.horizon)

  -- and where nothing was changed that is read of it, at the event's clock
  abbrev Plain : Type 0
  Plain = (s : Settings) → settings_of b [] q ≡ Some s → Both new q (updates_of b [] q) old.next s.versions (floor_of s.time now s.horizon)

  le_next : old.next ≤ old.next
  le_next = omega arith

  le_more : old.next ≤ old.next + 1
  le_more = omega arith

  -- ---- its tablets stay, or work is done with them
  stays_at : (clock : ℤ) → int_le old.clock clock ≡ true → (more : ℕ) → old.next ≤ more → tablets_in new q ≡ tablets_in old q → (s : Settings) → settings_of b [] q ≡ Some s → Both new q (updates_of b [] q) more s.versions (floor_of s.time clock s.horizon)
  stays_at clock later more le same = at_table old q (λ s. Both new q (updates_of b [] q) more s.versions (floor_of s.time clock s.horizon)) (λ t e. stays old new store clock later q t e more le same)

  refused_right : (act : Act) (r : Refusal) → tablets_in new q ≡ tablets_in old q → Goal act (Refused r)
  unfolding next_number
  refused_right act r same = stays_at (clock_after (step act) (Refused r) old.clock) (clock_grows (step act) (Refused r) old.clock) old.next le_next same

  kept : tablets_in new q ≡ tablets_in old q → Plain
  kept same = stays_at now (max_left old.clock moment) old.next le_next same

  on_named : (t : List ℕ) (after : List Tablet) → tablets_in new q ≡ cond (bytes_eq t q) after (tablets_in old q) → (tablets_in new q ≡ after → Plain) → Plain
  on_named t after same f = go (bytes_eq t q) same
    where
      go : (v : Bool) → tablets_in new q ≡ cond v after (tablets_in old q) → Plain
      go true e = f e
      go false e = kept e

  frozen_right : (t : List ℕ) (plain : Told) → tablets_in new q ≡ laid_by old now (On t Freezing) plain q → Plain
  frozen_right t plain same = on_named t (lays_in old now Freezing plain (table_in old q)).1 same (λ x. at_table old q (λ s. Both new q (updates_of b [] q) old.next s.versions (floor_of s.time now s.horizon)) (λ o e. happens old new store now (max_left old.clock moment) q o e Freezing plain x tt))

  compacted_right : (t : List ℕ) (kind : Compaction) (plain : Told) → tablets_in new q ≡ laid_by old now (On t (Compacting kind)) plain q → Plain
  compacted_right t kind plain same = on_named t (lays_in old now (Compacting kind) plain (table_in old q)).1 same (λ x. at_table old q (λ s. Both new q (updates_of b [] q) old.next s.versions (floor_of s.time now s.horizon)) (λ o e. happens old new store now (max_left old.clock moment) q o e (Compacting kind) plain x tt))

  counted_right : (t : List ℕ) (plain : Told) → tablets_in new q ≡ laid_by old now (On t Counting) plain q → Plain
  counted_right t plain same = on_named t (lays_in old now Counting plain (table_in old q)).1 same (λ x. at_table old q (λ s. Both new q (updates_of b [] q) old.next s.versions (floor_of s.time now s.horizon)) (λ o e. happens old new store now (max_left old.clock moment) q o e Counting plain x tt))

  split_right : (t row : List ℕ) (plain : Told) → tablets_in new q ≡ laid_by old now (On t (Splitting row)) plain q → Plain
  split_right t row plain same = on_named t (lays_in old now (Splitting row) plain (table_in old q)).1 same (λ x. at_table old q (λ s. Both new q (updates_of b [] q) old.next s.versions (floor_of s.time now s.horizon)) (λ o e. happens old new store now (max_left old.clock moment) q o e (Splitting row) plain x tt))

  halved_right : (t row : List ℕ) (limit : ℕ) (plain : Told) → tablets_in new q ≡ laid_by old now (On t (Halving row limit)) plain q → Plain
  halved_right t row limit plain same = on_named t (lays_in old now (Halving row limit) plain (table_in old q)).1 same (λ x. at_table old q (λ s. Both new q (updates_of b [] q) old.next s.versions (floor_of s.time now s.horizon)) (λ o e. happens old new store now (max_left old.clock moment) q o e (Halving row limit) plain x tt))

  listed_right : (t : List ℕ) (plain : Told) → tablets_in new q ≡ laid_by old now (On t Listing) plain q → Plain
  listed_right t plain same = on_named t (lays_in old now Listing plain (table_in old q)).1 same (λ x. at_table old q (λ s. Both new q (updates_of b [] q) old.next s.versions (floor_of s.time now s.horizon)) (λ o e. happens old new store now (max_left old.clock moment) q o e Listing plain x tt))

  begun_right : (t row : List ℕ) (kind : Compaction) (plain : Told) → tablets_in new q ≡ laid_by old now (On t (Beginning row kind)) plain q → Plain
  begun_right t row kind plain same = on_named t (lays_in old now (Beginning row kind) plain (table_in old q)).1 same (λ x. at_table old q (λ s. Both new q (updates_of b [] q) old.next s.versions (floor_of s.time now s.horizon)) (λ o e. happens old new store now (max_left old.clock moment) q o e (Beginning row kind) plain x tt))

  installed_right : (t : List ℕ) (plain : Told) → tablets_in new q ≡ laid_by old now (On t (Installing given)) plain q → Plain
  installed_right t plain same = on_named t (lays_in old now (Installing given) plain (table_in old q)).1 same (λ x. at_table old q (λ s. Both new q (updates_of b [] q) old.next s.versions (floor_of s.time now s.horizon)) (λ o e. happens old new store now (max_left old.clock moment) q o e (Installing given) plain x tt))

  -- ---- act by act
  write_right : (t : List ℕ) (m : Mutation) (plain : Told) → tablets_in new q ≡ laid_by old now (On t (Writing m)) plain q → Fit (Write t m) Done → Goal (Write t m) Done
  unfolding next_number updates_of settings_of
  write_right t m plain same fits = go (bytes_eq t q) refl same
    where
      added : List Record
      added = mutation_records old.next now m

      go : (v : Bool) → bytes_eq t q ≡ v → tablets_in new q ≡ cond v (lays_in old now (Writing m) plain (table_in old q)).1 (tablets_in old q) → (s : Settings) → settings_of b [] q ≡ Some s
          → Both new q (cond v (added ++ updates_of b [] q) (updates_of b [] q)) (old.next + 1) s.versions (floor_of s.time now s.horizon)
      go true w x = at_table old q (λ s. Both new q (added ++ updates_of b [] q) (old.next + 1) s.versions (floor_of s.time now s.horizon))
          (λ o e. happens old new store now (max_left old.clock moment) q o e (Writing m) plain x
          (λ u c. fits.1 o.settings (ap (settings_of b []) ((bytes_decides t q).0 w) ∙ ((bases_read old q).0 ∙ ap settings_in e)) u (in_from _ u c)))
      go false w x = stays_at now (max_left old.clock moment) (old.next + 1) le_more x

  create_right : (t : List ℕ) (time : TimeMode) (n : ℕ) (plain : Told) → tablets_in new q ≡ laid_by old now (Making t) plain q → Goal (CreateTable t time n) Done
  unfolding next_number updates_of settings_of
  create_right t time n plain same s e = go (bytes_eq t q) same e
    where
      go : (v : Bool) → tablets_in new q ≡ cond v (new_tablet old.tablet None ∷ []) (tablets_in old q) → cond v (Some (made_with time n)) (settings_of b [] q) ≡ Some s → Both new q (cond v [] (updates_of b [] q)) old.next s.versions (floor_of s.time now s.horizon)
      go true x k = record {
        refines = subst (λ l. RefinesTable l [] old.next s.versions (floor_of s.time now s.horizon)) (sym ((bases_read new q).1 ∙ ap (λ ts. sorted (records_of_all ts)) x)) (holds_nothing old.next s.versions (floor_of s.time now s.horizon));
        sound = subst (λ ts. AreSound ts old.next s.versions (floor_of s.time now s.horizon)) (sym x) (new_tables_are_sound old.tablet old.next s.versions (floor_of s.time now s.horizon));
      }
      go false x k = kept x s k

  drop_right : (t : List ℕ) (plain : Told) → tablets_in new q ≡ laid_by old now (Dropping t) plain q → Goal (DropTable t) Done
  unfolding next_number updates_of settings_of
  drop_right t plain same s e = go (bytes_eq t q) same e
    where
      go : (v : Bool) → tablets_in new q ≡ cond v [] (tablets_in old q) → cond v None (settings_of b [] q) ≡ Some s → Both new q (cond v [] (updates_of b [] q)) old.next s.versions (floor_of s.time now s.horizon)
      go true x k = absurd (cc)
      go false x k = kept x s k

  constraints_right : (t : List ℕ) (cs : List Constraint) → tablets_in new q ≡ tablets_in old q → Goal (SetConstraints t cs) Done
  unfolding next_number updates_of settings_of
  constraints_right t cs same s e = go (bytes_eq t q) e
    where
      At : Settings → Type 0
      At x = Both new q (updates_of b [] q) old.next x.versions (floor_of x.time now x.horizon)

      with_them : (o : Option Settings) → settings_of b [] q ≡ o → constrained cs o ≡ Some s → At s
      with_them None w k = absurd (cc)
      with_them (Some y) w k = subst At (some_is (record y { constraints = cs }) s k) (kept same y w)

      go : (v : Bool) → cond v (constrained cs (settings_of b [] q)) (settings_of b [] q) ≡ Some s → At s
      go true k = with_them (settings_of b [] q) refl k
      go false k = kept same s k

  -- fewer versions, and a later floor
  fewer_both : (next n fewer : ℕ) (floor : ℤ) → fewer ≤ n → Both new q (updates_of b [] q) next n floor → Both new q (updates_of b [] q) next fewer floor
  fewer_both next n fewer floor le h = record { refines = holds_fewer (updates_of (base_of new) [] q) (updates_of b [] q) next n fewer floor le h.refines; sound = sound_with_fewer (tablets_in new q) next n fewer floor le h.sound }

  higher_both : (next n : ℕ) (floor higher : ℤ) → int_le floor higher ≡ true → Both new q (updates_of b [] q) next n floor → Both new q (updates_of b [] q) next n higher
  higher_both next n floor higher le h = record { refines = holds_higher (updates_of (base_of new) [] q) (updates_of b [] q) next n floor higher le h.refines; sound = sound_grown (tablets_in new q) next next n floor higher (omega arith) le h.sound }

  versions_right : (t : List ℕ) (many : ℕ) → tablets_in new q ≡ tablets_in old q → Fit (SetVersions t many) Done → Goal (SetVersions t many) Done
  unfolding next_number updates_of settings_of
  versions_right t many same fits s e = go (bytes_eq t q) refl e
    where
      At : Settings → Type 0
      At x = Both new q (updates_of b [] q) old.next x.versions (floor_of x.time now x.horizon)

      with_them : (o : Option Settings) → settings_of b [] q ≡ o → ((x : Settings) → o ≡ Some x → many ≤ x.versions) → limited many o ≡ Some s → At s
      with_them None w f k = absurd (cc)
      with_them (Some y) w f k = subst At (some_is (record y { versions = many }) s k) (fewer_both old.next y.versions many (floor_of y.time now y.horizon) (f y refl) (kept same y w))

      go : (v : Bool) → bytes_eq t q ≡ v → cond v (limited many (settings_of b [] q)) (settings_of b [] q) ≡ Some s → At s
      go true w k = with_them (settings_of b [] q) refl (λ x p. fits.1 x (ap (settings_of b []) ((bytes_decides t q).0 w) ∙ p)) k
      go false w k = kept same s k

  horizon_right : (t : List ℕ) (low : ℤ) → tablets_in new q ≡ tablets_in old q → Fit (SetHorizon t low) Done → Goal (SetHorizon t low) Done
  unfolding next_number updates_of settings_of
  horizon_right t low same fits s e = go (bytes_eq t q) refl e
    where
      At : Settings → Type 0
      At x = Both new q (updates_of b [] q) old.next x.versions (floor_of x.time now x.horizon)

      with_them : (o : Option Settings) → settings_of b [] q ≡ o → ((x : Settings) → o ≡ Some x → int_le x.horizon low ≡ true) → closed_below low o ≡ Some s → At s
      with_them None w f k = absurd (cc)
      with_them (Some y) w f k = subst At (some_is (record y { horizon = low }) s k) (higher_both old.next y.versions (floor_of y.time now y.horizon) (floor_of y.time now low) (floor_raised y.time now y.horizon low (f y refl)) (kept same y w))

      go : (v : Bool) → bytes_eq t q ≡ v → cond v (closed_below low (settings_of b [] q)) (settings_of b [] q) ≡ Some s → At s
      go true w k = with_them (settings_of b [] q) refl (λ x p. fits.1 x (ap (settings_of b []) ((bytes_decides t q).0 w) ∙ p)) k
      go false w k = kept same s k

  grant_right : (n : List ℕ) (p : Permission) → tablets_in new q ≡ tablets_in old q → Goal (Grant n p) Done
  unfolding next_number updates_of settings_of
  grant_right n (OfSystem p) same = kept same
  grant_right n (OfTable p t) same = kept same

  revoke_right : (n : List ℕ) (p : Permission) → tablets_in new q ≡ tablets_in old q → Goal (Revoke n p) Done
  unfolding next_number updates_of settings_of
  revoke_right n (OfSystem p) same = kept same
  revoke_right n (OfTable p t) same = kept same

  granted_right : (c : Caller) (act : Act) → tablets_in new q ≡ laid_by old now (work_of given act) (granted c act) q → Fit act (granted c act) → Goal act (granted c act)
  unfolding next_number updates_of settings_of
  granted_right c (Open scan) same fits = frozen_right scan.table told_opened same
  granted_right c (Write t m) same fits = write_right t m Done same fits
  granted_right c (CreateTable t time n) same fits = create_right t time n Done same
  granted_right c (DropTable t) same fits = drop_right t Done same
  granted_right c (SetConstraints t cs) same fits = constraints_right t cs same
  granted_right c (SetVersions t many) same fits = versions_right t many same fits
  granted_right c (SetHorizon t low) same fits = horizon_right t low same fits
  granted_right c (Grant n p) same fits = grant_right n p same
  granted_right c (Revoke n p) same fits = revoke_right n p same
  granted_right c (Status t) same fits = counted_right t Done same
  granted_right c (Flush t) same fits = compacted_right t Minor Done same
  granted_right c (Compact t e) same fits = compacted_right t (kind_of e) Done same
  granted_right c (AddSplit t row) same fits = split_right t row Done same
  granted_right c (SplitBySize t row limit) same fits = halved_right t row limit Done same
  granted_right c (Splits t) same fits = listed_right t Done same
  granted_right c (Begin t row kind) same fits = begun_right t row kind Done same
  granted_right c (Install t by) same fits = installed_right t Done same
  granted_right c act same fits = kept same

  -- what is told where it is left open changes nothing that is read
  open_right : (c : Caller) (act : Act) (r : Told) → MayTell act (granted c act) r → tablets_in new q ≡ laid_by old now (work_of given act) (granted c act) q → leaves_open act ≡ true → Goal act r
  unfolding next_number updates_of settings_of
  open_right c (Status t) r m same o = subst (Goal (Status t)) (sym m.1) (counted_right t Done same)
  open_right c (AddSplit t row) r (inl e) same o = subst (Goal (AddSplit t row)) (sym e) (split_right t row Done same)
  open_right c (AddSplit t row) r (inr (inl e)) same o = subst (Goal (AddSplit t row)) (sym e) (split_right t row Done same)
  open_right c (AddSplit t row) r (inr (inr e)) same o = subst (Goal (AddSplit t row)) (sym e) (split_right t row Done same)
  open_right c (SplitBySize t row limit) r (inl e) same o = subst (Goal (SplitBySize t row limit)) (sym e) (halved_right t row limit Done same)
  open_right c (SplitBySize t row limit) r (inr (inl e)) same o = subst (Goal (SplitBySize t row limit)) (sym e) (halved_right t row limit Done same)
  open_right c (SplitBySize t row limit) r (inr (inr (inl e))) same o = subst (Goal (SplitBySize t row limit)) (sym e) (halved_right t row limit Done same)
  open_right c (SplitBySize t row limit) r (inr (inr (inr e))) same o = subst (Goal (SplitBySize t row limit)) (sym e) (halved_right t row limit Done same)
  open_right c (Splits t) r m same o = subst (Goal (Splits t)) (sym m.1) (listed_right t Done same)
  open_right c (Begin t row kind) r (inl e) same o = subst (Goal (Begin t row kind)) (sym e) (begun_right t row kind Done same)
  open_right c (Begin t row kind) r (inr e) same o = subst (Goal (Begin t row kind)) (sym e) (begun_right t row kind Done same)
  open_right c (Install t by) r (inl e) same o = subst (Goal (Install t by)) (sym e) (installed_right t Done same)
  open_right c (Install t by) r (inr m) same o = subst (Goal (Install t by)) (sym m.1) (installed_right t Done same)
  open_right c act r m same o = absurd (true≢false (sym o))

  -- whatever may be told of an act that no check refuses
  accepted_right : (c : Caller) (act : Act) (r : Told) → MayTell act (granted c act) r → tablets_in new q ≡ laid_by old now (work_of given act) (granted c act) q → Fit act r → Goal act r
  accepted_right c act r m same = of_told (λ z. Fit act z → Goal act z) act (granted c act) r m (granted_right c act same) (λ o fits. open_right c act r m same o)

  -- ---- what was told, and so what was laid
  laid_refused : (act : Act) (r k : Refusal) → laid_told (Refused r) old now given act (Refused k) q ≡ tablets_in old q
  laid_refused act NoMemory k = refl
  laid_refused act _ k = refl

  told_plain : (c : Caller) (act : Act) → laid_told (granted c act) old now given act (granted c act) q ≡ laid_by old now (work_of given act) (granted c act) q
  told_plain c (Open scan) = refl
  told_plain c _ = refl

  open_laid : (c : Caller) (act : Act) (r : Told) → MayTell act (granted c act) r → leaves_open act ≡ true → laid_told r old now given act (granted c act) q ≡ laid_by old now (work_of given act) (granted c act) q
  open_laid c (Status t) r m o = ap (λ z. laid_told z old now given (Status t) Done q) m.1
  open_laid c (AddSplit t row) r (inl e) o = ap (λ z. laid_told z old now given (AddSplit t row) Done q) e
  open_laid c (AddSplit t row) r (inr (inl e)) o = ap (λ z. laid_told z old now given (AddSplit t row) Done q) e
  open_laid c (AddSplit t row) r (inr (inr e)) o = ap (λ z. laid_told z old now given (AddSplit t row) Done q) e
  open_laid c (SplitBySize t row limit) r (inl e) o = ap (λ z. laid_told z old now given (SplitBySize t row limit) Done q) e
  open_laid c (SplitBySize t row limit) r (inr (inl e)) o = ap (λ z. laid_told z old now given (SplitBySize t row limit) Done q) e
  open_laid c (SplitBySize t row limit) r (inr (inr (inl e))) o = ap (λ z. laid_told z old now given (SplitBySize t row limit) Done q) e
  open_laid c (SplitBySize t row limit) r (inr (inr (inr e))) o = ap (λ z. laid_told z old now given (SplitBySize t row limit) Done q) e
  open_laid c (Splits t) r m o = ap (λ z. laid_told z old now given (Splits t) Done q) m.1
  open_laid c (Begin t row kind) r (inl e) o = ap (λ z. laid_told z old now given (Begin t row kind) Done q) e
  open_laid c (Begin t row kind) r (inr e) o = ap (λ z. laid_told z old now given (Begin t row kind) Done q) e
  open_laid c (Install t by) r (inl e) o = ap (λ z. laid_told z old now given (Install t by) Done q) e
  open_laid c (Install t by) r (inr m) o = ap (λ z. laid_told z old now given (Install t by) Done q) m.1
  open_laid c act r m o = absurd (true≢false (sym o))

  was_laid : (c : Caller) (act : Act) (r : Told) → MayTell act (granted c act) r → laid_told r old now given act (granted c act) q ≡ laid_by old now (work_of given act) (granted c act) q
  was_laid c act r m = of_told (λ z. laid_told z old now given act (granted c act) q ≡ laid_by old now (work_of given act) (granted c act) q) act (granted c act) r m (told_plain c act) (open_laid c act r m)

  was_told : (c : Caller) (act : Act) → told_exactly old now given act (granted c act) ≡ told_by old now (work_of given act) (granted c act)
  was_told c (Open scan) = refl
  was_told c _ = refl

  may_tell : (c : Caller) (act : Act) (r : Told) → r ≡ told_exactly old now given act (granted c act) → MayTell act (granted c act) r
  may_tell c act r e = subst (MayTell act (granted c act)) (sym (e ∙ was_told c act)) (tells_legally old now given act (granted c act))

  abbrev Answers : Act → Told → Told → Type 0
  Answers act plain r = (r ≡ told_exactly old now given act plain) ⊎ ((takes_memory act ≡ true) × (r ≡ Refused NoMemory))

  goal_from : (c : Caller) (act : Act) (o : Option Refusal) (used_up : Bool) (r : Told) → Answers act (told o (numbered used_up (granted c act))) r → tablets_in new q ≡ laid_told r old now given act (told o (numbered used_up (granted c act))) q → Fit act r → Goal act r
  goal_from c act None false r (inl e) same fits = let m : MayTell act (granted c act) r = may_tell c act r e in accepted_right c act r m (same ∙ was_laid c act r m) fits
  goal_from c act None true r (inl e) same fits = subst (λ z. tablets_in new q ≡ laid_told z old now given act (Refused (TooLarge Numbers)) q → Goal act z) (sym e) (λ x. refused_right act (TooLarge Numbers) (x ∙ laid_refused act (TooLarge Numbers) (TooLarge Numbers))) same
  goal_from c act (Some k) used_up r (inl e) same fits = subst (λ z. tablets_in new q ≡ laid_told z old now given act (Refused k) q → Goal act z) (sym e) (λ x. refused_right act k (x ∙ laid_refused act k k)) same
  goal_from c act o used_up r (inr e) same fits = subst (λ z. tablets_in new q ≡ laid_told z old now given act (told o (numbered used_up (granted c act))) q → Goal act z) (sym e.1) (λ x. refused_right act NoMemory x) same

  -- ---- the reply is an answer
  as_reply : (c : Caller) (act : Act) (r : Told) → MayTell act (granted c act) r → IsReply (step act) (granted c act) r
  as_reply c (Open scan) r h = h
  as_reply c _ r h = h

  replied : (c : Caller) (act : Act) (o : Option Refusal) (used_up : Bool) (r : Told) → Answers act (told o (numbered used_up (granted c act))) r → IsReply (step act) (told o (numbered used_up (granted c act))) r ⊎ LacksMemory (step act) r
  replied c act None false r (inl e) = inl (as_reply c act r (may_tell c act r e))
  replied c act None true r (inl e) = inl e
  replied c act (Some k) used_up r (inl e) = inl e
  replied c act o used_up r (inr e) = inr e

-- ---- the whole core
-- the answer of a run is the answer to the event by itself, where that names no slot
no_slot : (act : Act) → NamesNoSlot act → None ≡ empty_slot [] act
no_slot (Install t (InSlot slot)) none = absurd none
no_slot (Install t (ByHand job)) none = refl
no_slot act none = refl

plainly : (old : CoreContents) (user : List ℕ) (moment : ℤ) (act : Act) → NamesNoSlot act → event_answer (base_of old) [] (int_max old.clock moment) user act ≡ answer_at (world_of (base_of old)) [] [] (IsEvent (record { user = user; moment = moment; act = act }))
unfolding answer opened closed clock_of journal moves_of jobs_of
plainly old user moment act none = go (is_open act)
  where
    plain : Told
    plain = event_answer (base_of old) [] (int_max old.clock moment) user act

    go : (v : Bool) → plain ≡ cond (v && is_full []) (Refused (TooLarge Sessions)) (slotted (empty_slot [] act) plain)
    go true = ap (λ o. slotted o plain) (no_slot act none)
    go false = ap (λ o. slotted o plain) (no_slot act none)

module _ (old : CoreContents) (event : Event) where
  abbrev at : ℤ
  at = int_max old.clock event.moment

  abbrev who : Caller
  who = standing (base_of old) [] event.user

  abbrev refusal : Option Refusal
  refusal = refusal_of who (exists_in (base_of old) [] (user_named event.act)) at event.user event.act

  abbrev spent : Bool
  spent = are_used_up (base_of old) [] event.act

  abbrev plain : Told
  plain = told refusal (numbered spent (granted who event.act))

  -- the reply is an answer, or memory lacked
  legal_at : NamesNoSlot event.act → (r : Told) → IsReply (IsEvent event) plain r ⊎ LacksMemory (IsEvent event) r → IsAnswer (world_of (base_of old)) [] [] (IsEvent event) r ⊎ LacksMemory (IsEvent event) r
  legal_at none r (inl h) = inl (subst (λ x. IsReply (IsEvent event) x r) (plainly old event.user event.moment event.act none) h)
  legal_at none r (inr x) = inr x

module _ (old new : CoreContents) (given job : Option TabletMerge) (event : Event) (r : Told) (store : IsStore old) (none : NamesNoSlot event.act) (leaves : LeavesExactly old given event r job new) where
  legal : IsAnswer (world_of (base_of old)) [] [] (IsEvent event) r ⊎ LacksMemory (IsEvent event) r
  legal = legal_at old event none r (replied old new store given event.user event.moment [] (who old event) event.act (refusal old event) (spent old event) r leaves.exact.answers)

  fits : FitAll (base_of old) [] (at old event) (changes_by (at old event) (IsEvent event) r)
  unfolding journal clock_of
  fits = fits_legal (world_of (base_of old)) [] [] (IsEvent event) r legal

  all_goals : (q : List ℕ) → Goal old new store given event.user event.moment q event.act r
  all_goals q = goal_from old new store given event.user event.moment q (who old event) event.act (refusal old event) (spent old event) r leaves.exact.answers (leaves.exact.tablets q) fits

pub steps_are_right : StepsAreRight
unfolding journal clock_of
steps_are_right old new given job event r store none leaves = record {
  legal = (tt, legal old new given job event r store none leaves);
  refines = record { reads = leaves.reads; tables = λ q s e. (all_goals old new given job event r store none leaves q s e).refines };
}

-- the tablets of each table are sound still
pub soundness_stays : (old new : CoreContents) (given job : Option TabletMerge) (event : Event) (r : Told) → IsStore old → NamesNoSlot event.act → LeavesExactly old given event r job new → (q : List ℕ) (t : TableContents) → table_in new q ≡ Some t
    → AreSound t.tablets new.next t.settings.versions (floor_of t.settings.time new.clock t.settings.horizon)
unfolding journal clock_of next_number
soundness_stays old new given job event r store none leaves q t e =
    let settings : settings_of (base_of old) (changes_by (at old event) (IsEvent event) r ++ []) q ≡ Some t.settings = sym (leaves.reads.settings q) ∙ ((bases_read new q).0 ∙ ap settings_in e) in
    let both = all_goals old new given job event r store none leaves q t.settings settings in
    subst (λ ts. AreSound ts new.next t.settings.versions (floor_of t.settings.time new.clock t.settings.horizon)) (ap tablets_found e)
    (subst (λ k. AreSound (tablets_in new q) k t.settings.versions (floor_of t.settings.time new.clock t.settings.horizon)) (sym leaves.reads.next)
    (subst (λ c. AreSound (tablets_in new q) (next_number (base_of old) (changes_by (at old event) (IsEvent event) r ++ [])) t.settings.versions (floor_of t.settings.time c t.settings.horizon)) (sym leaves.reads.clock) both.sound))
