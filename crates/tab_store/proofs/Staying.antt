-- An exact step of a store leaves a store: each record that it holds then was held or added, and its end rows stay within their limits.
use Rattle.std.proofs.Common.{◌≡◌, inl, inr, ℕ, List, [], ◌∷◌, ◌++◌, Bool, true, false, cond, refl, sym, ◌∙◌, ap, subst, ◌⊎◌, arith}
use Rattle.std.specs.Prelude.{ℤ, Option, Some, None, Contains, option_map, bytes_eq}
use Rattle.std.specs.Int.{int_max}
use Rattle.std.specs.Cmp.Lexicographic.{bytes_decides}
use Rattle.tab_key.specs.Records.{Record}
use Rattle.tab_key.specs.Sorted.{sorted, IsIn}
use Rattle.tab_key.specs.declared.limited_part.LimitedPart.TheVariants.{Row}
use Rattle.tab_key.proofs.Rising.{in_from, in_to, in_sorted, sorted_in}
use Rattle.tab_mutation.specs.Mutations.{Mutation}
use Rattle.tab_mutation.specs.Shape.{first_some, is_too_long, shape_error}
use Rattle.tab_mutation.proofs.Shapes.{none_left, none_right, unmet}
use Rattle.tab_cells.specs.Written.{mutation_records}
use Rattle.tab_cells.proofs.Lists.{in_append}
use Rattle.tab_policy.specs.declared.permission.Permission.TheVariants.{OfSystem, OfTable}
use Rattle.tab_tablets.specs.Tablets.{Tablet, new_tablet}
use Rattle.tab_tablets.specs.ByRow.{records_of_all}
use Rattle.tab_tablets.specs.Parts.{TabletMerge}
use Rattle.tab_history.specs.Settings.{Settings}
use Rattle.tab_history.specs.Bases.{Base}
use Rattle.tab_history.specs.Changes.{Change, changes_of}
use Rattle.tab_history.specs.Readings.{settings_of, next_number, updates_of}
use Rattle.tab_history.specs.Checks.{Caller, standing, shape_refusal, malformed, mutation_checks}
use Rattle.tab_history.specs.Answers.{Told, told, numbered, granted, changes_by}
use Rattle.tab_history.specs.Histories.{clock_of, journal}
use Rattle.tab_history.specs.Chains.{NamesNoSlot}
use Rattle.tab_history.specs.declared.event.Act.{Act}
use Rattle.tab_history.specs.declared.event.Act.TheVariants.{Write, CreateTable, DropTable, Grant, Revoke, Compact, AddSplit}
use Rattle.tab_history.specs.declared.event.Event.{Event}
use Rattle.tab_history.specs.declared.event.Step.TheVariants.{Event as IsEvent}
use Rattle.tab_history.specs.declared.reply.Refusal.{Refusal}
use Rattle.tab_history.specs.declared.reply.Refusal.TheVariants.{NoMemory, TooLarge}
use Rattle.tab_history.specs.declared.reply.Reply.TheVariants.{Refused}
use Rattle.tab_history.proofs.Options.{unmapped}
use Rattle.tab_history.proofs.Accepted.{own_pass}
use Rattle.tab_store.specs.Stores.{TableContents, CoreContents, base_of, table_in, tablets_found, tablets_in}
use Rattle.tab_store.specs.Stepping.{TableWork, Aside, Making, Dropping, On, now_at, work_of, place_of, lays_in, laid_by, laid_exactly, laid_told}
use Rattle.tab_store.specs.Keeping.{settings_in}
use Rattle.tab_store.specs.Limits.{IsWellFormed, AreEndRows}
use Rattle.tab_store.specs.Rightness.{IsStore, LeavesExactly, StoresStay}
use Rattle.tab_store.proofs.Reading.{bases_read}
use Rattle.tab_store.proofs.Middles.{Lies, lies}
use Rattle.tab_store.proofs.Right.{steps_are_right, soundness_stays}
use Rattle.tab_store.proofs.Passed.{caller, refusal, spent, of_passed}
use Rattle.tab_store.proofs.WellFormed.{short, well_formed}
use Rattle.tab_store.proofs.Ends.{EndsFit, IsShortRow, WorkFits, MiddlesFit, work_fits}
use Rattle.tab_store.proofs.Numbering.{numbers_stay}

-- ---- records
-- each record of each table has the property
abbrev pub EachHas : (Record → Type 0) → CoreContents → Type 0
EachHas P h = (q : List ℕ) (t : TableContents) → table_in h q ≡ Some t → (u : Record) → Contains (records_of_all t.tablets) u → P u

-- so has each record that the act adds to a table, once it has passed
abbrev pub AddedHave : (Record → Type 0) → CoreContents → ℤ → Act → Type 0
AddedHave P h now (Write t m) = (s : Settings) → settings_of (base_of h) [] t ≡ Some s → (u : Record) → IsIn (mutation_records h.next now m) u → P u
AddedHave P h now _ = Unit {0}

module _ (P : Record → Type 0) (old : CoreContents) (has : EachHas P old) where
  abbrev b : Base
  b = base_of old

  -- each update of each table that there is after some changes has it
  abbrev HaveAfter : List Change → Type 0
  HaveAfter j = (q : List ℕ) (s : Settings) → settings_of b (j ++ []) q ≡ Some s → (u : Record) → IsIn (updates_of b (j ++ []) q) u → P u

  had : (q : List ℕ) (u : Record) → IsIn (updates_of b [] q) u → P u
  had q u i = go (table_in old q) refl (in_sorted (records_of_all (tablets_in old q)) u (subst (λ us. IsIn us u) (bases_read old q).1 i))
    where
      go : (o : Option TableContents) → table_in old q ≡ o → IsIn (records_of_all (tablets_found o)) u → P u
      go None e k = absurd k
      go (Some t) e k = has q t e u (in_to (records_of_all t.tablets) u k)

  none_has : (q : List ℕ) (u : Record) (v : Bool) → IsIn (cond v [] (updates_of b [] q)) u → P u
  none_has q u true i = absurd i
  none_has q u false i = had q u i

  module _ (now : ℤ) (user : List ℕ) where
    act_has : (act : Act) → AddedHave P old now act → HaveAfter (changes_of now user act)
    unfolding settings_of updates_of next_number
    act_has (Write t m) a q s e u i = go (bytes_eq t q) refl i
      where
        go : (v : Bool) → bytes_eq t q ≡ v → IsIn (cond v (mutation_records old.next now m ++ updates_of b [] q) (updates_of b [] q)) u → P u
        go true w k = either (in_append (mutation_records old.next now m) (updates_of b [] q) u k)
          where
            either : IsIn (mutation_records old.next now m) u ⊎ IsIn (updates_of b [] q) u → P u
            either (inl k) = a s (ap (settings_of b []) ((bytes_decides t q).0 w) ∙ e) u k
            either (inr k) = had q u k
        go false w k = had q u k
    act_has (CreateTable t time n) a q s e u i = none_has q u (bytes_eq t q) i
    act_has (DropTable t) a q s e u i = none_has q u (bytes_eq t q) i
    act_has (Grant n (OfSystem p)) a q s e u i = had q u i
    act_has (Grant n (OfTable p t)) a q s e u i = had q u i
    act_has (Revoke n (OfSystem p)) a q s e u i = had q u i
    act_has (Revoke n (OfTable p t)) a q s e u i = had q u i
    act_has (Compact t e) a q s h u i = had q u i
    act_has act a q s e u i = had q u i

-- What each record of a store has, and each that an event adds, each has afterwards.
pub each_stays : (P : Record → Type 0) (old new : CoreContents) (given job : Option TabletMerge) (event : Event) (r : Told) → IsStore old → NamesNoSlot event.act → LeavesExactly old given event r job new → EachHas P old → (refusal old event ≡ None → AddedHave P old (now_at old event) event.act) → EachHas P new
unfolding journal clock_of
each_stays P old new given job event r store none leaves has added q t e u c =
    let settings : settings_of (base_of old) (changes_by (now_at old event) (IsEvent event) r ++ []) q ≡ Some t.settings = sym (leaves.reads.settings q) ∙ ((bases_read new q).0 ∙ ap settings_in e) in
    let held : IsIn (updates_of (base_of new) [] q) u = subst (λ us. IsIn us u) (sym (bases_read new q).1)
    (sorted_in (records_of_all (tablets_in new q)) u (subst (λ ts. IsIn (records_of_all ts) u) (sym (ap tablets_found e)) (in_from (records_of_all t.tablets) u c))) in
    let accepted = ((steps_are_right old new given job event r store none leaves).refines.tables q t.settings settings).refines.accepted u (in_to _ u held) in
    of_passed old event (HaveAfter P old has) (λ s w f v i. had P old has s v i) given r (λ passed left. act_has P old has (now_at old event) event.user event.act (added passed)) leaves.exact.answers q t.settings settings u (in_from _ u accepted)

-- ---- an event that has passed its checks
module _ (old : CoreContents) (user : List ℕ) (moment : ℤ) where
  abbrev event_of : Act → Event
  event_of act = record { user = user; moment = moment; act = act }

  -- what it adds is well formed
  write_well : (t : List ℕ) (m : Mutation) → refusal old (event_of (Write t m)) ≡ None → AddedHave IsWellFormed old (int_max old.clock moment) (Write t m)
  unfolding standing
  write_well t m passed s e u i = well_formed old.next (int_max old.clock moment) m (unmapped shape_refusal (shape_error m) (none_left _ _ checks)) (none_left (malformed m) _ (none_right (option_map shape_refusal (shape_error m)) _ checks)) u i
    where
      checks : first_some (mutation_checks (Some s) (caller old (event_of (Write t m))).auths (int_max old.clock moment) m) ≡ None
      checks = subst (λ o. first_some (mutation_checks o (caller old (event_of (Write t m))).auths (int_max old.clock moment) m) ≡ None) e (own_pass (caller old (event_of (Write t m))) true (int_max old.clock moment) user (Write t m) passed)

  added_well : (act : Act) → refusal old (event_of act) ≡ None → AddedHave IsWellFormed old (int_max old.clock moment) act
  added_well (Write t m) passed = write_well t m passed
  added_well _ passed = tt

  -- the row of a split is within its limit
  split_passed : (given : Option TabletMerge) (act : Act) → refusal old (event_of act) ≡ None → WorkFits (work_of given act)
  split_passed given (AddSplit t row) passed = short row (unmet (is_too_long row) (TooLarge Row) (none_left _ None (own_pass (caller old (event_of (AddSplit t row))) true (int_max old.clock moment) user (AddSplit t row) passed)))
  split_passed given act passed = tt

-- ---- end rows
-- those of no table, and of a new one
no_ends : AreEndRows []
no_ends = record { short = tt; few = omega arith }

module _ (old : CoreContents) (store : IsStore old) (q : List ℕ) where
  -- the tablets of the table q
  ends_had : EndsFit (tablets_in old q)
  ends_had = go (table_in old q) refl
    where
      go : (o : Option TableContents) → table_in old q ≡ o → EndsFit (tablets_found o)
      go None e = no_ends
      go (Some t) e = (store.limits q t e).ends

  -- the row in the middle of what a tablet holds is that of a record
  middles_had : MiddlesFit (tablets_in old q)
  middles_had = go (table_in old q) refl
    where
      go : (o : Option TableContents) → table_in old q ≡ o → MiddlesFit (tablets_found o)
      go None e row middle x found halved = absurd (cc)
      go (Some t) e row middle x found halved =
          let s = store.tables q t e in
          let l : Lies t.tablets x middle = lies old.next t.settings.versions _ row middle x halved t.tablets (sorted (records_of_all t.tablets)) s.whole s.refines found in
          subst IsShortRow l.is ((store.limits q t e).records l.which (in_to (records_of_all t.tablets) l.which l.member)).short.row

  module _ (now : ℤ) where
    on_named : (t : List ℕ) (after : List Tablet) → EndsFit after → EndsFit (cond (bytes_eq t q) after (tablets_in old q))
    on_named t after fit = go (bytes_eq t q)
      where
        go : (v : Bool) → EndsFit (cond v after (tablets_in old q))
        go true = fit
        go false = ends_had

    laid_fits : (work : TableWork) (plain : Told) → WorkFits work → EndsFit (laid_by old now work plain q)
    laid_fits Aside plain w = ends_had
    laid_fits (Making t) plain w = on_named t (new_tablet old.tablet None ∷ []) no_ends
    laid_fits (Dropping t) plain w = on_named t [] no_ends
    laid_fits (On t work) plain w = on_named t (lays_in old now work plain (table_in old q)).1 (work_fits (place_of old now (table_in old q)) work plain (tablets_in old q) middles_had w ends_had)

    module _ (given : Option TabletMerge) where
      exactly_fits : (act : Act) (plain : Told) → EndsFit (laid_by old now (work_of given act) plain q) → EndsFit (laid_exactly old now given act plain q)
      exactly_fits act (Refused r) fit = ends_had
      exactly_fits act _ fit = fit

      told_fits : (act : Act) (r plain : Told) → EndsFit (laid_exactly old now given act plain q) → EndsFit (laid_told r old now given act plain q)
      told_fits act (Refused NoMemory) plain fit = ends_had
      told_fits act _ plain fit = fit

      answer_fits : (c : Caller) (act : Act) (o : Option Refusal) (used_up : Bool) → (o ≡ None → WorkFits (work_of given act)) → EndsFit (laid_exactly old now given act (told o (numbered used_up (granted c act))) q)
      answer_fits c act None false f = exactly_fits act (granted c act) (laid_fits (work_of given act) (granted c act) (f refl))
      answer_fits c act None true f = ends_had
      answer_fits c act (Some k) used_up f = ends_had

ends_stay : (old new : CoreContents) (given job : Option TabletMerge) (event : Event) (r : Told) → IsStore old → LeavesExactly old given event r job new → (q : List ℕ) → EndsFit (tablets_in new q)
ends_stay old new given job event r store leaves q = subst EndsFit (sym (leaves.exact.tablets q))
    (told_fits old store q (now_at old event) given event.act r _ (answer_fits old store q (now_at old event) given (caller old event) event.act (refusal old event) (spent old event) (split_passed old event.user event.moment given event.act)))

-- ---- stores
pub stores_stay : StoresStay
stores_stay old new given job event r store none leaves = record {
  names = leaves.exact.names;
  tables = soundness_stays old new given job event r store none leaves;
  limits = λ q t e. record {
    records = each_stays IsWellFormed old new given job event r store none leaves (λ p x f u c. (store.limits p x f).records u c) (added_well old event.user event.moment event.act) q t e;
    ends = subst EndsFit (ap tablets_found e) (ends_stay old new given job event r store leaves q);
  };
  numbers = numbers_stay old new given job event r store.numbers leaves.exact;
}
