-- From what an act does to a core to what a step does to every history that the core refined.
use Rattle.std.proofs.Common.{◌≡◌, inl, inr, List, [], ◌∷◌, ◌++◌, false, cond, refl, sym, ◌∙◌, ap, subst, Option}
use Rattle.std.specs.Prelude.{ℤ, ℕ, is_some, find, bytes_eq}
use Rattle.std.specs.Int.{int_max}
use Rattle.std.proofs.lemmas.List.{append-nil}
use Rattle.tab_key.specs.declared.limited_part.LimitedPart.TheVariants as part
use Rattle.tab_policy.specs.State.{table_exists}
use Rattle.tab_session.specs.OpenSession.{OpenSession}
use Rattle.tab_history.specs.declared.event.Act.{Act}
use Rattle.tab_history.specs.declared.event.Act.TheVariants.{Install}
use Rattle.tab_history.specs.declared.event.Event.{Event}
use Rattle.tab_history.specs.declared.event.Given.TheVariants.{InSlot}
use Rattle.tab_history.specs.declared.event.Step.TheVariants.{Event as IsEvent}
use Rattle.tab_history.specs.declared.reply.Refusal.{Refusal}
use Rattle.tab_history.specs.declared.reply.Refusal.TheVariants as refusal
use Rattle.tab_history.specs.declared.reply.Reply.{Reply}
use Rattle.tab_history.specs.declared.reply.Reply.TheVariants.{Done, Refused}
use Rattle.tab_history.specs.Bases.{Base, BaseTable}
use Rattle.tab_history.specs.Changes.{Change}
use Rattle.tab_history.specs.Readings.{has_user, user_count, held_auths, has_system_right, has_table_right, table_count, base_settings, settings_of, next_number}
use Rattle.tab_history.specs.Answers.{Told, answer, event_answer, changes_by, told_of, job_of}
use Rattle.tab_history.specs.Jobs.{job_in}
use Rattle.tab_history.specs.Sessions.{opened, closed}
use Rattle.tab_history.specs.Histories.{Entry, World, world_of, world_after, clock_of, clock_after, journal, moves_of, jobs_of}
use Rattle.tab_history.specs.Legal.{IsAnswer}
use Rattle.tab_history.specs.Refinement.{ReadsAlike, Refines}
use Rattle.tab_history.specs.Chains.{GoesRight, HasRoom, NamesNoSlot, GoesOnFrom}
use Rattle.tab_history.proofs.GoesOnLemmas.{goes_on}
use Rattle.tab_history.proofs.Chains.{sound_refines_itself}
use Rattle.tab_history.proofs.Lacking.{alone}
use Rattle.tab_history.proofs.Playing.{unmoved}
use Rattle.tab_store.specs.Parts.{TabletMerge}
use Rattle.tab_store.specs.Stores.{CoreContents, base_of, IsNewStore}
use Rattle.tab_store.specs.Stepping.{LaysExactly, StepsExactly, now_at, plain_answer, entry_of}
use Rattle.tab_store.specs.Rightness.{LeavesExactly}
use Rattle.tab_store.proofs.ChainLaws.{new_stores_are_stores, stores_are_sound}
use Rattle.tab_store.proofs.Right.{steps_are_right}
use Rattle.tab_store.proofs.Staying.{stores_stay}
use Rattle.tab_core.specs.Stepping.{HandsOut, Steps, StepsWith, changes_told, moves_clock, Acts, IsCore}
use Rattle.tab_core.specs.Bounded.{WritesBare}
use Rattle.tab_core.proofs.Bounded.{limits_stay, new_is_bounded}

-- ---- a new core
pub new_is_core : (h : CoreContents) → IsNewStore h → ((t : List ℕ) → table_exists h.policy t ≡ false) → IsCore h
unfolding settings_of
new_is_core h new unknown = record {
  store = new_stores_are_stores h new;
  knows = λ t. unknown t ∙ sym (ap (λ (ts : List BaseTable). is_some (base_settings (find (λ (u : BaseTable). bytes_eq u.name t) ts))) new.base.tables);
  limits = new_is_bounded h new;
}

-- ---- the clock
refusal_moved : (e : Event) (x : Refusal) (c : ℤ) → clock_after (IsEvent e) (Refused x) c ≡ cond (moves_clock (Refused x)) (int_max c e.moment) c
refusal_moved e refusal.NoMemory c = refl
refusal_moved e (refusal.TooLarge part.Sessions) c = refl
refusal_moved e (refusal.TooLarge x) c = refl
refusal_moved e x c = refl

clock_moved : (e : Event) (r : Told) (c : ℤ) → clock_after (IsEvent e) r c ≡ cond (moves_clock r) (int_max c e.moment) c
clock_moved e (Refused x) c = refusal_moved e x c
clock_moved e reply c = refl

-- ---- one step, seen from the core alone
changes_alike : (now : ℤ) (e : Event) (r : Told) → changes_by now (IsEvent e) r ≡ changes_told now e.user e.act r
changes_alike now e Done = refl
changes_alike now e reply = refl

-- no session was opened in no entry
room_alone : (w : World) (e : Event) → NamesNoSlot e.act → HasRoom w [] (IsEvent e)
unfolding moves_of opened closed
room_alone w e alone = (λ opens. refl, alone)

-- want of memory leaves no trace
no_trace : (v w : World) (h : List Entry) (e : Event) → Refines v (world_after w (entry_of e (Refused refusal.NoMemory) ∷ h)) → Refines v (world_after w h)
unfolding journal clock_of
no_trace v w h e s = s

no_entry : (v w : World) (h : List Entry) (e : Event) (r : Told) → r ≡ Refused refusal.NoMemory → Refines v (world_after w (entry_of e r ∷ h)) → Refines v (world_after w h)
no_entry v w h e r is s = no_trace v w h e (subst (λ x. Refines v (world_after w (entry_of e x ∷ h))) is s)

-- the core with its clock set
abbrev pub set : Event → Told → CoreContents → CoreContents → CoreContents
set e r old new = record new { clock = cond (moves_clock r) (int_max old.clock e.moment) old.clock }

module _ (old new : CoreContents) (given : Option TabletMerge) (e : Event) (reply : Reply OpenSession TabletMerge) (core : IsCore old) (acts : Acts (plain_answer old e) old (now_at old e) given e.user e.act reply new) (bare : WritesBare e.act) (named : NamesNoSlot e.act) where
  abbrev after : CoreContents
  after = set e (told_of reply) old new

  laid : LaysExactly old (now_at old e) given e.act (plain_answer old e) (told_of reply) (job_of reply) after
  laid = record { answers = acts.exact.answers; hands = acts.exact.hands; tablets = acts.exact.tablets; names = acts.exact.names; tablet = acts.exact.tablet; number = acts.exact.number }

  reads : ReadsAlike (world_of (base_of after)) (world_after (world_of (base_of old)) (entry_of e (told_of reply) ∷ []))
  unfolding journal clock_of next_number has_user user_count held_auths has_system_right has_table_right table_count settings_of
  reads =
      let b : Base = base_of old in
      let j : List Change = changes_told (now_at old e) e.user e.act (told_of reply) in
      let same : changes_by (now_at old e) (IsEvent e) (told_of reply) ++ [] ≡ j = append-nil _ ∙ changes_alike (now_at old e) e (told_of reply) in
      record {
        clock = sym (clock_moved e (told_of reply) old.clock);
        next = acts.becomes.next ∙ sym (ap (next_number b) same);
        users = acts.becomes.users ∙ sym (ap (user_count b) same);
        tables = acts.becomes.tables ∙ sym (ap (table_count b) same);
        known = λ n. acts.becomes.known n ∙ sym (ap (λ k. has_user b k n) same);
        auths = λ n. acts.becomes.auths n ∙ sym (ap (λ k. held_auths b k n) same);
        system = λ n p. acts.becomes.system n p ∙ sym (ap (λ k. has_system_right b k n p) same);
        rights = λ n p t. acts.becomes.rights n p t ∙ sym (ap (λ k. has_table_right b k n p t) same);
        settings = λ t. acts.becomes.settings t ∙ sym (ap (λ k. settings_of b k t) same);
      }

  leaves : LeavesExactly old given e (told_of reply) (job_of reply) after
  leaves = record { exact = laid; reads = reads }

  right : GoesRight (base_of old) (entry_of e (told_of reply)) (base_of after)
  right = steps_are_right old after given (job_of reply) e (told_of reply) core.store named leaves

  -- it was exact
  pub exact : StepsExactly old given e (told_of reply) (job_of reply) after
  exact = record { right = right; exact = laid }

  -- it is a core still
  pub stays : IsCore after
  unfolding settings_of
  stays = record { store = stores_stay old after given (job_of reply) e (told_of reply) core.store named leaves; knows = acts.knows; limits = limits_stay old after given (job_of reply) e (told_of reply) core.store named bare core.limits leaves right }

  from : (w : World) (h : List Entry) → Refines (world_of (base_of old)) (world_after w h) → GoesOnFrom w h (base_of old) (entry_of e (told_of reply)) (base_of after)
  from w h s = goes_on w h (base_of old) (entry_of e (told_of reply)) (base_of after) s right

  pub steps : Steps (base_of old) e reply (base_of after)
  steps = record {
    right = right;
    legal = λ w h s l. (l, (from w h s).answers [] (room_alone w e named));
    answers = λ w h s own room. (from w h s).answers own room;
    refines = λ w h s. (from w h s).refines;
    hands = λ w h s. subst (HandsOut reply) ((from w h s).list_before e.act) acts.hands;
    memory = (alone (world_of (base_of old)) (entry_of e (told_of reply) ∷ []) right.legal).1;
    unchanged = λ is w h s. no_entry (world_of (base_of after)) w h e (told_of reply) is ((from w h s).refines);
  }

-- ---- the clock is set, or stays
-- what the step owes: a core still, and both sides of the step
pub record StepsWell (old : CoreContents) (given : Option TabletMerge) (e : Event) (reply : Reply OpenSession TabletMerge) (new : CoreContents) : Type 0 where
  pub core : IsCore new
  pub steps : Steps (base_of old) e reply (base_of new)
  pub exact : StepsExactly old given e (told_of reply) (job_of reply) new

-- the act, at a clock that is told so
abbrev pub ActsAt : CoreContents → Option TabletMerge → Event → ℤ → Reply OpenSession TabletMerge → CoreContents → Type 0
ActsAt old given e now reply new = Acts (event_answer (base_of old) [] now e.user e.act) old now given e.user e.act reply new

-- where the clock is this behind the act
pub well : (old new : CoreContents) (given : Option TabletMerge) (e : Event) (reply : Reply OpenSession TabletMerge) (now t clock : ℤ) → IsCore old → WritesBare e.act → NamesNoSlot e.act → now ≡ int_max old.clock e.moment → t ≡ now → ActsAt old given e t reply new → clock ≡ cond (moves_clock (told_of reply)) t new.clock
    → StepsWell old given e reply (record new { clock = clock })
well old new given e reply now t clock core bare named is trip acts set_to =
    let h : Acts (plain_answer old e) old (now_at old e) given e.user e.act reply new = subst (λ c. ActsAt old given e c reply new) (trip ∙ is) acts in
    let done : StepsWell old given e reply (set e (told_of reply) old new) = record { core = stays old new given e reply core h bare named; steps = steps old new given e reply core h bare named; exact = exact old new given e reply core h bare named } in
    subst (λ (c : ℤ). StepsWell old given e reply (record new { clock = c })) (sym (set_to ∙ (λ i. cond (moves_clock (told_of reply)) ((trip ∙ is) i) (acts.becomes.clock i)))) done

-- an event that names no slot was an exact step
pub steps_alone : (old new : CoreContents) (given : Option TabletMerge) (e : Event) (reply : Reply OpenSession TabletMerge) → NamesNoSlot e.act → StepsWell old given e reply new → StepsWith old given e reply new
steps_alone old new given e reply named well = inl (named, well.exact)

-- ---- an Install by a slot, of which a core knows none
-- what the user asks
abbrev by_slot : List ℕ → ℤ → List ℕ → ℕ → Event
by_slot user moment t slot = record { user = user; moment = moment; act = Install t (InSlot slot) }

abbrev no_job : ℕ → Told
no_job slot = Refused (refusal.NoJob slot)

no_job_there : (w : World) (h : List Entry) (user : List ℕ) (moment : ℤ) (t : List ℕ) (slot : ℕ) → IsAnswer w h [] (IsEvent (by_slot user moment t slot)) (no_job slot)
unfolding answer jobs_of job_in
no_job_there w h user moment t slot = refl

-- a core refines itself
pub itself : (h : CoreContents) → IsCore h → Refines (world_of (base_of h)) (world_after (world_of (base_of h)) [])
unfolding journal clock_of
itself h core = sound_refines_itself (world_of (base_of h)) (stores_are_sound h core.store)

slot_steps : (old : CoreContents) (user : List ℕ) (moment : ℤ) (t : List ℕ) (slot : ℕ) → IsCore old → Steps (base_of old) (by_slot user moment t slot) (Refused (refusal.NoJob slot)) (base_of old)
slot_steps old user moment t slot core = record {
  right = record { legal = (tt, inl (no_job_there (world_of (base_of old)) [] user moment t slot)); refines = still (world_of (base_of old)) [] (itself old core) };
  legal = λ w h s l. (l, inl (no_job_there w h user moment t slot));
  answers = λ w h s own room. absurd room.1;
  refines = λ w h s. still w h s;
  hands = λ w h s. tt;
  memory = λ is. absurd (cc);
  unchanged = λ is w h s. s;
}
  where
    still : (w : World) (h : List Entry) → Refines (world_of (base_of old)) (world_after w h) → Refines (world_of (base_of old)) (world_after w (entry_of (by_slot user moment t slot) (no_job slot) ∷ h))
    still w h s = subst (λ (v : World). Refines (world_of (base_of old)) v) (sym (unmoved w h (entry_of (by_slot user moment t slot) (no_job slot)) tt)) s

-- both sides of that
pub record StepsAside (old : CoreContents) (given : Option TabletMerge) (e : Event) (reply : Reply OpenSession TabletMerge) : Type 0 where
  pub steps : Steps (base_of old) e reply (base_of old)
  pub exact : StepsWith old given e reply old

pub aside : (old : CoreContents) (given : Option TabletMerge) (e : Event) (t : List ℕ) (slot : ℕ) → IsCore old → e.act ≡ Install t (InSlot slot) → StepsAside old given e (Refused (refusal.NoJob slot))
aside old given e t slot core is = record {
  steps = subst (λ (a : Act). Steps (base_of old) (record e { act = a }) (Refused (refusal.NoJob slot)) (base_of old)) (sym is) (slot_steps old e.user e.moment t slot core);
  exact = inr (slot, (t, is), refl, refl);
}
