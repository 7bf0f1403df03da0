-- The slots of jobs, step by step, and what a step means for the histories that they refined.
use Rattle.std.proofs.Common.{ℕ, zero, suc, ◌≡◌, ◌⊎◌, inl, inr, ◌+◌, ◌==◌, ◌<◌, ◌≤◌, Bool, true, false, cond, ◌&&◌, List, [], ◌∷◌, ◌++◌, length, get_or, refl, sym, ap, ◌∙◌, subst, arith, Option, Some, None, length-append}
use Rattle.std.specs.Prelude.{ℤ, slice_get, slice_set, option_to_list}
use Rattle.std.proofs.Math.Dec.{eqb-zero-suc, eqb-suc-zero, eqb-suc-suc}
use Rattle.std.proofs.lemmas.Bool.Decides.{nat_tests}
use Rattle.std.proofs.lemmas.List.{append-nil}
use Rattle.tab_history.specs.declared.event.Act.{Act}
use Rattle.tab_history.specs.declared.event.Act.TheVariants.{Open, Begin, Install}
use Rattle.tab_history.specs.declared.event.Event.{Event}
use Rattle.tab_history.specs.declared.event.Given.TheVariants.{InSlot, ByHand}
use Rattle.tab_history.specs.declared.event.Step.{Step}
use Rattle.tab_history.specs.declared.event.Step.TheVariants.{Event as IsEvent, Merge}
use Rattle.tab_history.specs.declared.reply.Refusal.TheVariants.{NoMemory, NoJob}
use Rattle.tab_history.specs.declared.reply.Reply.{Reply}
use Rattle.tab_history.specs.declared.reply.Reply.TheVariants.{Done, Refused, Opened, Batch, Ranges, Rights, Counted, Rows, Begun, Nothing}
use Rattle.tab_history.specs.Bases.{Base}
use Rattle.tab_history.specs.Jobs as job
use Rattle.tab_history.specs.Jobs.{JobMove, Beginning, Merging, Installing, begun, job_in, used_up, is_waiting, is_merged}
use Rattle.tab_history.specs.Answers.{Told, told_of, told_begun, job_of, answer, is_open, merge_answer, without_merge, empty_slot, slotted, event_answer, IsEventReply, event_job_moves, merge_job_moves}
use Rattle.tab_history.specs.Histories.{Entry, World, world_of, world_after, clock_of, clock_at, journal, moves_of, jobs_of}
use Rattle.tab_history.specs.Legal.{IsAnswer, LacksMemory, takes_memory}
use Rattle.tab_history.specs.Refinement.{Refines}
use Rattle.tab_history.specs.Chains.{IsChain, NamesNoSlot, HasRoom}
use Rattle.tab_history.specs.Runs.{IsNoEvent}
use Rattle.tab_history.proofs.GoesOnLemmas.{slots_are_aside}
use Rattle.tab_history.proofs.Playing.{unmoved}
use Rattle.tab_session.specs.OpenSession.{OpenSession}
use Rattle.tab_store.specs.Parts.{TabletMerge}
use Rattle.tab_store.specs.Stores.{CoreContents, base_of}
use Rattle.tab_store.specs.Stepping.{StepsExactly, LaysExactly, now_at, plain_answer, entry_of, work_of, job_by, handed}
use Rattle.tab_store.specs.Chains.{Running, given_in, act_by_hand, by_hand, number_of, EntryGoes}
use Rattle.tab_store.proofs.Joining.{chain_join}
use Rattle.tab_core.specs.declared.job_slots.JobSlot.{JobSlot}
use Rattle.tab_core.specs.declared.job_slots.JobSlot.TheVariants.{Free, Waiting, Merged}
use Rattle.tab_core.specs.Stepping.{Steps, StepsWith, IsBySlot, installs_at}
use Rattle.tab_core.specs.JobSlots.{seen, slot_in, merge_in, finished_in, freed, JobsAre, HoldMerges, GoesExactly, made, after_made, after_merge, MergesIn, is_begin, kept_job, LacksRoom, FindsNone, UsesUp, KeepsJob, StepsIn}

-- ---- slots as a list
pub slot_appended : (ss : List JobSlot) (s : JobSlot) (k : ℕ) → slot_in (ss ++ s ∷ []) k ≡ cond (length ss == k) s (slot_in ss k)
slot_appended [] s zero = refl
slot_appended [] s (suc k) = ap (λ b. cond b s Free) (sym (eqb-zero-suc k))
slot_appended (x ∷ ss) s zero = ap (λ b. cond b s x) (sym (eqb-suc-zero (length ss)))
slot_appended (x ∷ ss) s (suc k) = slot_appended ss s k ∙ ap (λ b. cond b s (slot_in ss k)) (sym (eqb-suc-suc (length ss) k))

-- a slot that is changed, of those that there are
pub slot_changed : (ss : List JobSlot) (k : ℕ) (s : JobSlot) → k < length ss → (j : ℕ) → slot_in (slice_set ss k s) j ≡ cond (k == j) s (slot_in ss j)
slot_changed [] k s lt j = absurd (omega arith)
slot_changed (x ∷ ss) zero s lt zero = refl
slot_changed (x ∷ ss) zero s lt (suc j) = ap (λ b. cond b s (slot_in ss j)) (sym (eqb-zero-suc j))
slot_changed (x ∷ ss) (suc k) s lt zero = ap (λ b. cond b s x) (sym (eqb-suc-zero k))
slot_changed (x ∷ ss) (suc k) s lt (suc j) = slot_changed ss k s (omega arith) j ∙ ap (λ b. cond b s (slot_in ss j)) (sym (eqb-suc-suc k j))

pub length_changed : (ss : List JobSlot) (k : ℕ) (s : JobSlot) → length (slice_set ss k s) ≡ length ss
length_changed [] k s = refl
length_changed (x ∷ ss) zero s = refl
length_changed (x ∷ ss) (suc k) s = ap suc (length_changed ss k s)

-- one that stays as it is
pub same_slot : (ss : List JobSlot) (k : ℕ) → slice_set ss k (slot_in ss k) ≡ ss
same_slot [] k = refl
same_slot (x ∷ ss) zero = refl
same_slot (x ∷ ss) (suc k) = ap (λ l. x ∷ l) (same_slot ss k)

pub slot_past : (ss : List JobSlot) (k : ℕ) → length ss ≤ k → slot_in ss k ≡ Free
slot_past [] k le = refl
slot_past (x ∷ ss) zero le = absurd (omega arith)
slot_past (x ∷ ss) (suc k) le = slot_past ss k (omega arith)

-- a slot that holds something is there
pub slot_there : (ss : List JobSlot) (k : ℕ) (m : TabletMerge) → merge_in (slot_in ss k) ≡ Some m → k < length ss
slot_there [] k m e = absurd (cc)
slot_there (x ∷ ss) zero m e = omega arith
slot_there (x ∷ ss) (suc k) m e = let lt = slot_there ss k m e in omega (arith, lt)

pub set_twice : (ss : List JobSlot) (k : ℕ) (a b : JobSlot) → slice_set (slice_set ss k a) k b ≡ slice_set ss k b
set_twice [] k a b = refl
set_twice (x ∷ ss) zero a b = refl
set_twice (x ∷ ss) (suc k) a b = ap (λ l. x ∷ l) (set_twice ss k a b)

-- ---- what moves do
-- before any step
pub jobs_none : JobsAre [] []
unfolding begun job_in
jobs_none = record { count = refl; kept = λ k. refl }

seen_either : (b : Bool) (s t : JobSlot) → seen (cond b s t) ≡ cond b (seen s) (seen t)
seen_either true s t = refl
seen_either false s t = refl

-- a job was begun
pub jobs_begun : (moves : List JobMove) (ss : List JobSlot) (m : TabletMerge) → JobsAre moves ss → JobsAre (Beginning ∷ moves) (ss ++ Waiting m ∷ [])
unfolding begun job_in
jobs_begun moves ss m h =
    let c = h.count in
    record {
      count = omega (arith, length-append ss (Waiting m ∷ []), c);
      kept = λ k. ap (λ n. cond (n == k) job.Waiting (job_in moves k)) c ∙ ap (λ s. cond (length ss == k) job.Waiting s) (h.kept k) ∙ sym (ap seen (slot_appended ss (Waiting m) k) ∙ seen_either (length ss == k) (Waiting m) (slot_in ss k));
    }

-- a merge was made
pub jobs_merged : (moves : List JobMove) (ss : List JobSlot) (k : ℕ) (m : TabletMerge) → k < length ss → JobsAre moves ss → JobsAre (Merging k ∷ moves) (slice_set ss k (Merged m))
unfolding begun job_in
jobs_merged moves ss k m lt h = record {
  count = h.count ∙ sym (length_changed ss k (Merged m));
  kept = λ j. ap (λ s. cond (k == j) job.Merged s) (h.kept j) ∙ sym (ap seen (slot_changed ss k (Merged m) lt j) ∙ seen_either (k == j) (Merged m) (slot_in ss j));
}

-- a merge was used up
pub jobs_used : (moves : List JobMove) (ss : List JobSlot) (k : ℕ) (m : TabletMerge) → slot_in ss k ≡ Merged m → JobsAre moves ss → JobsAre (Installing k ∷ moves) (slice_set ss k Free)
unfolding begun job_in
jobs_used moves ss k m is h = record {
  count = h.count ∙ sym (length_changed ss k Free);
  kept = λ j. go j (k == j) refl ∙ sym (ap seen (slot_changed ss k Free (slot_there ss k m (ap merge_in is)) j) ∙ seen_either (k == j) Free (slot_in ss j));
}
  where
    go : (j : ℕ) (b : Bool) → (k == j) ≡ b → cond b (used_up (job_in moves j)) (job_in moves j) ≡ cond b job.Free (seen (slot_in ss j))
    go j false e = h.kept j
    go j true e = let same : k ≡ j = grind (arith, nat_tests) in ap used_up (h.kept j ∙ ap (λ n. seen (slot_in ss n)) (sym same) ∙ ap seen is)

-- there was none to use up
not_used : (s : JobSlot) → finished_in s ≡ None → used_up (seen s) ≡ seen s
not_used Free e = refl
not_used (Waiting m) e = refl
not_used (Merged m) e = absurd (cc)

pub jobs_named : (moves : List JobMove) (ss : List JobSlot) (k : ℕ) → finished_in (slot_in ss k) ≡ None → JobsAre moves ss → JobsAre (Installing k ∷ moves) ss
unfolding begun job_in
jobs_named moves ss k none h = record { count = h.count; kept = λ j. go j (k == j) refl }
  where
    go : (j : ℕ) (b : Bool) → (k == j) ≡ b → cond b (used_up (job_in moves j)) (job_in moves j) ≡ seen (slot_in ss j)
    go j false e = h.kept j
    go j true e = let same : k ≡ j = grind (arith, nat_tests) in ap used_up (h.kept j) ∙ not_used (slot_in ss j) (ap (λ n. finished_in (slot_in ss n)) (sym same) ∙ none)

-- ---- which merges the slots hold
pub hold_none : HoldMerges [] []
hold_none = record { count = refl; holds = λ k m e. absurd (cc) }

get_appended : (ms : List TabletMerge) (m : TabletMerge) (k : ℕ) → slice_get (ms ++ m ∷ []) k ≡ cond (length ms == k) (Some m) (slice_get ms k)
get_appended [] m zero = refl
get_appended [] m (suc k) = ap (λ b. cond b (Some m) None) (sym (eqb-zero-suc k))
get_appended (x ∷ ms) m zero = ap (λ b. cond b (Some m) (Some x)) (sym (eqb-suc-zero (length ms)))
get_appended (x ∷ ms) m (suc k) = get_appended ms m k ∙ ap (λ b. cond b (Some m) (slice_get ms k)) (sym (eqb-suc-suc (length ms) k))

-- one more
hold_begun : (ss : List JobSlot) (ms : List TabletMerge) (m : TabletMerge) → HoldMerges ss ms → HoldMerges (ss ++ Waiting m ∷ []) (ms ++ m ∷ [])
hold_begun ss ms m h =
    let c = h.count in
    record {
      count = omega (arith, length-append ss (Waiting m ∷ []), length-append ms (m ∷ []), c);
      holds = λ k x e. get_appended ms m k ∙ ap (λ n. cond (n == k) (Some m) (slice_get ms k)) c ∙ go k x (length ss == k) (ap merge_in (sym (slot_appended ss (Waiting m) k)) ∙ e);
    }
  where
    go : (k : ℕ) (x : TabletMerge) (b : Bool) → merge_in (cond b (Waiting m) (slot_in ss k)) ≡ Some x → cond b (Some m) (slice_get ms k) ≡ Some x
    go k x true e = e
    go k x false e = h.holds k x e

hold_job : (ss : List JobSlot) (ms : List TabletMerge) (o : Option TabletMerge) → HoldMerges ss ms → HoldMerges (kept_job ss o) (ms ++ option_to_list o)
hold_job ss ms None h = subst (λ l. HoldMerges ss l) (sym (append-nil ms)) h
hold_job ss ms (Some m) h = hold_begun ss ms m h

-- a slot that holds no merge but its own
hold_set : (ss : List JobSlot) (k : ℕ) (s : JobSlot) → ((x : TabletMerge) → merge_in s ≡ Some x → merge_in (slot_in ss k) ≡ Some x) → (j : ℕ) (x : TabletMerge) → merge_in (slot_in (slice_set ss k s) j) ≡ Some x → merge_in (slot_in ss j) ≡ Some x
hold_set [] k s f j x e = e
hold_set (y ∷ ss) zero s f zero x e = f x e
hold_set (y ∷ ss) zero s f (suc j) x e = e
hold_set (y ∷ ss) (suc k) s f zero x e = e
hold_set (y ∷ ss) (suc k) s f (suc j) x e = hold_set ss k s f j x e

hold_changed : (ss : List JobSlot) (ms : List TabletMerge) (k : ℕ) (s : JobSlot) → ((x : TabletMerge) → merge_in s ≡ Some x → merge_in (slot_in ss k) ≡ Some x) → HoldMerges ss ms → HoldMerges (slice_set ss k s) ms
hold_changed ss ms k s f h = record { count = h.count ∙ sym (length_changed ss k s); holds = λ j x e. h.holds j x (hold_set ss k s f j x e) }

hold_made : (ss : List JobSlot) (ms : List TabletMerge) (k : ℕ) (r : Told) → HoldMerges ss ms → HoldMerges (after_merge ss k r) ms
hold_made ss ms k r h = hold_changed ss ms k (after_made (slot_in ss k) r) (λ x e. sym (go (slot_in ss k) r) ∙ e) h
  where
    go : (s : JobSlot) (r : Told) → merge_in (after_made s r) ≡ merge_in s
    go Free Done = refl
    go (Waiting m) Done = refl
    go (Merged m) Done = refl
    go s _ = refl

hold_freed : (ss : List JobSlot) (ms : List TabletMerge) (k : ℕ) → HoldMerges ss ms → HoldMerges (slice_set ss k Free) ms
hold_freed ss ms k h = hold_changed ss ms k Free (λ x e. absurd (cc)) h

-- ---- exact steps
-- what is no event
goes_nowhere : (core : CoreContents) (ss ss' : List JobSlot) (step : Step) (r : Told) → IsNoEvent step r → ((ms : List TabletMerge) → HoldMerges ss ms → HoldMerges ss' ms) → GoesExactly core ss (record { step = step; reply = r } ∷ []) core ss'
goes_nowhere core ss ss' step r none keeps ms h = (ms, keeps ms h, (record { held = core; begun = ms }, refl, inr (none, refl)))

-- an act that names no slot comes with no merge, and as it is
given_none : (ms : List TabletMerge) (act : Act) → NamesNoSlot act → given_in ms act ≡ None
given_none ms (Install t (InSlot slot)) alone = absurd alone
given_none ms (Install t (ByHand n)) alone = refl
given_none ms _ alone = refl

same_act : (ms : List TabletMerge) (act : Act) → NamesNoSlot act → act_by_hand ms act ≡ act
same_act ms (Install t (InSlot slot)) alone = absurd alone
same_act ms (Install t (ByHand n)) alone = refl
same_act ms _ alone = refl

goes_alone : (old new : CoreContents) (ss : List JobSlot) (event : Event) (r : Told) (o : Option TabletMerge) → NamesNoSlot event.act → StepsExactly old None event r o new → GoesExactly old ss (entry_of event r ∷ []) new (kept_job ss o)
goes_alone old new ss event r o alone exact ms h = (
  ms ++ option_to_list o,
  hold_job ss ms o h,
  (record { held = old; begun = ms }, refl, inl (o, subst (λ (g : Option TabletMerge). StepsExactly old g (by_hand ms event) r o new) (sym (given_none ms event.act alone)) (subst (λ (a : Act). StepsExactly old None (record event { act = a }) r o new) (sym (same_act ms event.act alone)) exact), refl)),
)

-- an Install by a slot, with the merge of its job
goes_by_slot : (old new : CoreContents) (ss : List JobSlot) (user : List ℕ) (moment : ℤ) (t : List ℕ) (slot : ℕ) (m : TabletMerge) (r : Told) → merge_in (slot_in ss slot) ≡ Some m → StepsExactly old (Some m) (installs_at user moment t m) r None new
    → GoesExactly old ss (entry_of (record { user = user; moment = moment; act = Install t (InSlot slot) }) r ∷ []) new (slice_set ss slot Free)
goes_by_slot old new ss user moment t slot m r is exact ms h =
    let had : slice_get ms slot ≡ Some m = h.holds slot m is in (
      ms,
      hold_freed ss ms slot h,
      (record { held = old; begun = ms }, refl, inl (None, subst (λ (g : Option TabletMerge). StepsExactly old g (record { user = user; moment = moment; act = Install t (ByHand (number_of g)) }) r None new) (sym had) exact, sym (append-nil ms))),
    )

-- ---- the job that an event hands out
handed_none : (r : Told) → handed r None ≡ None
handed_none (Begun u) = refl
handed_none _ = refl

-- only a Begin hands one out
begins_none : (old : CoreContents) (now : ℤ) (given : Option TabletMerge) (act : Act) → is_begin act ≡ false → job_by old now (work_of given act) ≡ None
begins_none old now given (Begin t row kind) e = absurd (cc)
begins_none old now given _ e = refl

pub no_job : (old new : CoreContents) (given : Option TabletMerge) (event : Event) (r : Told) (o : Option TabletMerge) → is_begin event.act ≡ false → StepsExactly old given event r o new → o ≡ None
no_job old new given event r o e exact = exact.exact.hands ∙ ap (handed r) (begins_none old (now_at old event) given event.act e) ∙ handed_none r

-- ---- what jobs an event leaves
kept_jobs : (act : Act) (r : Reply OpenSession TabletMerge) (moves : List JobMove) (ss : List JobSlot) → NamesNoSlot act → (is_begin act ≡ false → job_of r ≡ None) → JobsAre moves ss → JobsAre (event_job_moves act (told_of r) ++ moves) (kept_job ss (job_of r))
kept_jobs (Begin t row kind) (Begun m) moves ss alone none h = jobs_begun moves ss m h
kept_jobs (Begin t row kind) Done moves ss alone none h = h
kept_jobs (Begin t row kind) (Refused x) moves ss alone none h = h
kept_jobs (Begin t row kind) (Opened s) moves ss alone none h = h
kept_jobs (Begin t row kind) (Batch cells) moves ss alone none h = h
kept_jobs (Begin t row kind) (Ranges ranges) moves ss alone none h = h
kept_jobs (Begin t row kind) (Rights rights) moves ss alone none h = h
kept_jobs (Begin t row kind) (Counted counts) moves ss alone none h = h
kept_jobs (Begin t row kind) (Rows rows) moves ss alone none h = h
kept_jobs (Begin t row kind) Nothing moves ss alone none h = h
kept_jobs (Install t (InSlot slot)) r moves ss alone none h = absurd alone
kept_jobs (Install t (ByHand n)) r moves ss alone none h = subst (λ (o : Option TabletMerge). JobsAre moves (kept_job ss o)) (sym (none refl)) h
kept_jobs _ r moves ss alone none h = subst (λ (o : Option TabletMerge). JobsAre moves (kept_job ss o)) (sym (none refl)) h

-- ---- histories
-- what a step of a run means after the entries h of w
pub record Lengthened (w : World) (h : List Entry) (step : Step) (reply : Told) (new : Base) (ss : List JobSlot) : Type 0 where
  -- the reply is an answer there, or memory lacked
  pub answers : IsAnswer w h h step reply ⊎ LacksMemory step reply
  -- the core refines the history with this entry
  pub refines : Refines (world_of new) (world_after w (record { step = step; reply = reply } ∷ h))
  -- and the slots are what it made of them
  pub jobs : JobsAre (jobs_of (record { step = step; reply = reply } ∷ h)) ss

-- all stays where there was no event
stay : (w : World) (h : List Entry) (core : Base) (step : Step) (reply : Told) → IsNoEvent step reply → Refines (world_of core) (world_after w h) → Refines (world_of core) (world_after w (record { step = step; reply = reply } ∷ h))
stay w h core step reply none refines = subst (λ (v : World). Refines (world_of core) v) (sym (unmoved w h (record { step = step; reply = reply }) none)) refines

-- ---- a Begin without room for its job
lacks_moves : (act : Act) (moves : List JobMove) → is_begin act ≡ true → event_job_moves act (Refused NoMemory) ++ moves ≡ moves
lacks_moves (Begin t row kind) moves e = refl
lacks_moves _ moves e = absurd (cc)

begin_takes : (act : Act) → is_begin act ≡ true → takes_memory act ≡ true
begin_takes (Begin t row kind) e = refl
begin_takes _ e = absurd (cc)

lacks_longer : (old : CoreContents) (ss : List JobSlot) (event : Event) → is_begin event.act ≡ true → (w : World) (h : List Entry) → Refines (world_of (base_of old)) (world_after w h) → JobsAre (jobs_of h) ss → Lengthened w h (IsEvent event) (Refused NoMemory) (base_of old) ss
unfolding jobs_of
lacks_longer old ss event begins w h refines are = record {
  answers = inr (begin_takes event.act begins, refl);
  refines = stay w h (base_of old) (IsEvent event) (Refused NoMemory) tt refines;
  jobs = subst (λ j. JobsAre j ss) (sym (lacks_moves event.act (jobs_of h) begins)) are;
}

-- ---- an Install by a slot
-- what the user asks
abbrev by_slot : List ℕ → ℤ → List ℕ → ℕ → Event
by_slot user moment t slot = record { user = user; moment = moment; act = Install t (InSlot slot) }

unmerged : (s : JobSlot) → finished_in s ≡ None → is_merged (seen s) ≡ false
unmerged Free e = refl
unmerged (Waiting m) e = refl
unmerged (Merged m) e = absurd (cc)

none_answer : (w : World) (h : List Entry) (user : List ℕ) (moment : ℤ) (t : List ℕ) (slot : ℕ) → is_merged (job_in (jobs_of h) slot) ≡ false → IsAnswer w h h (IsEvent (by_slot user moment t slot)) (Refused (NoJob slot))
unfolding answer
none_answer w h user moment t slot none =
    subst (λ (x : Told). IsEventReply (Install t (InSlot slot)) x (Refused (NoJob slot)))
    (sym (ap (λ b. slotted (cond b None (Some slot)) (event_answer w.base (journal w h) (clock_at (clock_of w h) (IsEvent (by_slot user moment t slot))) user (Install t (InSlot slot)))) none)) refl

none_longer : (old : CoreContents) (ss : List JobSlot) (user : List ℕ) (moment : ℤ) (t : List ℕ) (slot : ℕ) → finished_in (slot_in ss slot) ≡ None → (w : World) (h : List Entry) → Refines (world_of (base_of old)) (world_after w h) → JobsAre (jobs_of h) ss
    → Lengthened w h (IsEvent (by_slot user moment t slot)) (Refused (NoJob slot)) (base_of old) ss
unfolding jobs_of
none_longer old ss user moment t slot none w h refines are = record {
  answers = inl (none_answer w h user moment t slot (ap is_merged (are.kept slot) ∙ unmerged (slot_in ss slot) none));
  refines = stay w h (base_of old) (IsEvent (by_slot user moment t slot)) (Refused (NoJob slot)) tt refines;
  jobs = jobs_named (jobs_of h) ss slot none are;
}

finished : (s : JobSlot) (m : TabletMerge) → finished_in s ≡ Some m → s ≡ Merged m
finished Free m e = absurd (cc)
finished (Waiting x) m e = absurd (cc)
finished (Merged x) m e = let same : x ≡ m = cc in ap Merged same

used_longer : (old new : CoreContents) (ss : List JobSlot) (user : List ℕ) (moment : ℤ) (t : List ℕ) (slot : ℕ) (m : TabletMerge) (r : Reply OpenSession TabletMerge) → slot_in ss slot ≡ Merged m → Steps (base_of old) (installs_at user moment t m) r (base_of new)
    → (w : World) (h : List Entry) → Refines (world_of (base_of old)) (world_after w h) → JobsAre (jobs_of h) ss → Lengthened w h (IsEvent (by_slot user moment t slot)) (told_of r) (base_of new) (slice_set ss slot Free)
unfolding jobs_of
used_longer old new ss user moment t slot m r is steps w h refines are =
    let merged : is_merged (job_in (jobs_of h) slot) ≡ true = ap is_merged (are.kept slot ∙ ap seen is) in
    let aside = slots_are_aside w h h user moment t slot m.merge.number (told_of r) merged in
    record {
      answers = go aside.0.1 (steps.answers w h refines [] (λ opens. absurd (cc), tt));
      refines = subst (λ (v : World). Refines (world_of (base_of new)) v) (sym aside.1) (steps.refines w h refines);
      jobs = jobs_used (jobs_of h) ss slot m is are;
    }
  where
    go : (IsAnswer w h [] (IsEvent (installs_at user moment t m)) (told_of r) → IsAnswer w h h (IsEvent (by_slot user moment t slot)) (told_of r)) → IsAnswer w h [] (IsEvent (installs_at user moment t m)) (told_of r) ⊎ LacksMemory (IsEvent (installs_at user moment t m)) (told_of r)
        → IsAnswer w h h (IsEvent (by_slot user moment t slot)) (told_of r) ⊎ LacksMemory (IsEvent (by_slot user moment t slot)) (told_of r)
    go f (inl a) = inl (f a)
    go f (inr lacks) = inr lacks

-- ---- any other event
kept_longer : (old new : CoreContents) (ss : List JobSlot) (event : Event) (r : Reply OpenSession TabletMerge) → is_open event.act ≡ false → NamesNoSlot event.act → Steps (base_of old) event r (base_of new) → StepsExactly old None event (told_of r) (job_of r) new
    → (w : World) (h : List Entry) → Refines (world_of (base_of old)) (world_after w h) → JobsAre (jobs_of h) ss → Lengthened w h (IsEvent event) (told_of r) (base_of new) (kept_job ss (job_of r))
unfolding jobs_of
kept_longer old new ss event r shut alone steps exact w h refines are = record {
  answers = steps.answers w h refines h (λ opens. absurd (cc (sym shut ∙ opens)), alone);
  refines = steps.refines w h refines;
  jobs = kept_jobs event.act r (jobs_of h) ss alone (λ e. no_job old new None event (told_of r) (job_of r) e exact) are;
}

-- ---- an event of a run
-- the same of what equals it
abbrev Three : Type 0
Three = Told × CoreContents × List JobSlot

longer_as : (w : World) (h : List Entry) (step : Step) (r r' : Told) (c c' : CoreContents) (ss ss' : List JobSlot) → r' ≡ r → c' ≡ c → ss' ≡ ss → Lengthened w h step r (base_of c) ss → Lengthened w h step r' (base_of c') ss'
longer_as w h step r r' c c' ss ss' is core same l =
    let alike : ◌≡◌ {A = Three} (r, c, ss) (r', c', ss') = λ i. (sym is i, sym core i, sym same i) in
    subst (λ (x : Three). Lengthened w h step x.0 (base_of x.1) x.2) alike l

exact_as : (first : CoreContents) (before : List JobSlot) (step : Step) (r r' : Told) (c c' : CoreContents) (ss ss' : List JobSlot) → r' ≡ r → c' ≡ c → ss' ≡ ss → GoesExactly first before (record { step = step; reply = r } ∷ []) c ss → GoesExactly first before (record { step = step; reply = r' } ∷ []) c' ss'
exact_as first before step r r' c c' ss ss' is core same g =
    let alike : ◌≡◌ {A = Three} (r, c, ss) (r', c', ss') = λ i. (sym is i, sym core i, sym same i) in
    subst (λ (x : Three). GoesExactly first before (record { step = step; reply = x.0 } ∷ []) x.1 x.2) alike g

module _ (old new : CoreContents) (ss ss' : List JobSlot) (event : Event) (reply : Told) where
  -- it lengthens each history that core and slots refined
  pub steps_lengthen : is_open event.act ≡ false → StepsIn old ss event reply new ss' → (w : World) (h : List Entry) → Refines (world_of (base_of old)) (world_after w h) → JobsAre (jobs_of h) ss → Lengthened w h (IsEvent event) reply (base_of new) ss'
  steps_lengthen shut (inl x) w h refines are = longer_as w h (IsEvent event) _ reply old new ss ss' x.told x.core x.same (lacks_longer old ss event x.begins w h refines are)
  steps_lengthen shut (inr (inl x)) w h refines are =
      longer_as w h (IsEvent event) _ reply old new ss ss' x.told x.core x.same
      (subst (λ (a : Act). Lengthened w h (IsEvent (record event { act = a })) (Refused (NoJob x.slot)) (base_of old) ss) (sym x.names.1) (none_longer old ss event.user event.moment x.names.0 x.slot x.holds w h refines are))
  steps_lengthen shut (inr (inr (inl x))) w h refines are =
      longer_as w h (IsEvent event) _ reply new new _ ss' x.told refl x.used
      (subst (λ (a : Act). Lengthened w h (IsEvent (record event { act = a })) (told_of x.answer) (base_of new) (slice_set ss x.slot Free)) (sym x.names) (used_longer old new ss event.user event.moment x.table x.slot x.merge x.answer (finished (slot_in ss x.slot) x.merge x.holds) x.steps w h refines are))
  steps_lengthen shut (inr (inr (inr x))) w h refines are = longer_as w h (IsEvent event) _ reply new new _ ss' x.told refl x.kept (kept_longer old new ss event x.answer shut x.alone x.steps x.exact w h refines are)

  -- and is exact
  pub steps_exact : StepsIn old ss event reply new ss' → GoesExactly old ss (record { step = IsEvent event; reply = reply } ∷ []) new ss'
  steps_exact (inl x) = exact_as old ss (IsEvent event) _ reply old new ss ss' x.told x.core x.same (goes_nowhere old ss ss (IsEvent event) (Refused NoMemory) tt (λ ms k. k))
  steps_exact (inr (inl x)) = exact_as old ss (IsEvent event) _ reply old new ss ss' x.told x.core x.same (goes_nowhere old ss ss (IsEvent event) (Refused (NoJob x.slot)) tt (λ ms k. k))
  steps_exact (inr (inr (inl x))) =
      let none : job_of x.answer ≡ None = no_job old new (Some x.merge) (installs_at event.user event.moment x.table x.merge) (told_of x.answer) (job_of x.answer) refl x.exact in
      exact_as old ss (IsEvent event) _ reply new new _ ss' x.told refl x.used
      (subst (λ (a : Act). GoesExactly old ss (record { step = IsEvent (record event { act = a }); reply = told_of x.answer } ∷ []) new (slice_set ss x.slot Free)) (sym x.names)
      (goes_by_slot old new ss event.user event.moment x.table x.slot x.merge (told_of x.answer) (ap merge_in (finished (slot_in ss x.slot) x.merge x.holds))
      (subst (λ (o : Option TabletMerge). StepsExactly old (Some x.merge) (installs_at event.user event.moment x.table x.merge) (told_of x.answer) o new) none x.exact)))
  steps_exact (inr (inr (inr x))) = exact_as old ss (IsEvent event) _ reply new new _ ss' x.told refl x.kept (goes_alone old new ss event (told_of x.answer) (job_of x.answer) x.alone x.exact)

-- an event that names no slot was an exact step
pub alone_exactly : (old new : CoreContents) (given : Option TabletMerge) (event : Event) (r : Reply OpenSession TabletMerge) → NamesNoSlot event.act → StepsWith old given event r new → StepsExactly old given event (told_of r) (job_of r) new
alone_exactly old new given event r alone (inl x) = x.1
alone_exactly old new given event r alone (inr x) = absurd (subst NamesNoSlot x.1.1 alone)

-- the core answered an event that begins no job
pub keeps_none : (old new : CoreContents) (ss : List JobSlot) (event : Event) (r : Reply OpenSession TabletMerge) (reply : Told) → is_begin event.act ≡ false → NamesNoSlot event.act → Steps (base_of old) event r (base_of new) → StepsWith old None event r new → reply ≡ told_of r → StepsIn old ss event reply new ss
keeps_none old new ss event r reply none alone steps exact told =
    let did : StepsExactly old None event (told_of r) (job_of r) new = alone_exactly old new None event r alone exact in
    inr (inr (inr (record { alone = alone; answer = r; steps = steps; exact = did; told = told; kept = sym (ap (kept_job ss) (no_job old new None event (told_of r) (job_of r) none did)) })))

-- ---- a Merge
merges_answer : (w : World) (h : List Entry) (ss : List JobSlot) (slot : ℕ) (reply : Told) (ss' : List JobSlot) → MergesIn ss slot reply ss' → JobsAre (jobs_of h) ss → IsAnswer w h h (Merge slot) reply ⊎ LacksMemory (Merge slot) reply
unfolding answer
merges_answer w h ss slot reply ss' from are = go from.answers
  where
    go : (reply ≡ merge_answer (is_waiting (seen (slot_in ss slot))) slot) ⊎ ((is_waiting (seen (slot_in ss slot)) ≡ true) × (reply ≡ Refused NoMemory)) → IsAnswer w h h (Merge slot) reply ⊎ LacksMemory (Merge slot) reply
    go (inl is) = inl (is ∙ ap (λ s. merge_answer (is_waiting s) slot) (sym (are.kept slot)))
    go (inr x) = inr (refl, x.1)

-- what was merged had waited
waited : (ss : List JobSlot) (slot : ℕ) (s : JobSlot) → slot_in ss slot ≡ s → (Done ≡ merge_answer (is_waiting (seen s)) slot) ⊎ ((is_waiting (seen s) ≡ true) × (◌≡◌ {A = Told} Done (Refused NoMemory))) → (m : TabletMerge) × (slot_in ss slot ≡ Waiting m)
waited ss slot Free is (inl e) = absurd (cc)
waited ss slot Free is (inr x) = absurd (cc (x.1))
waited ss slot (Waiting m) is e = (m, is)
waited ss slot (Merged m) is (inl e) = absurd (cc)
waited ss slot (Merged m) is (inr x) = absurd (cc (x.1))

merged_jobs : (moves : List JobMove) (ss : List JobSlot) (slot : ℕ) (reply : Told) → MergesIn ss slot reply (after_merge ss slot reply) → JobsAre moves ss → JobsAre (merge_job_moves slot reply ++ moves) (after_merge ss slot reply)
merged_jobs moves ss slot Done from are =
    let was = waited ss slot (slot_in ss slot) refl from.answers in
    subst (λ (s : JobSlot). JobsAre (Merging slot ∷ moves) (slice_set ss slot (made s))) (sym was.1) (jobs_merged moves ss slot was.0 (slot_there ss slot was.0 (ap merge_in was.1)) are)
merged_jobs moves ss slot reply from are = subst (λ l. JobsAre moves l) (sym (same_slot ss slot)) are

-- it lengthens each history that core and slots refined, and leaves the core as it was
pub merge_lengthens : (core : Base) (ss ss' : List JobSlot) (slot : ℕ) (reply : Told) → MergesIn ss slot reply ss' → (w : World) (h : List Entry) → Refines (world_of core) (world_after w h) → JobsAre (jobs_of h) ss → Lengthened w h (Merge slot) reply core ss'
unfolding jobs_of
merge_lengthens core ss ss' slot reply from w h refines are = record {
  answers = merges_answer w h ss slot reply ss' from are;
  refines = stay w h core (Merge slot) reply tt refines;
  jobs = subst (λ l. JobsAre (merge_job_moves slot reply ++ jobs_of h) l) (sym from.after) (merged_jobs (jobs_of h) ss slot reply (record { answers = from.answers; after = refl }) are);
}

pub merge_exact : (core : CoreContents) (ss ss' : List JobSlot) (slot : ℕ) (reply : Told) → MergesIn ss slot reply ss' → GoesExactly core ss (record { step = Merge slot; reply = reply } ∷ []) core ss'
merge_exact core ss ss' slot reply from = goes_nowhere core ss ss' (Merge slot) reply tt (λ ms h. subst (λ l. HoldMerges l ms) (sym from.after) (hold_made ss ms slot reply h))

-- ---- steps that aren't a job's
-- an Open moves none
pub open_job_moves : (act : Act) (reply : Told) → is_open act ≡ true → event_job_moves act reply ≡ []
open_job_moves (Open scan) reply e = refl
open_job_moves _ reply e = absurd (cc)

-- what is no event, and moves no job, goes on with the slots as they are
pub stays_exact : (core : CoreContents) (ss : List JobSlot) (step : Step) (reply : Told) → IsNoEvent step reply → GoesExactly core ss (record { step = step; reply = reply } ∷ []) core ss
stays_exact core ss step reply none = goes_nowhere core ss ss step reply none (λ ms h. h)

-- an event that hands out no job
pub alone_exact : (old new : CoreContents) (ss : List JobSlot) (event : Event) (reply : Told) → NamesNoSlot event.act → StepsExactly old None event reply None new → GoesExactly old ss (record { step = IsEvent event; reply = reply } ∷ []) new ss
alone_exact old new ss event reply alone exact = goes_alone old new ss event reply None alone exact

-- an Open names no slot, and begins no job
pub open_alone : (act : Act) → is_open act ≡ true → NamesNoSlot act
open_alone (Open scan) e = tt
open_alone _ e = absurd (cc)

pub open_begins_none : (act : Act) → is_open act ≡ true → is_begin act ≡ false
open_begins_none (Open scan) e = refl
open_begins_none _ e = absurd (cc)

-- ---- many steps
-- two chains, the later one in front
pub goes_on_exactly : (a b c : CoreContents) (ss ts us : List JobSlot) (es fs : List Entry) → GoesExactly a ss es b ts → GoesExactly b ts fs c us → GoesExactly a ss (fs ++ es) c us
goes_on_exactly a b c ss ts us es fs first later ms h =
    let mid = first ms h in
    let last = later mid.0 mid.1 in
    (last.0, last.1, chain_join EntryGoes (record { held = a; begun = ms }) (record { held = b; begun = mid.0 }) (record { held = c; begun = last.0 }) es fs mid.2 last.2)

-- ---- a slot that is emptied for a while
-- it is what the slot held
pub slot_found : (ss : List JobSlot) (k : ℕ) (s : JobSlot) → k < length ss → s ≡ get_or ss k s → slot_in ss k ≡ s
slot_found [] k s lt is = absurd (omega arith)
slot_found (x ∷ ss) zero s lt is = sym is
slot_found (x ∷ ss) (suc k) s lt is = slot_found ss k s (omega arith) is

-- the merge of what stood there
pub merges_in : (ss : List JobSlot) (k : ℕ) (s empty put : JobSlot) (reply : Told) → slot_in ss k ≡ s → (reply ≡ merge_answer (is_waiting (seen s)) k) ⊎ ((is_waiting (seen s) ≡ true) × (reply ≡ Refused NoMemory)) → put ≡ after_made s reply → MergesIn ss k reply (slice_set (slice_set ss k empty) k put)
merges_in ss k s empty put reply found answers left = record {
  answers = subst (λ (x : JobSlot). (reply ≡ merge_answer (is_waiting (seen x)) k) ⊎ ((is_waiting (seen x) ≡ true) × (reply ≡ Refused NoMemory))) (sym found) answers;
  after = set_twice ss k empty put ∙ ap (slice_set ss k) (left ∙ ap (λ x. after_made x reply) (sym found));
}

-- where there is no such slot
pub merges_past : (ss : List JobSlot) (k : ℕ) → length ss ≤ k → MergesIn ss k (Refused (NoJob k)) ss
merges_past ss k le = record { answers = inl (ap (λ (x : JobSlot). merge_answer (is_waiting (seen x)) k) (sym (slot_past ss k le))); after = sym (same_slot ss k) }

-- a finished merge is taken out
pub taken_in : (ss : List JobSlot) (k : ℕ) (s empty put : JobSlot) → slot_in ss k ≡ s → put ≡ freed s → slice_set (slice_set ss k empty) k put ≡ slice_set ss k (freed (slot_in ss k))
taken_in ss k s empty put found left = set_twice ss k empty put ∙ ap (slice_set ss k) (left ∙ ap freed (sym found))

pub taken_past : (ss : List JobSlot) (k : ℕ) → length ss ≤ k → ss ≡ slice_set ss k (freed (slot_in ss k))
taken_past ss k le = sym (ap (slice_set ss k) (ap freed (slot_past ss k le) ∙ sym (slot_past ss k le)) ∙ same_slot ss k)
