-- A step of a run makes its history longer.
use Rattle.std.proofs.Common.{◌≡◌, ◌⊎◌, inl, inr, ℕ, Bool, true, false, cond, ◌&&◌, List, [], ◌∷◌, ◌++◌, length, Option, Some, None, refl, sym, ap, ◌∙◌, subst, arith}
use Rattle.std.specs.Prelude.{reverse, bytes_eq}
use Rattle.std.proofs.lemmas.List.{reverse-append}
use Rattle.std.proofs.lemmas.Slice.Eq.{bytes_eq-Decides}
use Rattle.tab_key.specs.Records.{Cell}
use Rattle.tab_key.specs.declared.range.Bounds.{Bounds}
use Rattle.tab_key.specs.declared.limited_part.LimitedPart.TheVariants.{Sessions}
use Rattle.tab_history.specs.declared.event.Act.{Act}
use Rattle.tab_history.specs.declared.event.Act.TheVariants.{Open}
use Rattle.tab_history.specs.declared.event.Event.{Event}
use Rattle.tab_history.specs.declared.event.Step.{Step}
use Rattle.tab_history.specs.declared.event.Step.TheVariants.{Event as IsEvent, Next, Many, Close, Merge}
use Rattle.tab_history.specs.declared.reply.Refusal.{Refusal}
use Rattle.tab_history.specs.declared.reply.Refusal.TheVariants.{NoMemory, TooLarge, NoSession}
use Rattle.tab_history.specs.declared.reply.Reply.{Reply}
use Rattle.tab_history.specs.declared.reply.Reply.TheVariants.{Done, Refused, Opened, Batch}
use Rattle.tab_history.specs.Bases.{Base}
use Rattle.tab_history.specs.Answers.{Told, told_of, session_of, job_of, answer, event_answer, IsEventReply, empty_slot, slotted, next_answer, many_answer, close_answer, is_open, moves_by, session_list}
use Rattle.tab_cells.specs.SessionState.{SessionState}
use Rattle.tab_session.specs.OpenSession.{OpenSession}
use Rattle.tab_history.specs.Sessions.{Move, Opening, Taking, Closing, is_full}
use Rattle.tab_history.specs.Histories.{Entry, World, world_of, world_after, clock_of, clock_at, journal, user_of, moves_of, jobs_of}
use Rattle.tab_history.specs.Legal.{IsAnswer, LacksMemory, takes_memory}
use Rattle.tab_history.specs.Refinement.{Refines}
use Rattle.tab_history.specs.Runs.{IsNoEvent}
use Rattle.tab_history.proofs.Playing.{unmoved}
use Rattle.tab_store.specs.Parts.{TabletMerge}
use Rattle.tab_store.specs.Stores.{CoreContents, base_of}
use Rattle.tab_store.specs.Stepping.{StepsExactly}
use Rattle.tab_store.specs.Chains.{EntryGoes, starting}
use Rattle.tab_store.proofs.Joining.{chain_join}
use Rattle.tab_history.specs.Chains.{IsChain}
use Rattle.tab_core.specs.declared.job_slots.JobSlot.{JobSlot}
use Rattle.tab_core.specs.JobSlots.{JobsAre, HoldMerges, GoesExactly, MergesIn, StepsIn}
use Rattle.tab_core.specs.Stepping.{Steps, StepsWith, HandsOut}
use Rattle.tab_core.specs.Slots.{slot_at, are_full, NextFrom, ManyFrom, CloseFrom, SlotsAre, entries_of, history_of}
use Rattle.tab_core.specs.declared.sessions.UserSessions.{UserSessions}
use Rattle.tab_core.specs.Sessions.{Keeping, kept_of, KeepsFor, NextIn, ManyIn, CloseIn}
use Rattle.tab_core.specs.Owners.{slots_of, LeavesOthers, OwnersRefine, Lengthens, RunsOn, kept_with, OpensIn}
use Rattle.tab_core.proofs.SlotLemmas.{slots_none, slots_opened, slots_taken, slots_closed, full_alike}
use Rattle.tab_core.proofs.JobLemmas.{jobs_none, Lengthened, steps_lengthen, steps_exact, merge_lengthens, merge_exact, stays_exact, alone_exact, no_job, open_job_moves, open_alone, open_begins_none}

-- ---- whose slots they are
own_more : (w : World) (h : List Entry) (step : Step) (reply : Told) (os os' : Keeping) → SlotsAre (moves_by w.base (journal w h) step reply ++ moves_of w (user_of step) h) (slots_of os' (user_of step)) → LeavesOthers (user_of step) os os' → OwnersRefine os w h
    → OwnersRefine os' w (record { step = step; reply = reply } ∷ h)
unfolding moves_of
own_more w h step reply os os' own others stand u = go (bytes_eq (user_of step) u) refl
  where
    go : (b : Bool) → bytes_eq (user_of step) u ≡ b → SlotsAre (cond b (moves_by w.base (journal w h) step reply ++ moves_of w u h) (moves_of w u h)) (slots_of os' u)
    go true same = subst (λ (n : List ℕ). SlotsAre (moves_by w.base (journal w h) step reply ++ moves_of w n h) (slots_of os' n)) ((bytes_eq-Decides (user_of step) u).0 same) own
    go false other = subst (λ (ss : List (Option SessionState)). SlotsAre (moves_of w u h) ss) (sym (others u other)) (stand u)

-- what is kept for the user, with these slots
abbrev with_slots : Keeping → List ℕ → List (Option SessionState) → UserSessions
with_slots os user slots = record (kept_of os user) { numbered = slots }

-- what is kept for him holds his slots
own_now : (user : List ℕ) (kept : UserSessions) (old new : Keeping) → KeepsFor user kept old new → slots_of new user ≡ kept.numbered
own_now user kept old new keeps = ap (λ (k : UserSessions). k.numbered) (keeps user ∙ ap (λ b. cond b kept (kept_of old user)) ((bytes_eq-Decides user user).1 refl))

-- and the others have theirs
others_left : (user : List ℕ) (kept : UserSessions) (old new : Keeping) → KeepsFor user kept old new → LeavesOthers user old new
others_left user kept old new keeps other away = ap (λ (k : UserSessions). k.numbered) (keeps other ∙ ap (λ b. cond b kept (kept_of old other)) away)

-- all stays where there was no event
still : (w : World) (h : List Entry) (core : Base) (step : Step) (reply : Told) → IsNoEvent step reply → Refines (world_of core) (world_after w h) → Refines (world_of core) (world_after w (record { step = step; reply = reply } ∷ h))
still w h core step reply none_opens refines = subst (λ (v : World). Refines (world_of core) v) (sym (unmoved w h (record { step = step; reply = reply }) none_opens)) refines

-- ---- a Next
next_slots : (w : World) (j : List Move) (b : Base) (h : List Entry) (user : List ℕ) (slot n : ℕ) (reply : Told) (ss ss' : List (Option SessionState)) → NextFrom ss slot n reply ss' → SlotsAre j ss → SlotsAre (moves_by b (journal w h) (Next user slot n) reply ++ j) ss'
next_slots w j b h user slot n (Batch cells) ss ss' from are = subst (λ (l : List (Option SessionState)). SlotsAre (Taking slot (length cells) ∷ j) l) (sym from.after) (slots_taken j ss slot (length cells) are)
next_slots w j b h user slot n reply ss ss' from are = subst (λ (l : List (Option SessionState)). SlotsAre j l) (sym from.after) are

next_answers : (w : World) (h : List Entry) (user : List ℕ) (slot n : ℕ) (reply : Told) (ss ss' : List (Option SessionState)) → NextFrom ss slot n reply ss' → SlotsAre (moves_of w user h) ss → IsAnswer w h h (Next user slot n) reply ⊎ LacksMemory (Next user slot n) reply
unfolding answer
next_answers w h user slot n reply ss ss' from are = go from.answers
  where
    go : (reply ≡ next_answer (slot_at ss slot) slot n) ⊎ (reply ≡ Refused NoMemory) → IsAnswer w h h (Next user slot n) reply ⊎ LacksMemory (Next user slot n) reply
    go (inl is) = inl (is ∙ ap (λ (s : Option SessionState). next_answer s slot n) (sym (are.sessions slot)))
    go (inr is) = inr (refl, is)

next_longer : (core : Base) (os os' : Keeping) (user : List ℕ) (slot n : ℕ) (reply : Told) → NextFrom (slots_of os user) slot n reply (slots_of os' user) → LeavesOthers user os os' → (jobs : List JobSlot) → Lengthens core os jobs (Next user slot n) reply core os' jobs
unfolding jobs_of
next_longer core os os' user slot n reply from others jobs w h refines stand are legal = (
  still w h core (Next user slot n) reply tt refines,
  own_more w h (Next user slot n) reply os os' (next_slots w (moves_of w user h) w.base h user slot n reply (slots_of os user) (slots_of os' user) from (stand user)) others stand,
  are,
  (legal, next_answers w h user slot n reply (slots_of os user) (slots_of os' user) from (stand user)),
)

pub runs_next : (core : CoreContents) (os os' : Keeping) (jobs : List JobSlot) (user : List ℕ) (slot n : ℕ) (reply : Told) → NextIn os user slot n reply os' → RunsOn core os jobs (Next user slot n) reply core os' jobs
runs_next core os os' jobs user slot n reply (ss, from, keeps) =
    let after : NextFrom (slots_of os user) slot n reply (slots_of os' user) = subst (λ (l : List (Option SessionState)). NextFrom (slots_of os user) slot n reply l) (sym (own_now user (with_slots os user ss) os os' keeps)) from in
    record { histories = next_longer (base_of core) os os' user slot n reply after (others_left user (with_slots os user ss) os os' keeps) jobs; exact = stays_exact core jobs (Next user slot n) reply tt }

-- ---- a Many
many_answers : (w : World) (h : List Entry) (user : List ℕ) (slot : ℕ) (ranges : List Bounds) (reply : Told) (ss : List (Option SessionState)) → ManyFrom ss slot ranges reply → SlotsAre (moves_of w user h) ss → IsAnswer w h h (Many user slot ranges) reply ⊎ LacksMemory (Many user slot ranges) reply
unfolding answer
many_answers w h user slot ranges reply ss (inl is) are = inl (is ∙ ap (λ (s : Option SessionState). many_answer s slot ranges) (sym (are.sessions slot)))
many_answers w h user slot ranges reply ss (inr is) are = inr (refl, is)

many_longer : (core : Base) (os : Keeping) (user : List ℕ) (slot : ℕ) (ranges : List Bounds) (reply : Told) → ManyFrom (slots_of os user) slot ranges reply → (jobs : List JobSlot) → Lengthens core os jobs (Many user slot ranges) reply core os jobs
unfolding jobs_of
many_longer core os user slot ranges reply from jobs w h refines stand are legal = (
  still w h core (Many user slot ranges) reply tt refines,
  own_more w h (Many user slot ranges) reply os os (stand user) (λ u other. refl) stand,
  are,
  (legal, many_answers w h user slot ranges reply (slots_of os user) from (stand user)),
)

pub runs_many : (core : CoreContents) (os os' : Keeping) (jobs : List JobSlot) (user : List ℕ) (slot : ℕ) (ranges : List Bounds) (reply : Told) → ManyIn os user slot ranges reply → os' ≡ os → RunsOn core os jobs (Many user slot ranges) reply core os' jobs
runs_many core os os' jobs user slot ranges reply from same =
    subst (λ (after : Keeping). RunsOn core os jobs (Many user slot ranges) reply core after jobs) (sym same)
    (record { histories = many_longer (base_of core) os user slot ranges reply from jobs; exact = stays_exact core jobs (Many user slot ranges) reply tt })

-- ---- a Close
close_slots : (w : World) (j : List Move) (b : Base) (h : List Entry) (user : List ℕ) (slot : ℕ) (reply : Told) (ss ss' : List (Option SessionState)) → CloseFrom ss slot reply ss' → SlotsAre j ss → SlotsAre (moves_by b (journal w h) (Close user slot) reply ++ j) ss'
close_slots w j b h user slot Done ss ss' from are = go (slot_at ss slot) refl
  where
    go : (s : Option SessionState) → slot_at ss slot ≡ s → SlotsAre (Closing slot ∷ j) ss'
    go None none = let is : Done ≡ Refused (NoSession slot) = from.answers ∙ ap (λ (s : Option SessionState). close_answer s slot) none in absurd (cc is)
    go (Some held) some = subst (λ (l : List (Option SessionState)). SlotsAre (Closing slot ∷ j) l) (sym from.after) (slots_closed j ss slot held some are)
close_slots w j b h user slot reply ss ss' from are = subst (λ (l : List (Option SessionState)). SlotsAre j l) (sym from.after) are

close_answers : (w : World) (h : List Entry) (user : List ℕ) (slot : ℕ) (reply : Told) (ss ss' : List (Option SessionState)) → CloseFrom ss slot reply ss' → SlotsAre (moves_of w user h) ss → IsAnswer w h h (Close user slot) reply ⊎ LacksMemory (Close user slot) reply
unfolding answer
close_answers w h user slot reply ss ss' from are = inl (from.answers ∙ ap (λ (s : Option SessionState). close_answer s slot) (sym (are.sessions slot)))

close_longer : (core : Base) (os os' : Keeping) (user : List ℕ) (slot : ℕ) (reply : Told) → CloseFrom (slots_of os user) slot reply (slots_of os' user) → LeavesOthers user os os' → (jobs : List JobSlot) → Lengthens core os jobs (Close user slot) reply core os' jobs
unfolding jobs_of
close_longer core os os' user slot reply from others jobs w h refines stand are legal = (
  still w h core (Close user slot) reply tt refines,
  own_more w h (Close user slot) reply os os' (close_slots w (moves_of w user h) w.base h user slot reply (slots_of os user) (slots_of os' user) from (stand user)) others stand,
  are,
  (legal, close_answers w h user slot reply (slots_of os user) (slots_of os' user) from (stand user)),
)

pub runs_close : (core : CoreContents) (os os' : Keeping) (jobs : List JobSlot) (user : List ℕ) (slot : ℕ) (reply : Told) → CloseIn os user slot reply os' → RunsOn core os jobs (Close user slot) reply core os' jobs
runs_close core os os' jobs user slot reply (ss, from, keeps) =
    let after : CloseFrom (slots_of os user) slot reply (slots_of os' user) = subst (λ (l : List (Option SessionState)). CloseFrom (slots_of os user) slot reply l) (sym (own_now user (with_slots os user ss) os os' keeps)) from in
    record { histories = close_longer (base_of core) os os' user slot reply after (others_left user (with_slots os user ss) os os' keeps) jobs; exact = stays_exact core jobs (Close user slot) reply tt }

-- ---- a Merge
merge_longer : (core : Base) (os : Keeping) (jobs jobs' : List JobSlot) (slot : ℕ) (reply : Told) → MergesIn jobs slot reply jobs' → Lengthens core os jobs (Merge slot) reply core os jobs'
merge_longer core os jobs jobs' slot reply from w h refines stand are legal =
    let l : Lengthened w h (Merge slot) reply core jobs' = merge_lengthens core jobs jobs' slot reply from w h refines are in (
      l.refines,
      own_more w h (Merge slot) reply os os (stand []) (λ u other. refl) stand,
      l.jobs,
      (legal, l.answers),
    )

pub runs_merge : (core : CoreContents) (os : Keeping) (jobs jobs' : List JobSlot) (slot : ℕ) (reply : Told) → MergesIn jobs slot reply jobs' → RunsOn core os jobs (Merge slot) reply core os jobs'
runs_merge core os jobs jobs' slot reply from = record { histories = merge_longer (base_of core) os jobs jobs' slot reply from; exact = merge_exact core jobs jobs' slot reply from }

-- ---- an event
-- an Open takes memory
pub open_takes : (act : Act) → is_open act ≡ true → takes_memory act ≡ true
open_takes (Open scan) e = refl
open_takes _ e = absurd (cc)

-- it moves no job
pub open_jobs : (w : World) (h : List Entry) (event : Event) (reply : Told) (jobs : List JobSlot) → is_open event.act ≡ true → JobsAre (jobs_of h) jobs → JobsAre (jobs_of (record { step = IsEvent event; reply = reply } ∷ h)) jobs
unfolding jobs_of
open_jobs w h event reply jobs opens are = subst (λ j. JobsAre (j ++ jobs_of h) jobs) (sym (open_job_moves event.act reply opens)) are

nowhere_longer : (core : Base) (os os' : Keeping) (jobs : List JobSlot) (event : Event) → is_open event.act ≡ true → ((u : List ℕ) → slots_of os' u ≡ slots_of os u) → Lengthens core os jobs (IsEvent event) (Refused NoMemory) core os' jobs
nowhere_longer core os os' jobs event opens same w h refines stand are legal = (
  still w h core (IsEvent event) (Refused NoMemory) tt refines,
  own_more w h (IsEvent event) (Refused NoMemory) os os' (subst (λ (l : List (Option SessionState)). SlotsAre (moves_of w event.user h) l) (sym (same event.user)) (stand event.user)) (λ u away. same u) stand,
  open_jobs w h event (Refused NoMemory) jobs opens are,
  (legal, inr (open_takes event.act opens, refl)),
)

pub runs_nowhere : (core : CoreContents) (os os' : Keeping) (jobs : List JobSlot) (event : Event) → is_open event.act ≡ true → ((u : List ℕ) → slots_of os' u ≡ slots_of os u) → RunsOn core os jobs (IsEvent event) (Refused NoMemory) core os' jobs
runs_nowhere core os os' jobs event opens same = record { histories = nowhere_longer (base_of core) os os' jobs event opens same; exact = stays_exact core jobs (IsEvent event) (Refused NoMemory) tt }

-- an Open was an exact step
pub open_exactly : (old new : CoreContents) (given : Option TabletMerge) (event : Event) (r : Reply OpenSession TabletMerge) → is_open event.act ≡ true → StepsWith old given event r new → StepsExactly old given event (told_of r) (job_of r) new
open_exactly old new given event r opens (inl x) = x.1
open_exactly old new given event r opens (inr x) = absurd (cc (sym opens ∙ ap is_open x.1.1))

-- an event that opens no session
other_slots : (w : World) (j : List Move) (h : List Entry) (event : Event) (reply : Told) (ss : List (Option SessionState)) → is_open event.act ≡ false → SlotsAre j ss → SlotsAre (moves_by w.base (journal w h) (IsEvent event) reply ++ j) ss
other_slots w j h event (Opened s) ss none_opens are = subst (λ (b : Bool). SlotsAre (cond b (Opening (session_list w.base (journal w h) event.act) ∷ []) [] ++ j) ss) (sym none_opens) are
other_slots w j h event reply ss none_opens are = are

event_longer : (old new : CoreContents) (os : Keeping) (jobs jobs' : List JobSlot) (event : Event) (reply : Told) → is_open event.act ≡ false → StepsIn old jobs event reply new jobs' → Lengthens (base_of old) os jobs (IsEvent event) reply (base_of new) os jobs'
event_longer old new os jobs jobs' event reply none_opens steps w h refines stand are legal =
    let l : Lengthened w h (IsEvent event) reply (base_of new) jobs' = steps_lengthen old new jobs jobs' event reply none_opens steps w h refines are in (
      l.refines,
      own_more w h (IsEvent event) reply os os (other_slots w (moves_of w event.user h) h event reply (slots_of os event.user) none_opens (stand event.user)) (λ u away. refl) stand,
      l.jobs,
      (legal, l.answers),
    )

pub runs_event : (old new : CoreContents) (os : Keeping) (jobs jobs' : List JobSlot) (event : Event) (reply : Told) → is_open event.act ≡ false → StepsIn old jobs event reply new jobs' → RunsOn old os jobs (IsEvent event) reply new os jobs'
runs_event old new os jobs jobs' event reply none_opens steps = record { histories = event_longer old new os jobs jobs' event reply none_opens steps; exact = steps_exact old new jobs jobs' event reply steps }

-- a session that is handed out is kept
kept_slots : (w : World) (j : List Move) (h : List Entry) (event : Event) (r : Reply OpenSession TabletMerge) (ss : List (Option SessionState)) → is_open event.act ≡ true → HandsOut r (session_list w.base (journal w h) event.act) → SlotsAre j ss
    → SlotsAre (moves_by w.base (journal w h) (IsEvent event) (told_of r) ++ j) (kept_with ss (session_of r))
kept_slots w j h event (Opened s) ss opens hands are =
    let list : List Cell = session_list w.base (journal w h) event.act in
    let there : SlotsAre (Opening list ∷ j) (ss ++ Some s.state ∷ []) = subst (λ (x : OpenSession). SlotsAre (Opening list ∷ j) (ss ++ Some x.state ∷ [])) (sym hands) (slots_opened j ss list are) in
    subst (λ (b : Bool). SlotsAre (cond b (Opening list ∷ []) [] ++ j) (ss ++ Some s.state ∷ [])) (sym opens) there
kept_slots w j h event reply ss opens hands are = are

full_answer : (w : World) (h : List Entry) (event : Event) → is_open event.act ≡ true → is_full (moves_of w event.user h) ≡ true → IsAnswer w h h (IsEvent event) (Refused (TooLarge Sessions))
unfolding answer
full_answer w h event opens full =
    subst (λ (x : Told). IsEventReply event.act x (Refused (TooLarge Sessions))) (sym ((λ i. cond (opens i && full i) (Refused (TooLarge Sessions)) (slotted (empty_slot (jobs_of h) event.act) (event_answer w.base (journal w h) (clock_at (clock_of w h) (IsEvent event)) event.user event.act))))) refl

-- where the slots are full, where memory lacked, and where the core answered
open_stays : (core : Base) (os os' : Keeping) (jobs : List JobSlot) (event : Event) (x : Refusal) → is_open event.act ≡ true → IsNoEvent (IsEvent event) (Refused x) → ((u : List ℕ) → slots_of os' u ≡ slots_of os u)
    → ((w : World) (h : List Entry) → OwnersRefine os w h → IsAnswer w h h (IsEvent event) (Refused x) ⊎ LacksMemory (IsEvent event) (Refused x)) → Lengthens core os jobs (IsEvent event) (Refused x) core os' jobs
open_stays core os os' jobs event x opens none_opens same answers w h refines stand are legal = (
  still w h core (IsEvent event) (Refused x) none_opens refines,
  own_more w h (IsEvent event) (Refused x) os os' (subst (λ (l : List (Option SessionState)). SlotsAre (moves_of w event.user h) l) (sym (same event.user)) (stand event.user)) (λ u away. same u) stand,
  open_jobs w h event (Refused x) jobs opens are,
  (legal, answers w h stand),
)

open_answered : (old new : Base) (os os' : Keeping) (jobs : List JobSlot) (event : Event) (r : Reply OpenSession TabletMerge) → is_open event.act ≡ true → are_full (slots_of os event.user) ≡ false → Steps old event r new → slots_of os' event.user ≡ kept_with (slots_of os event.user) (session_of r)
    → LeavesOthers event.user os os' → Lengthens old os jobs (IsEvent event) (told_of r) new os' jobs
open_answered old new os os' jobs event r opens room steps slots others w h refines stand are legal =
    let ss : List (Option SessionState) = slots_of os event.user in
    let own : SlotsAre (moves_by w.base (journal w h) (IsEvent event) (told_of r) ++ moves_of w event.user h) (kept_with ss (session_of r)) = kept_slots w (moves_of w event.user h) h event r ss opens (steps.hands w h refines) (stand event.user) in (
      steps.refines w h refines,
      own_more w h (IsEvent event) (told_of r) os os' (subst (λ (l : List (Option SessionState)). SlotsAre (moves_by w.base (journal w h) (IsEvent event) (told_of r) ++ moves_of w event.user h) l) (sym slots) own) others stand,
      open_jobs w h event (told_of r) jobs opens are,
      (legal, steps.answers w h refines h (λ opens. full_alike (moves_of w event.user h) ss (stand event.user) ∙ room, open_alone event.act opens)),
    )

-- they are the same for all where his are
same_slots : (os os' : Keeping) (user : List ℕ) (slots : List (Option SessionState)) → slots_of os' user ≡ slots → slots ≡ slots_of os user → LeavesOthers user os os' → (u : List ℕ) → slots_of os' u ≡ slots_of os u
same_slots os os' user slots now same others u = go (bytes_eq user u) refl
  where
    go : (b : Bool) → bytes_eq user u ≡ b → slots_of os' u ≡ slots_of os u
    go true is = subst (λ (n : List ℕ). slots_of os' n ≡ slots_of os n) ((bytes_eq-Decides user u).0 is) (now ∙ same)
    go false away = others u away

-- an Open in what is kept for the user
pub runs_open : (old new : CoreContents) (os os' : Keeping) (jobs : List JobSlot) (event : Event) (reply : Told) (slots : List (Option SessionState)) → is_open event.act ≡ true
    → OpensIn old (slots_of os event.user) event reply new slots → KeepsFor event.user (with_slots os event.user slots) os os' → RunsOn old os jobs (IsEvent event) reply new os' jobs
runs_open old new os os' jobs event reply slots opens (inl full) keeps =
    let b : Base = base_of old in
    let r : Told = Refused (TooLarge Sessions) in
    let all : (u : List ℕ) → slots_of os' u ≡ slots_of os u = same_slots os os' event.user slots (own_now event.user (with_slots os event.user slots) os os' keeps) full.3 (others_left event.user (with_slots os event.user slots) os os' keeps) in
    let longer : Lengthens b os jobs (IsEvent event) r b os' jobs =
    open_stays b os os' jobs event (TooLarge Sessions) opens tt all (λ w h stand. inl (full_answer w h event opens (full_alike (moves_of w event.user h) (slots_of os event.user) (stand event.user) ∙ full.0))) in
    let there : RunsOn old os jobs (IsEvent event) r old os' jobs = record { histories = longer; exact = stays_exact old jobs (IsEvent event) r tt } in
    subst (λ (core : CoreContents). RunsOn old os jobs (IsEvent event) reply core os' jobs) (sym full.2) (subst (λ (x : Told). RunsOn old os jobs (IsEvent event) x old os' jobs) (sym full.1) there)
runs_open old new os os' jobs event reply slots opens (inr (inl lacks)) keeps =
    let r : Told = Refused NoMemory in
    let all : (u : List ℕ) → slots_of os' u ≡ slots_of os u = same_slots os os' event.user slots (own_now event.user (with_slots os event.user slots) os os' keeps) lacks.2 (others_left event.user (with_slots os event.user slots) os os' keeps) in
    let there : RunsOn old os jobs (IsEvent event) r old os' jobs = runs_nowhere old os os' jobs event opens all in
    subst (λ (core : CoreContents). RunsOn old os jobs (IsEvent event) reply core os' jobs) (sym lacks.1) (subst (λ (x : Told). RunsOn old os jobs (IsEvent event) x old os' jobs) (sym lacks.0) there)
runs_open old new os os' jobs event reply slots opens (inr (inr (room, (r, steps, exact, is, kept)))) keeps =
    let did : StepsExactly old None event (told_of r) (job_of r) new = open_exactly old new None event r opens exact in
    let none : job_of r ≡ None = no_job old new None event (told_of r) (job_of r) (open_begins_none event.act opens) did in
    let there : RunsOn old os jobs (IsEvent event) (told_of r) new os' jobs = record {
      histories = open_answered (base_of old) (base_of new) os os' jobs event r opens room steps (own_now event.user (with_slots os event.user slots) os os' keeps ∙ kept) (others_left event.user (with_slots os event.user slots) os os' keeps);
      exact = alone_exact old new jobs event (told_of r) (open_alone event.act opens) (subst (λ (o : Option TabletMerge). StepsExactly old None event (told_of r) o new) none did);
    } in
    subst (λ (x : Told). RunsOn old os jobs (IsEvent event) x new os' jobs) (sym is) there

-- ---- the list of entries
entries_push : (steps : List Step) (replies : List Told) (step : Step) (reply : Told) → length steps ≡ length replies
    → entries_of (steps ++ step ∷ []) (replies ++ reply ∷ []) ≡ entries_of steps replies ++ record { step = step; reply = reply } ∷ []
entries_push [] [] step reply same = refl
entries_push [] (r ∷ replies) step reply same = absurd (omega arith)
entries_push (x ∷ steps) [] step reply same = absurd (omega arith)
entries_push (x ∷ steps) (r ∷ replies) step reply same = ap (λ l. record { step = x; reply = r } ∷ l) (entries_push steps replies step reply (omega arith))

-- one more step and its reply
pub history_push : (steps : List Step) (replies : List Told) (step : Step) (reply : Told) → length steps ≡ length replies → history_of (steps ++ step ∷ []) (replies ++ reply ∷ []) ≡ record { step = step; reply = reply } ∷ history_of steps replies
history_push steps replies step reply same = ap reverse (entries_push steps replies step reply same) ∙ reverse-append (entries_of steps replies) (record { step = step; reply = reply } ∷ [])

-- before the first step
pub owners_none : (w : World) → OwnersRefine [] w []
unfolding moves_of
owners_none w user = slots_none

-- and before any step
pub after_none : (w : World) → world_after w [] ≡ w
unfolding journal clock_of
after_none w = refl

pub none_before : (jobs : List JobSlot) → jobs ≡ [] → JobsAre (jobs_of []) jobs
unfolding jobs_of
none_before jobs none = subst (λ (ss : List JobSlot). JobsAre [] ss) (sym none) jobs_none

-- a chain goes on by one more entry
pub goes_on_chain : (first : CoreContents) (merges : List TabletMerge) (core new : CoreContents) (jobs jobs' : List JobSlot) (es : List Entry) (e : Entry) → HoldMerges jobs merges → IsChain EntryGoes (starting first) es (record { held = core; begun = merges })
    → GoesExactly core jobs (e ∷ []) new jobs' → (merges' : List TabletMerge) × HoldMerges jobs' merges' × IsChain EntryGoes (starting first) (e ∷ es) (record { held = new; begun = merges' })
goes_on_chain first merges core new jobs jobs' es e hold chain goes =
    let last = goes merges hold in
    (last.0, last.1, chain_join EntryGoes (starting first) (record { held = core; begun = merges }) (record { held = new; begun = last.0 }) es (e ∷ []) chain last.2)
