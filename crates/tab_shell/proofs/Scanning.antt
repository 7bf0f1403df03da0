-- A scan: a session is opened, read to its end and closed.
use Rattle.std.proofs.Common.{ℕ, zero, suc, ◌≡◌, ◌+◌, ◌*◌, ◌/◌, ◌≤◌, ◌==◌, Bool, true, false, cond, ◌&&◌, ◌⊎◌, inl, inr, List, [], ◌∷◌, ◌++◌, length, drop, refl, sym, ap, ◌∙◌, subst, arith, append_assoc, length-take, length-drop, Option, Some, None, Result, Ok}
use Rattle.std.specs.Prelude.{bytes_eq, option_map}
use Rattle.std.proofs.lemmas.Slice.Eq.{bytes_eq-Decides}
use Rattle.std.proofs.lemmas.Bool.{eq-eqb}
use Rattle.tab_key.specs.Records.{Cell}
use Rattle.tab_key.specs.declared.limited_part.LimitedPart.TheVariants.{Sessions}
use Rattle.tab_history.specs.declared.event.Scan.{Scan}
use Rattle.tab_history.specs.declared.event.Act.TheVariants.{Open}
use Rattle.tab_history.specs.declared.event.Event.{Event}
use Rattle.tab_history.specs.declared.event.Step.TheVariants.{Event as IsEvent, Next, Close}
use Rattle.tab_history.specs.declared.reply.Refusal.{Refusal}
use Rattle.tab_history.specs.declared.reply.Refusal.TheVariants.{NoMemory, TooLarge}
use Rattle.tab_history.specs.declared.reply.Reply.{Reply}
use Rattle.tab_history.specs.declared.reply.Reply.TheVariants.{Done, Refused, Opened, Batch}
use Rattle.tab_history.specs.Checks.{standing, refusal_of, exists_in, user_named}
use Rattle.tab_history.specs.Answers.{Told, told, answer, event_answer, IsEventReply, moves_by, session_list, next_answer, close_answer, told_of}
use Rattle.tab_cells.specs.SessionState.{gave}
use Rattle.tab_core.specs.OpenSession.{OpenSession, opened as new_session}
use Rattle.tab_history.specs.Sessions.{Move, Opening, Taking, Closing, opened, closed, is_full, session_in}
use Rattle.tab_history.specs.Jobs.{JobMove}
use Rattle.tab_history.specs.Histories.{Entry, World, world_of, world_after, clock_of, clock_at, journal, is_by, moves_of, jobs_of}
use Rattle.tab_history.specs.Legal.{answer_at, Legal, IsAnswer, LacksMemory}
use Rattle.tab_history.specs.Refinement.{Refines}
use Rattle.tab_history.specs.Chains.{IsChain}
use Rattle.tab_history.proofs.LeftOpen.{closed_reply}
use Rattle.tab_history.proofs.Playing.{unmoved}
use Rattle.tab_core.specs.Parts.{TabletMerge}
use Rattle.tab_core.specs.Stores.{CoreContents, base_of}
use Rattle.tab_core.specs.Chains.{Running, EntryGoes}
use Rattle.tab_core.specs.JobSlots.{JobsAre}
use Rattle.tab_core.specs.Stepping.{Steps}
use Rattle.tab_lines.specs.declared.line.Line.TheVariants as line
use Rattle.tab_replies.specs.Texts.{reply_text, refusal_text}
use Rattle.tab_shell.specs.Batches.{left_of}
use Rattle.tab_shell.specs.Readings.{ReadingEnd, AllRead, Lacking, CanEnd, IsReadingText, reading_text, reading_steps, batch_at, batches}
use Rattle.tab_core.specs.declared.sessions.UserSessions.{UserSessions}
use Rattle.tab_core.specs.Sessions.{Keeping, kept_of, is_spent, KeepsFor}
use Rattle.tab_shell.specs.Numbers.{Numbers, KeptAre}
use Rattle.tab_shell.proofs.Keeping.{kept_scanned, spent_alike, differ}
use Rattle.tab_shell.proofs.Saying.{same_cond}
use Rattle.tab_core.proofs.JobLemmas.{stays_exact}
use Rattle.tab_shell.proofs.JobSteps.{run_of, OpensExactly, jobs_stay}
use Rattle.tab_lines.specs.declared.line.Line.{Line}
use Rattle.tab_text.specs.declared.parse_error.ParseError.{ParseError}
use Rattle.tab_shell.specs.Scripts.{Asker, ScriptState, ScriptRefines, ScanSteps, ScriptAnswersLine, numbers_after, event_by, entry}

pub bytes_self : (x : List ℕ) → bytes_eq x x ≡ true
bytes_self x = (bytes_eq-Decides x x).1 refl

-- ---- the moves of one user's steps
by_self : (user : List ℕ) (xs ys : List Move) → cond (bytes_eq user user) xs ys ≡ xs
by_self user xs ys = ap (λ (t : Bool). cond t xs ys) (bytes_self user)

pub open_moves : (w : World) (who : Asker) (h : List Entry) (scan : Scan) (u : Unit {0})
    → moves_of w who.user (entry (event_by who (Open scan)) (Opened u) ∷ h) ≡ Opening (session_list w.base (journal w h) (Open scan)) ∷ moves_of w who.user h
unfolding moves_of
open_moves w who h scan u = by_self who.user (Opening (session_list w.base (journal w h) (Open scan)) ∷ moves_of w who.user h) (moves_of w who.user h)

refused_moves : (w : World) (user : List ℕ) (who : Asker) (h : List Entry) (scan : Scan) (r : Refusal) → moves_of w user (entry (event_by who (Open scan)) (Refused r) ∷ h) ≡ moves_of w user h
unfolding moves_of
refused_moves w user who h scan r = same_cond (bytes_eq who.user user) (moves_of w user h)

next_moves : (w : World) (user : List ℕ) (es : List Entry) (slot : ℕ) (cells : List Cell) → moves_of w user (record { step = Next user slot 1000; reply = Batch cells } ∷ es) ≡ Taking slot (length cells) ∷ moves_of w user es
unfolding moves_of
next_moves w user es slot cells = by_self user (Taking slot (length cells) ∷ moves_of w user es) (moves_of w user es)

close_moves : (w : World) (user : List ℕ) (es : List Entry) (slot : ℕ) → moves_of w user (record { step = Close user slot; reply = Done } ∷ es) ≡ Closing slot ∷ moves_of w user es
unfolding moves_of
close_moves w user es slot = by_self user (Closing slot ∷ moves_of w user es) (moves_of w user es)

-- ---- the moves of another user
pub other_moves : (w : World) (user : List ℕ) (e : Entry) (es : List Entry) → is_by user e.step ≡ false → moves_of w user (e ∷ es) ≡ moves_of w user es
unfolding moves_of
other_moves w user e es not = ap (λ (t : Bool). cond t (moves_by w.base (journal w es) e.step e.reply ++ moves_of w user es) (moves_of w user es)) not

slot_self : (slot : ℕ) → (slot == slot) ≡ true
slot_self slot = eq-eqb slot slot refl

session_opened : (ms : List Move) (all : List Cell) → session_in (Opening all ∷ ms) (opened ms) ≡ Some (record { all = all; given = 0 })
unfolding session_in
session_opened ms all = ap (λ (t : Bool). cond t (Some (record { all = all; given = 0 })) (session_in ms (opened ms))) (slot_self (opened ms))

session_taken : (ms : List Move) (slot n : ℕ) → session_in (Taking slot n ∷ ms) slot ≡ option_map (gave n) (session_in ms slot)
unfolding session_in
session_taken ms slot n = ap (λ (t : Bool). cond t (option_map (gave n) (session_in ms slot)) (session_in ms slot)) (slot_self slot)

taking_opened : (ms : List Move) (slot n : ℕ) → opened (Taking slot n ∷ ms) ≡ opened ms
unfolding opened
taking_opened ms slot n = refl

taking_closed : (ms : List Move) (slot n : ℕ) → closed (Taking slot n ∷ ms) ≡ closed ms
unfolding closed
taking_closed ms slot n = refl

opening_opened : (ms : List Move) (all : List Cell) → opened (Opening all ∷ ms) ≡ opened ms + 1
unfolding opened
opening_opened ms all = refl

opening_closed : (ms : List Move) (all : List Cell) → closed (Opening all ∷ ms) ≡ closed ms
unfolding closed
opening_closed ms all = refl

closing_opened : (ms : List Move) (slot : ℕ) → opened (Closing slot ∷ ms) ≡ opened ms
unfolding opened
closing_opened ms slot = refl

closing_closed : (ms : List Move) (slot : ℕ) → closed (Closing slot ∷ ms) ≡ closed ms + 1
unfolding closed
closing_closed ms slot = refl

taking_apart : (ms : List Move) (slot n s : ℕ) → (slot == s) ≡ false → session_in (Taking slot n ∷ ms) s ≡ session_in ms s
unfolding session_in
taking_apart ms slot n s away = ap (λ (t : Bool). cond t (option_map (gave n) (session_in ms s)) (session_in ms s)) away

closing_apart : (ms : List Move) (slot s : ℕ) → (slot == s) ≡ false → session_in (Closing slot ∷ ms) s ≡ session_in ms s
unfolding session_in
closing_apart ms slot s away = ap (λ (t : Bool). cond t None (session_in ms s)) away

opening_apart : (ms : List Move) (all : List Cell) (s : ℕ) → (opened ms == s) ≡ false → session_in (Opening all ∷ ms) s ≡ session_in ms s
unfolding session_in
opening_apart ms all s away = ap (λ (t : Bool). cond t (Some (record { all = all; given = 0 })) (session_in ms s)) away

-- ---- the batches of a session
module _ (w : World) (user : List ℕ) (slot : ℕ) (all : List Cell) where
  -- so many cells of the session in the slot were given
  abbrev Gave : List Entry → ℕ → Type 0
  Gave es n = session_in (moves_of w user es) slot ≡ Some (record { all = all; given = n })

  -- the k-th batch
  abbrev taken : ℕ → Entry
  taken k = record { step = Next user slot 1000; reply = Batch (batch_at all k) }

  next_right : (k : ℕ) (es : List Entry) → Gave es (1000 * k) → IsAnswer w es es (Next user slot 1000) (Batch (batch_at all k))
  unfolding answer
  next_right k es g = sym (ap (λ o. next_answer o slot 1000) g)

  close_right : (n : ℕ) (es : List Entry) → Gave es n → IsAnswer w es es (Close user slot) Done
  unfolding answer
  close_right n es g = sym (ap (λ o. close_answer o slot) g)

  gave_more : (k n : ℕ) (es : List Entry) → Gave es n → Gave (taken k ∷ es) (n + length (batch_at all k))
  gave_more k n es g =
      ap (λ ms. session_in ms slot) (next_moves w user es slot (batch_at all k)) ∙ session_taken (moves_of w user es) slot (length (batch_at all k)) ∙ ap (option_map (gave (length (batch_at all k)))) g

  full_batch : (k : ℕ) → 1000 * suc k ≤ length all → 1000 * k + length (batch_at all k) ≡ 1000 * suc k
  full_batch k fits = let a = length-take 1000 (drop (1000 * k) all) in let b = length-drop (1000 * k) all in omega (arith, a, b)

  -- the batches before the last one are full
  batches_legal : (k : ℕ) (es : List Entry) → 1000 * k ≤ length all → Legal w es → Gave es 0 → Legal w (batches user slot all k ++ es) × Gave (batches user slot all k ++ es) (1000 * k)
  batches_legal zero es fits legal g = (legal, g)
  batches_legal (suc k) es fits legal g =
      let ih = batches_legal k es (omega arith) legal g in
      let before : List Entry = batches user slot all k ++ es in
      ((ih.0, inl (next_right k before ih.1)), subst (λ (n : ℕ). Gave (taken k ∷ before) n) (full_batch k fits) (gave_more k (1000 * k) before ih.1))

  batches_opened : (k : ℕ) (es : List Entry) → opened (moves_of w user (batches user slot all k ++ es)) ≡ opened (moves_of w user es)
  batches_opened zero es = refl
  batches_opened (suc k) es =
      let before : List Entry = batches user slot all k ++ es in
      ap opened (next_moves w user before slot (batch_at all k)) ∙ taking_opened (moves_of w user before) slot (length (batch_at all k)) ∙ batches_opened k es

  batches_closed : (k : ℕ) (es : List Entry) → closed (moves_of w user (batches user slot all k ++ es)) ≡ closed (moves_of w user es)
  batches_closed zero es = refl
  batches_closed (suc k) es =
      let before : List Entry = batches user slot all k ++ es in
      ap closed (next_moves w user before slot (batch_at all k)) ∙ taking_closed (moves_of w user before) slot (length (batch_at all k)) ∙ batches_closed k es

  batches_unmoved : (k : ℕ) (es : List Entry) → world_after w (batches user slot all k ++ es) ≡ world_after w es
  batches_unmoved zero es = refl
  batches_unmoved (suc k) es = unmoved w (batches user slot all k ++ es) (taken k) tt ∙ batches_unmoved k es

  -- and leave the core as it was
  batches_exact : (k : ℕ) (first last : Running) (es : List Entry) → IsChain EntryGoes first es last → IsChain EntryGoes first (batches user slot all k ++ es) last
  batches_exact zero first last es chain = chain
  batches_exact (suc k) first last es chain = (last, batches_exact k first last es chain, inr (tt, refl))

  -- and all jobs
  batches_jobs : (k : ℕ) (es : List Entry) → jobs_of (batches user slot all k ++ es) ≡ jobs_of es
  unfolding jobs_of
  batches_jobs zero es = refl
  batches_jobs (suc k) es = batches_jobs k es

  -- they are none of another user's
  batches_others : (other : List ℕ) (k : ℕ) (es : List Entry) → bytes_eq user other ≡ false → moves_of w other (batches user slot all k ++ es) ≡ moves_of w other es
  batches_others other zero es not = refl
  batches_others other (suc k) es not = other_moves w other (taken k) (batches user slot all k ++ es) not ∙ batches_others other k es not

  -- and no other slot is touched
  batches_apart : (s : ℕ) → (slot == s) ≡ false → (k : ℕ) (es : List Entry) → session_in (moves_of w user (batches user slot all k ++ es)) s ≡ session_in (moves_of w user es) s
  batches_apart s away zero es = refl
  batches_apart s away (suc k) es =
      let before : List Entry = batches user slot all k ++ es in
      ap (λ ms. session_in ms s) (next_moves w user before slot (batch_at all k)) ∙ taking_apart (moves_of w user before) slot (length (batch_at all k)) s away ∙ batches_apart s away k es

  -- the whole session, and its close
  read_legal : (es : List Entry) → Legal w es → Gave es 0 → Legal w (reading_steps user slot all AllRead ++ es)
  read_legal es legal g =
      let q : ℕ = length all / 1000 in
      let b = batches_legal q es (omega arith) legal g in
      let before : List Entry = batches user slot all q ++ es in
      let last : Legal w (taken q ∷ before) = (b.0, inl (next_right q before b.1)) in
      (last, inl (close_right (1000 * q + length (batch_at all q)) (taken q ∷ before) (gave_more q (1000 * q) before b.1)))

  read_opened : (es : List Entry) → opened (moves_of w user (reading_steps user slot all AllRead ++ es)) ≡ opened (moves_of w user es)
  read_opened es =
      let before : List Entry = batches user slot all (suc (length all / 1000)) ++ es in
      ap opened (close_moves w user before slot) ∙ closing_opened (moves_of w user before) slot ∙ batches_opened (suc (length all / 1000)) es

  read_closed : (es : List Entry) → closed (moves_of w user (reading_steps user slot all AllRead ++ es)) ≡ closed (moves_of w user es) + 1
  read_closed es =
      let before : List Entry = batches user slot all (suc (length all / 1000)) ++ es in
      ap closed (close_moves w user before slot) ∙ closing_closed (moves_of w user before) slot ∙ ap (λ n. n + 1) (batches_closed (suc (length all / 1000)) es)

  read_others : (other : List ℕ) (es : List Entry) → bytes_eq user other ≡ false → moves_of w other (reading_steps user slot all AllRead ++ es) ≡ moves_of w other es
  read_others other es not =
      other_moves w other (record { step = Close user slot; reply = Done }) (batches user slot all (suc (length all / 1000)) ++ es) not ∙ batches_others other (suc (length all / 1000)) es not

  read_apart : (s : ℕ) → (slot == s) ≡ false → (es : List Entry) → session_in (moves_of w user (reading_steps user slot all AllRead ++ es)) s ≡ session_in (moves_of w user es) s
  read_apart s away es =
      let before : List Entry = batches user slot all (suc (length all / 1000)) ++ es in
      ap (λ ms. session_in ms s) (close_moves w user before slot) ∙ closing_apart (moves_of w user before) slot s away ∙ batches_apart s away (suc (length all / 1000)) es

  read_unmoved : (es : List Entry) → world_after w (reading_steps user slot all AllRead ++ es) ≡ world_after w es
  read_unmoved es = unmoved w (batches user slot all (suc (length all / 1000)) ++ es) (record { step = Close user slot; reply = Done }) tt ∙ batches_unmoved (suc (length all / 1000)) es

  read_exact : (first last : Running) (es : List Entry) → IsChain EntryGoes first es last → IsChain EntryGoes first (reading_steps user slot all AllRead ++ es) last
  read_exact first last es chain = (last, batches_exact (suc (length all / 1000)) first last es chain, inr (tt, refl))

  read_jobs : (es : List Entry) → jobs_of (reading_steps user slot all AllRead ++ es) ≡ jobs_of es
  unfolding jobs_of
  read_jobs es = batches_jobs (suc (length all / 1000)) es

  -- the batch for which memory lacked
  abbrev lacked : Entry
  lacked = record { step = Next user slot 1000; reply = Refused NoMemory }

  lacked_moves : (other : List ℕ) (es : List Entry) → moves_of w other (lacked ∷ es) ≡ moves_of w other es
  unfolding moves_of
  lacked_moves other es = same_cond (bytes_eq user other) (moves_of w other es)

  lacked_gave : (n : ℕ) (es : List Entry) → Gave es n → Gave (lacked ∷ es) n
  lacked_gave n es g = ap (λ ms. session_in ms slot) (lacked_moves user es) ∙ g

  -- full batches, one that lacked, and a close
  part_legal : (k : ℕ) (es : List Entry) → 1000 * k ≤ length all → Legal w es → Gave es 0 → Legal w (reading_steps user slot all (Lacking k) ++ es)
  part_legal k es fits legal g =
      let b = batches_legal k es fits legal g in
      let before : List Entry = batches user slot all k ++ es in
      ((b.0, inr (refl, refl)), inl (close_right (1000 * k) (lacked ∷ before) (lacked_gave (1000 * k) before b.1)))

  part_opened : (k : ℕ) (es : List Entry) → opened (moves_of w user (reading_steps user slot all (Lacking k) ++ es)) ≡ opened (moves_of w user es)
  part_opened k es =
      let before : List Entry = batches user slot all k ++ es in
      ap opened (close_moves w user (lacked ∷ before) slot) ∙ closing_opened (moves_of w user (lacked ∷ before)) slot ∙ ap opened (lacked_moves user before) ∙ batches_opened k es

  part_closed : (k : ℕ) (es : List Entry) → closed (moves_of w user (reading_steps user slot all (Lacking k) ++ es)) ≡ closed (moves_of w user es) + 1
  part_closed k es =
      let before : List Entry = batches user slot all k ++ es in
      ap closed (close_moves w user (lacked ∷ before) slot) ∙ closing_closed (moves_of w user (lacked ∷ before)) slot ∙ ap (λ ms. closed ms + 1) (lacked_moves user before) ∙ ap (λ n. n + 1) (batches_closed k es)

  part_others : (other : List ℕ) (k : ℕ) (es : List Entry) → bytes_eq user other ≡ false → moves_of w other (reading_steps user slot all (Lacking k) ++ es) ≡ moves_of w other es
  part_others other k es not =
      let before : List Entry = batches user slot all k ++ es in
      other_moves w other (record { step = Close user slot; reply = Done }) (lacked ∷ before) not ∙ lacked_moves other before ∙ batches_others other k es not

  part_apart : (s : ℕ) → (slot == s) ≡ false → (k : ℕ) (es : List Entry) → session_in (moves_of w user (reading_steps user slot all (Lacking k) ++ es)) s ≡ session_in (moves_of w user es) s
  part_apart s away k es =
      let before : List Entry = batches user slot all k ++ es in
      ap (λ ms. session_in ms s) (close_moves w user (lacked ∷ before) slot) ∙ closing_apart (moves_of w user (lacked ∷ before)) slot s away ∙ ap (λ ms. session_in ms s) (lacked_moves user before) ∙ batches_apart s away k es

  part_unmoved : (k : ℕ) (es : List Entry) → world_after w (reading_steps user slot all (Lacking k) ++ es) ≡ world_after w es
  part_unmoved k es =
      let before : List Entry = batches user slot all k ++ es in
      unmoved w (lacked ∷ before) (record { step = Close user slot; reply = Done }) tt ∙ unmoved w before lacked tt ∙ batches_unmoved k es

  part_exact : (k : ℕ) (first last : Running) (es : List Entry) → IsChain EntryGoes first es last → IsChain EntryGoes first (reading_steps user slot all (Lacking k) ++ es) last
  part_exact k first last es chain = (last, (last, batches_exact k first last es chain, inr (tt, refl)), inr (tt, refl))

  part_jobs : (k : ℕ) (es : List Entry) → jobs_of (reading_steps user slot all (Lacking k) ++ es) ≡ jobs_of es
  unfolding jobs_of
  part_jobs k es = batches_jobs k es

  -- entries that read the session and close it
  record Reads (out : List Entry) : Type 0 where
    legal : (es : List Entry) → Legal w es → Gave es 0 → Legal w (out ++ es)
    opened : (es : List Entry) → opened (moves_of w user (out ++ es)) ≡ opened (moves_of w user es)
    closed : (es : List Entry) → closed (moves_of w user (out ++ es)) ≡ closed (moves_of w user es) + 1
    others : (other : List ℕ) (es : List Entry) → bytes_eq user other ≡ false → moves_of w other (out ++ es) ≡ moves_of w other es
    apart : (s : ℕ) → (slot == s) ≡ false → (es : List Entry) → session_in (moves_of w user (out ++ es)) s ≡ session_in (moves_of w user es) s
    unmoved : (es : List Entry) → world_after w (out ++ es) ≡ world_after w es
    exact : (first last : Running) (es : List Entry) → IsChain EntryGoes first es last → IsChain EntryGoes first (out ++ es) last
    jobs : (es : List Entry) → jobs_of (out ++ es) ≡ jobs_of es

  reads_whole : Reads (reading_steps user slot all AllRead)
  reads_whole = record { legal = read_legal; opened = read_opened; closed = read_closed; others = read_others; apart = read_apart; unmoved = read_unmoved; exact = read_exact; jobs = read_jobs }

  reads_part : (k : ℕ) → 1000 * k ≤ length all → Reads (reading_steps user slot all (Lacking k))
  reads_part k fits = record { legal = λ es. part_legal k es fits; opened = part_opened k; closed = part_closed k; others = λ other. part_others other k; apart = λ s away. part_apart s away k; unmoved = part_unmoved k; exact = part_exact k; jobs = part_jobs k }

  reads_to : (end : ReadingEnd) → CanEnd all end → Reads (reading_steps user slot all end)
  reads_to AllRead fits = reads_whole
  reads_to (Lacking k) fits = reads_part k fits

-- ---- the Open
-- the script with another core, and this kept for its users
abbrev pub with_sessions : ScriptState → CoreContents → Keeping → ScriptState
with_sessions s core kept = record { core = core; asker = s.asker; kept = kept; jobs = s.jobs }

-- what is kept for the asker
abbrev pub own_kept : ScriptState → UserSessions
own_kept s = kept_of s.kept s.asker.user

-- the script has room for a session as histories have
room_alike : (s : ScriptState) (w : World) (h : List Entry) (numbers : Numbers) → ScriptRefines s numbers w h → is_full (moves_of w s.asker.user h) ≡ is_spent (own_kept s)
room_alike s w h numbers refines = spent_alike (moves_of w s.asker.user h) (numbers s.asker.user) (own_kept s) (refines.sessions s.asker.user)

pub legal_open : (s : ScriptState) (core : CoreContents) (scan : Scan) (reply : Reply OpenSession TabletMerge) (w : World) (h : List Entry) (numbers : Numbers) → is_spent (own_kept s) ≡ false → Steps (base_of s.core) (event_by s.asker (Open scan)) reply (base_of core)
    → ScriptRefines s numbers w h → IsAnswer w h h (IsEvent (event_by s.asker (Open scan))) (told_of reply) ⊎ LacksMemory (IsEvent (event_by s.asker (Open scan))) (told_of reply)
legal_open s core scan reply w h numbers room steps refines = steps.answers w h refines.core h (λ yes. room_alike s w h numbers refines ∙ room, tt)

-- the session's cells are those that are defined
scanned_text : (session : OpenSession) (all : List Cell) (text : List ℕ) → session ≡ new_session all → IsReadingText (left_of session.state) text → IsReadingText all text
scanned_text session all text is rest = subst (λ (s : OpenSession). IsReadingText (left_of s.state) text) is rest

opened_scans : (who : Asker) (w : World) (h : List Entry) (scan : Scan) (all : List Cell) (end : ReadingEnd) (text : List ℕ) → all ≡ session_list w.base (journal w h) (Open scan) → CanEnd all end → text ≡ reading_text all end
    → ScanSteps who w h (event_by who (Open scan)) (Opened tt) (reading_steps who.user (opened (moves_of w who.user h)) all end ++ entry (event_by who (Open scan)) (Opened tt) ∷ []) text
unfolding journal
opened_scans who w h scan all end text is fits t = (
  end,
  subst (λ (xs : List Cell). CanEnd xs end) is fits,
  t ∙ ap (λ (xs : List Cell). reading_text xs end) is,
  ap (λ (xs : List Cell). reading_steps who.user (opened (moves_of w who.user h)) xs end ++ entry (event_by who (Open scan)) (Opened tt) ∷ []) is,
)

-- ---- what is kept for all users, where one of them moved
pub kept_by_user : (w : World) (user : List ℕ) (h later : List Entry) (numbers after : Numbers) (old new : Keeping) (kept : UserSessions) → KeepsFor user kept old new
    → ((n : List ℕ) → bytes_eq user n ≡ false → moves_of w n later ≡ moves_of w n h) → ((n : List ℕ) → bytes_eq user n ≡ false → after n ≡ numbers n)
    → KeptAre (moves_of w user later) (after user) kept → ((n : List ℕ) → KeptAre (moves_of w n h) (numbers n) (kept_of old n)) → (n : List ℕ) → KeptAre (moves_of w n later) (after n) (kept_of new n)
kept_by_user w user h later numbers after old new kept keeps others same own all n = go (bytes_eq user n) refl
  where
    mine : kept_of new user ≡ kept
    mine = keeps user ∙ ap (λ (b : Bool). cond b kept (kept_of old user)) (bytes_self user)

    go : (b : Bool) → bytes_eq user n ≡ b → KeptAre (moves_of w n later) (after n) (kept_of new n)
    go true is = subst (λ (m : List ℕ). KeptAre (moves_of w m later) (after m) (kept_of new m)) ((bytes_eq-Decides user n).0 is) (subst (λ (k : UserSessions). KeptAre (moves_of w user later) (after user) k) (sym mine) own)
    go false away =
        let k : kept_of new n ≡ kept_of old n = keeps n ∙ ap (λ (b : Bool). cond b kept (kept_of old n)) away in
        subst (λ (x : UserSessions). KeptAre (moves_of w n later) (after n) x) (sym k)
        (subst (λ (x : List ℕ). KeptAre (moves_of w n later) x (kept_of old n)) (sym (same n away)) (subst (λ (ms : List Move). KeptAre ms (numbers n) (kept_of old n)) (sym (others n away)) (all n)))

-- the moves of an opened session that was read out
module _ (w : World) (who : Asker) (h : List Entry) (scan : Scan) (out : List Entry) where
  abbrev all_cells : List Cell
  all_cells = session_list w.base (journal w h) (Open scan)

  abbrev begins : List Entry
  begins = entry (event_by who (Open scan)) (Opened tt) ∷ h

  abbrev scanned : List Entry
  scanned = out ++ begins

  abbrev ReadsIt : Type 0
  ReadsIt = Reads w who.user (opened (moves_of w who.user h)) all_cells out

  others_unmoved : ReadsIt → (other : List ℕ) → bytes_eq who.user other ≡ false → moves_of w other scanned ≡ moves_of w other h
  others_unmoved reads other not = reads.others other begins not ∙ other_moves w other (entry (event_by who (Open scan)) (Opened tt)) h not

  scan_kept : ReadsIt → (slots : List ℕ) (kept : UserSessions) → KeptAre (moves_of w who.user h) slots kept → KeptAre (moves_of w who.user scanned) slots (record kept { scanned = kept.scanned + 1 })
  scan_kept reads slots kept are =
      let before : List Move = moves_of w who.user h in
      let moved : moves_of w who.user begins ≡ Opening all_cells ∷ before = open_moves w who h scan tt in
      kept_scanned before (moves_of w who.user scanned) slots kept are
      (reads.opened begins ∙ ap opened moved ∙ opening_opened before all_cells)
      (reads.closed begins ∙ ap (λ n. n + 1) (ap closed moved ∙ opening_closed before all_cells))
      (λ s other.
      let away : (opened before == s) ≡ false = differ (opened before) s (λ is. other (sym is)) in
      reads.apart s away begins ∙ ap (λ ms. session_in ms s) moved ∙ opening_apart before all_cells s away)

pub scan_answered : (s : ScriptState) (core : CoreContents) (kept : Keeping) (scan : Scan) (session : OpenSession) (text : List ℕ) → is_spent (own_kept s) ≡ false → Steps (base_of s.core) (event_by s.asker (Open scan)) (Opened session) (base_of core)
    → OpensExactly s core scan (Opened tt)
    → KeepsFor s.asker.user (record (own_kept s) { scanned = (own_kept s).scanned + 1 }) s.kept kept
    → IsReadingText (left_of session.state) text → ScriptAnswersLine s (Ok (line.Scan scan)) text (with_sessions s core kept)
scan_answered s core kept scan session text room steps exact keeps rest = record {
  asker = refl;
  extends = λ w h numbers refines legal.
      let user : List ℕ = s.asker.user in
      let e : Entry = entry (event_by s.asker (Open scan)) (Opened tt) in
      let all : List Cell = session_list w.base (journal w h) (Open scan) in
      let slot : ℕ = opened (moves_of w user h) in
      let first : List Entry = e ∷ h in
      let read = scanned_text session all text (steps.hands w h refines.core) rest in
      let out : List Entry = reading_steps user slot all read.0 in
      let reads : Reads w user slot all out = reads_to w user slot all read.0 read.1 in
      let moved : moves_of w user first ≡ Opening all ∷ moves_of w user h = open_moves w s.asker h scan tt in
      let begun : Legal w first = (legal, legal_open s core scan (Opened session) w h numbers room steps refines) in
      let held : session_in (moves_of w user first) slot ≡ Some (record { all = all; given = 0 }) = ap (λ ms. session_in ms slot) moved ∙ session_opened (moves_of w user h) all in
      let whole : (out ++ e ∷ []) ++ h ≡ out ++ first = append_assoc out (e ∷ []) h in
      let after : Refines (world_of (base_of core)) (world_after w (out ++ first)) = subst (λ (v : World). Refines (world_of (base_of core)) v) (sym (reads.unmoved first)) (steps.refines w h refines.core) in
      let new : ScriptState = with_sessions s core kept in
      let own : KeptAre (moves_of w user (out ++ first)) (numbers user) (record (own_kept s) { scanned = (own_kept s).scanned + 1 }) = scan_kept w s.asker h scan out reads (numbers user) (own_kept s) (refines.sessions user) in
      let stood : ScriptRefines new numbers w (out ++ first) = record {
        core = after;
        sessions = kept_by_user w user h (out ++ first) numbers numbers s.kept kept (record (own_kept s) { scanned = (own_kept s).scanned + 1 }) keeps (others_unmoved w s.asker h scan out reads) (λ n away. refl) own refines.sessions;
        jobs = subst (λ (ms : List JobMove). JobsAre ms s.jobs) (sym (reads.jobs first)) (jobs_stay s.jobs e h refl refines.jobs);
      } in (
        out ++ e ∷ [],
        (Opened tt, opened_scans s.asker w h scan all read.0 text refl read.1 read.2),
        record {
          legal = subst (λ (es : List Entry). Legal w es) (sym whole) (reads.legal first begun held);
          exact = λ merges holds. let x = exact merges holds in (x.0, x.1, reads.exact (run_of s.core merges) (run_of core x.0) (e ∷ []) x.2);
          refines = subst (λ (es : List Entry). ScriptRefines new numbers w es) (sym whole) stood;
        },
      );
}

-- ---- what isn't opened
-- an Open is answered so, or refused
open_told : (o : Option Refusal) (scan : Scan) → (told o (Opened tt) ≡ Opened tt) ⊎ ((r : Refusal) × (told o (Opened tt) ≡ Refused r))
open_told None scan = inl refl
open_told (Some r) scan = inr (r, refl)

-- nothing else
not_done : (w : World) (h : List Entry) (who : Asker) (scan : Scan) (reply : Told) → IsAnswer w h h (IsEvent (event_by who (Open scan))) reply ⊎ LacksMemory (IsEvent (event_by who (Open scan))) reply → (reply ≡ Opened tt) ⊎ ((r : Refusal) × (reply ≡ Refused r))
unfolding answer
not_done w h who scan reply (inr x) = inr (NoMemory, x.1)
not_done w h who scan reply (inl is) =
    let now = clock_at (clock_of w h) (IsEvent (event_by who (Open scan))) in
    let o : Option Refusal = refusal_of (standing w.base (journal w h) who.user) (exists_in w.base (journal w h) (user_named (Open scan))) now who.user (Open scan) in
    let one : reply ≡ answer_at w h h (IsEvent (event_by who (Open scan))) = closed_reply (IsEvent (event_by who (Open scan))) (answer_at w h h (IsEvent (event_by who (Open scan)))) reply refl is in
    subst (λ (t : Told). (t ≡ Opened tt) ⊎ ((r : Refusal) × (t ≡ Refused r))) (sym one) (go (is_full (moves_of w who.user h)) o)
  where
    go : (b : Bool) (o : Option Refusal) → (cond (true && b) (Refused (TooLarge Sessions)) (told o (Opened tt)) ≡ Opened tt) ⊎ ((r : Refusal) × (cond (true && b) (Refused (TooLarge Sessions)) (told o (Opened tt)) ≡ Refused r))
    go true o = inr (TooLarge Sessions, refl)
    go false o = open_told o scan

abbrev with_new_core : ScriptState → CoreContents → ScriptState
with_new_core s core = record s { core = core }

pub refused_stands : (s : ScriptState) (core : CoreContents) (scan : Scan) (r : Refusal) (w : World) (h : List Entry) (numbers : Numbers) → Refines (world_of (base_of core)) (world_after w (entry (event_by s.asker (Open scan)) (Refused r) ∷ h)) → ScriptRefines s numbers w h
    → ScriptRefines (with_new_core s core) numbers w (entry (event_by s.asker (Open scan)) (Refused r) ∷ h)
refused_stands s core scan r w h numbers after refines =
    let moves = λ (n : List ℕ). refused_moves w n s.asker h scan r in
    record {
      core = after;
      sessions = λ n. subst (λ (ms : List Move). KeptAre ms (numbers n) (kept_of s.kept n)) (sym (moves n)) (refines.sessions n);
      jobs = jobs_stay s.jobs (entry (event_by s.asker (Open scan)) (Refused r)) h refl refines.jobs;
    }

refused_answered : (s : ScriptState) (core : CoreContents) (scan : Scan) (r : Refusal) → is_spent (own_kept s) ≡ false → Steps (base_of s.core) (event_by s.asker (Open scan)) (Refused r) (base_of core) → OpensExactly s core scan (Refused r)
    → ScriptAnswersLine s (Ok (line.Scan scan)) (refusal_text r) (with_new_core s core)
refused_answered s core scan r room steps exact = record {
  asker = refl;
  extends = λ w h numbers refines legal. (
    entry (event_by s.asker (Open scan)) (Refused r) ∷ [],
    (Refused r, (refl, refl)),
    record {
      legal = (legal, legal_open s core scan (Refused r) w h numbers room steps refines);
      exact = exact;
      refines = refused_stands s core scan r w h numbers (steps.refines w h refines.core) refines;
    },
  );
}

-- an Open isn't answered otherwise
abbrev Opens : Told → Type 0
Opens (Refused r) = Unit {0}
Opens (Opened u) = Unit {0}
Opens reply = ⊥

opens : (reply : Told) → (reply ≡ Opened tt) ⊎ ((r : Refusal) × (reply ≡ Refused r)) → Opens reply
opens reply (inl e) = subst Opens (sym e) tt
opens reply (inr e) = subst Opens (sym e.1) tt

-- what refines no history answers each line
never : (s : ScriptState) (core : CoreContents) (scan : Scan) (text : List ℕ) → ((w : World) (h : List Entry) (numbers : Numbers) → ScriptRefines s numbers w h → ⊥) → ScriptAnswersLine s (Ok (line.Scan scan)) text (with_new_core s core)
never s core scan text nowhere = record { asker = refl; extends = λ w h numbers refines legal. absurd (nowhere w h numbers refines) }

-- each reply but an opened session
pub kept_answered : (s : ScriptState) (core : CoreContents) (scan : Scan) (reply : Reply OpenSession TabletMerge) → is_spent (own_kept s) ≡ false → Steps (base_of s.core) (event_by s.asker (Open scan)) reply (base_of core) → OpensExactly s core scan (told_of reply) → ((session : OpenSession) → reply ≡ Opened session → ⊥)
    → ScriptAnswersLine s (Ok (line.Scan scan)) (reply_text (told_of reply)) (with_new_core s core)
kept_answered s core scan (Refused r) lt steps exact other = refused_answered s core scan r lt steps exact
kept_answered s core scan (Opened session) lt steps exact other = absurd (other session refl)
kept_answered s core scan reply lt steps exact other = never s core scan (reply_text (told_of reply)) (λ w h numbers refines. opens (told_of reply) (not_done w h s.asker scan (told_of reply) (legal_open s core scan reply w h numbers lt steps refines)))

-- ---- a full list of sessions
spent_right : (w : World) (h : List Entry) (who : Asker) (scan : Scan) → is_full (moves_of w who.user h) ≡ true → IsAnswer w h h (IsEvent (event_by who (Open scan))) (Refused (TooLarge Sessions))
unfolding answer
spent_right w h who scan full =
    let event : Event = event_by who (Open scan) in
    subst (λ (x : Told). IsEventReply (Open scan) x (Refused (TooLarge Sessions)))
    (sym (ap (λ (b : Bool). cond (true && b) (Refused (TooLarge Sessions)) (event_answer w.base (journal w h) (clock_at (clock_of w h) (IsEvent event)) who.user (Open scan))) full)) refl

pub spent_answered : (s : ScriptState) (scan : Scan) → is_spent (own_kept s) ≡ true → ScriptAnswersLine s (Ok (line.Scan scan)) (refusal_text (TooLarge Sessions)) s
spent_answered s scan spent = record {
  asker = refl;
  extends = λ w h numbers refines legal.
      let e : Entry = entry (event_by s.asker (Open scan)) (Refused (TooLarge Sessions)) in
      let after : Refines (world_of (base_of s.core)) (world_after w (e ∷ h)) = subst (λ (v : World). Refines (world_of (base_of s.core)) v) (sym (unmoved w h e tt)) refines.core in (
        e ∷ [],
        (Refused (TooLarge Sessions), (refl, refl)),
        record {
          legal = (legal, inl (spent_right w h s.asker scan (room_alike s w h numbers refines ∙ spent)));
          exact = stays_exact s.core s.jobs e.step e.reply tt;
          refines = refused_stands s s.core scan (TooLarge Sessions) w h numbers after refines;
        },
      );
}

pub spent_opens : (s : ScriptState) (scan : Scan) → is_spent (own_kept s) ≡ true → ScriptAnswersLine s (Ok (line.Open scan)) (refusal_text (TooLarge Sessions)) s
spent_opens s scan spent = record {
  asker = refl;
  extends = λ w h numbers refines legal.
      let e : Entry = entry (event_by s.asker (Open scan)) (Refused (TooLarge Sessions)) in
      let after : Refines (world_of (base_of s.core)) (world_after w (e ∷ h)) = subst (λ (v : World). Refines (world_of (base_of s.core)) v) (sym (unmoved w h e tt)) refines.core in (
        e ∷ [],
        (Refused (TooLarge Sessions), refl, refl),
        record {
          legal = (legal, inl (spent_right w h s.asker scan (room_alike s w h numbers refines ∙ spent)));
          exact = stays_exact s.core s.jobs e.step e.reply tt;
          refines = refused_stands s s.core scan (TooLarge Sessions) w h numbers after refines;
        },
      );
}

-- ---- no memory to keep a session
pub starved_answered : (s : ScriptState) (scan : Scan) → ScriptAnswersLine s (Ok (line.Scan scan)) (refusal_text NoMemory) s
starved_answered s scan = record {
  asker = refl;
  extends = λ w h numbers refines legal.
      let e : Entry = entry (event_by s.asker (Open scan)) (Refused NoMemory) in
      let after : Refines (world_of (base_of s.core)) (world_after w (e ∷ h)) = subst (λ (v : World). Refines (world_of (base_of s.core)) v) (sym (unmoved w h e tt)) refines.core in (
        e ∷ [],
        (Refused NoMemory, (refl, refl)),
        record {
          legal = (legal, inr (refl, refl));
          exact = stays_exact s.core s.jobs e.step e.reply tt;
          refines = refused_stands s s.core scan NoMemory w h numbers after refines;
        },
      );
}

pub starved_opens : (s : ScriptState) (scan : Scan) → ScriptAnswersLine s (Ok (line.Open scan)) (refusal_text NoMemory) s
starved_opens s scan = record {
  asker = refl;
  extends = λ w h numbers refines legal.
      let e : Entry = entry (event_by s.asker (Open scan)) (Refused NoMemory) in
      let after : Refines (world_of (base_of s.core)) (world_after w (e ∷ h)) = subst (λ (v : World). Refines (world_of (base_of s.core)) v) (sym (unmoved w h e tt)) refines.core in (
        e ∷ [],
        (Refused NoMemory, refl, refl),
        record {
          legal = (legal, inr (refl, refl));
          exact = stays_exact s.core s.jobs e.step e.reply tt;
          refines = refused_stands s s.core scan NoMemory w h numbers after refines;
        },
      );
}

-- ---- the same kept otherwise
-- the script with this kept for its users
abbrev pub with_kept : ScriptState → Keeping → ScriptState
with_kept s kept = record s { kept = kept }

-- a script that reads the same refines the same
rekept : (s : ScriptState) (kept : Keeping) (numbers : Numbers) (w : World) (h : List Entry) → ((n : List ℕ) → kept_of kept n ≡ kept_of s.kept n) → ScriptRefines s numbers w h → ScriptRefines (with_kept s kept) numbers w h
rekept s kept numbers w h same refines = record { core = refines.core; sessions = λ n. subst (λ (k : UserSessions). KeptAre (moves_of w n h) (numbers n) k) (sym (same n)) (refines.sessions n); jobs = refines.jobs }

-- what it was answered stays so where the script that it left reads the same
pub recounted : (s new : ScriptState) (kept : Keeping) (said : Result Line ParseError) (text : List ℕ) → ((n : List ℕ) → kept_of kept n ≡ kept_of new.kept n)
    → ScriptAnswersLine s said text new → ScriptAnswersLine s said text (with_kept new kept)
recounted s new kept said text same answered = record {
  asker = answered.asker;
  extends = λ w h numbers refines legal.
      let x = answered.extends w h numbers refines legal in
      (x.0, x.1, record { legal = x.2.legal; exact = x.2.exact; refines = rekept new kept (numbers_after s.asker numbers w h said x.0) w (x.0 ++ h) same x.2.refines });
}

-- all is kept as it was, where this is what was kept for the user
pub kept_same : (user : List ℕ) (own : UserSessions) (old new : Keeping) → KeepsFor user own old new → kept_of old user ≡ own → (n : List ℕ) → kept_of new n ≡ kept_of old n
kept_same user own old new keeps is n = go (bytes_eq user n) refl
  where
    go : (b : Bool) → bytes_eq user n ≡ b → kept_of new n ≡ kept_of old n
    go true same = keeps n ∙ ap (λ (b : Bool). cond b own (kept_of old n)) same ∙ sym is ∙ ap (kept_of old) ((bytes_eq-Decides user n).0 same)
    go false away = keeps n ∙ ap (λ (b : Bool). cond b own (kept_of old n)) away
