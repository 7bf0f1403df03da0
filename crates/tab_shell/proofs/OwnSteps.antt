-- The lines next, many and close: one step each of a session that the script keeps.
use Rattle.std.proofs.Common.{ℕ, ◌≡◌, Bool, true, false, cond, ◌⊎◌, inl, inr, List, [], ◌∷◌, length, refl, sym, ap, ◌∙◌, subst, Option, Some, None, Ok}
use Rattle.std.specs.Prelude.{bytes_eq, option_map, nat_lt}
use Rattle.std.proofs.lemmas.Slice.Eq.{bytes_eq-Decides}
use Rattle.tab_key.specs.Records.{Cell}
use Rattle.tab_key.specs.declared.range.Bounds.{Bounds}
use Rattle.tab_key.specs.declared.limited_part.LimitedPart.TheVariants.{Ranges as Bands}
use Rattle.tab_cells.specs.SessionState.{SessionState, batch, gave, in_ranges}
use Rattle.tab_history.specs.declared.event.Step.{Step}
use Rattle.tab_history.specs.declared.event.Step.TheVariants.{Next, Many, Close}
use Rattle.tab_history.specs.declared.reply.Refusal.{Refusal}
use Rattle.tab_history.specs.declared.reply.Refusal.TheVariants.{NoMemory, NoSession, TooLarge, BadRange}
use Rattle.tab_history.specs.declared.reply.Reply.TheVariants.{Done, Refused, Batch, Ranges}
use Rattle.tab_history.specs.Checks.{has_bad_range}
use Rattle.tab_history.specs.Answers.{Told, told, answer, next_answer, ranges_told, many_answer, close_answer, job_moves_by}
use Rattle.tab_history.specs.Sessions.{Move, Taking, Closing, session_in}
use Rattle.tab_history.specs.Histories.{Entry, World, world_of, is_by, moves_of}
use Rattle.tab_history.specs.Legal.{Legal, IsAnswer, LacksMemory}
use Rattle.tab_history.specs.Refinement.{Refines}
use Rattle.tab_history.specs.Runs.{IsNoEvent}
use Rattle.tab_history.proofs.Playing.{unmoved}
use Rattle.tab_core.specs.Shape.{first_some, when}
use Rattle.tab_core.specs.Stores.{base_of}
use Rattle.tab_core.specs.Slots.{slot_at, changed_at, after_next, after_close}
use Rattle.tab_lines.specs.declared.line.Line.TheVariants as line
use Rattle.tab_core.specs.declared.sessions.UserSessions.{UserSessions}
use Rattle.tab_core.specs.Sessions.{Keeping, kept_of, KeepsFor, NextIn, ManyIn, CloseIn}
use Rattle.tab_shell.specs.Numbers.{Numbers, KeptAre}
use Rattle.tab_replies.specs.Texts.{reply_text, next_text, renumbered}
use Rattle.tab_shell.specs.Scripts.{ScriptState, ScriptRefines, ScriptGoes, ScriptAnswersLine, slot_of, own_entry}
use Rattle.tab_shell.proofs.Saying.{same_cond}
use Rattle.tab_core.proofs.JobLemmas.{stays_exact}
use Rattle.tab_shell.proofs.JobSteps.{jobs_stay}
use Rattle.tab_shell.proofs.Keeping.{kept_taken, kept_closed}
use Rattle.tab_shell.proofs.Scanning.{own_kept, with_kept, bytes_self, other_moves, kept_by_user}

-- ---- one step, which is no event
one_more : (s : ScriptState) (kept : Keeping) (own : UserSessions) (w : World) (h : List Entry) (numbers : Numbers) (step : Step) (reply : Told) → ((n : List ℕ) → is_by n step ≡ bytes_eq s.asker.user n) → ScriptRefines s numbers w h → Legal w h
    → IsAnswer w h h step reply ⊎ LacksMemory step reply → IsNoEvent step reply → job_moves_by step reply ≡ [] → KeepsFor s.asker.user own s.kept kept → KeptAre (moves_of w s.asker.user (own_entry step reply ∷ h)) (numbers s.asker.user) own
    → ScriptGoes s w h (own_entry step reply ∷ []) numbers (with_kept s kept)
one_more s kept own w h numbers step reply by refines legal right still none keeps are =
    let e : Entry = own_entry step reply in
    record {
      legal = (legal, right);
      exact = stays_exact s.core s.jobs step reply still;
      refines = record {
        core = subst (λ (v : World). Refines (world_of (base_of s.core)) v) (sym (unmoved w h e still)) refines.core;
        sessions = kept_by_user w s.asker.user h (e ∷ h) numbers numbers s.kept kept own keeps (λ n away. other_moves w n e h (by n ∙ away)) (λ n away. refl) are refines.sessions;
        jobs = jobs_stay s.jobs e h none refines.jobs;
      };
    }

-- where it moves no session, what is kept for the asker is what it was
same_moves : (s : ScriptState) (w : World) (h : List Entry) (numbers : Numbers) (e : Entry) (own : UserSessions) → moves_of w s.asker.user (e ∷ h) ≡ moves_of w s.asker.user h → own ≡ own_kept s → ScriptRefines s numbers w h
    → KeptAre (moves_of w s.asker.user (e ∷ h)) (numbers s.asker.user) own
same_moves s w h numbers e own moves same refines =
    subst (λ (k : UserSessions). KeptAre (moves_of w s.asker.user (e ∷ h)) (numbers s.asker.user) k) (sym same) (subst (λ (ms : List Move). KeptAre ms (numbers s.asker.user) (own_kept s)) (sym moves) (refines.sessions s.asker.user))

-- the slots with others in their place
abbrev with_slots : UserSessions → List (Option SessionState) → UserSessions
with_slots kept slots = record kept { numbered = slots }

-- a refused step moves none
next_refused : (w : World) (user : List ℕ) (h : List Entry) (slot n : ℕ) (r : Refusal) → moves_of w user (own_entry (Next user slot n) (Refused r) ∷ h) ≡ moves_of w user h
unfolding moves_of
next_refused w user h slot n r = same_cond (bytes_eq user user) (moves_of w user h)

close_refused : (w : World) (user : List ℕ) (h : List Entry) (slot : ℕ) (r : Refusal) → moves_of w user (own_entry (Close user slot) (Refused r) ∷ h) ≡ moves_of w user h
unfolding moves_of
close_refused w user h slot r = same_cond (bytes_eq user user) (moves_of w user h)

many_still : (w : World) (user : List ℕ) (h : List Entry) (slot : ℕ) (ranges : List Bounds) (reply : Told) → moves_of w user (own_entry (Many user slot ranges) reply ∷ h) ≡ moves_of w user h
unfolding moves_of
many_still w user h slot ranges reply = same_cond (bytes_eq user user) (moves_of w user h)

next_taken : (w : World) (user : List ℕ) (h : List Entry) (slot n : ℕ) (cells : List Cell) → moves_of w user (own_entry (Next user slot n) (Batch cells) ∷ h) ≡ Taking slot (length cells) ∷ moves_of w user h
unfolding moves_of
next_taken w user h slot n cells = ap (λ (t : Bool). cond t (Taking slot (length cells) ∷ moves_of w user h) (moves_of w user h)) (bytes_self user)

close_done : (w : World) (user : List ℕ) (h : List Entry) (slot : ℕ) → moves_of w user (own_entry (Close user slot) Done ∷ h) ≡ Closing slot ∷ moves_of w user h
unfolding moves_of
close_done w user h slot = ap (λ (t : Bool). cond t (Closing slot ∷ moves_of w user h) (moves_of w user h)) (bytes_self user)

-- ---- the answers of the slot that a number stands for
module _ (s : ScriptState) (w : World) (h : List Entry) (numbers : Numbers) (number : ℕ) where
  abbrev slot : ℕ
  slot = slot_of s.asker numbers w h number

  -- the slot holds what is kept under the number
  held_alike : (o : Option SessionState) → slot_at (own_kept s).numbered number ≡ o → ScriptRefines s numbers w h → session_in (moves_of w s.asker.user h) slot ≡ o
  held_alike o is refines = (refines.sessions s.asker.user).sessions number ∙ is

  next_right : (count : ℕ) (o : Option SessionState) → session_in (moves_of w s.asker.user h) slot ≡ o → IsAnswer w h h (Next s.asker.user slot count) (next_answer o slot count)
  unfolding answer
  next_right count o is = sym (ap (λ x. next_answer x slot count) is)

  many_right : (ranges : List Bounds) (o : Option SessionState) → session_in (moves_of w s.asker.user h) slot ≡ o → IsAnswer w h h (Many s.asker.user slot ranges) (many_answer o slot ranges)
  unfolding answer
  many_right ranges o is = sym (ap (λ x. many_answer x slot ranges) is)

  close_right : (o : Option SessionState) → session_in (moves_of w s.asker.user h) slot ≡ o → IsAnswer w h h (Close s.asker.user slot) (close_answer o slot)
  unfolding answer
  close_right o is = sym (ap (λ x. close_answer x slot) is)

-- ---- next
pub next_answered : (s : ScriptState) (kept : Keeping) (number count : ℕ) (reply : Told) → NextIn s.kept s.asker.user number count reply kept → ScriptAnswersLine s (Ok (line.Next number count)) (next_text count reply) (with_kept s kept)
next_answered s kept number count reply (slots, from, keeps) = record {
  asker = refl;
  extends = λ w h numbers refines legal.
      let user : List ℕ = s.asker.user in
      let own : UserSessions = own_kept s in
      let k : ℕ = slot_of s.asker numbers w h number in
      let step : Step = Next user k count in
      elim from.answers as (λ x. (es : List Entry) × ((r : Told) × (es ≡ own_entry step r ∷ []) × (next_text count reply ≡ next_text count (renumbered number r))) × ScriptGoes s w h es numbers (with_kept s kept)) [
        | inr lacks ↦
            let same : slots ≡ own.numbered = from.after ∙ ap (after_next own.numbered number) lacks in
            let are = same_moves s w h numbers (own_entry step (Refused NoMemory)) (with_slots own slots) (next_refused w user h k count NoMemory) (ap (with_slots own) same) refines in
            (own_entry step (Refused NoMemory) ∷ [], (Refused NoMemory, refl, ap (next_text count) lacks), one_more s kept (with_slots own slots) w h numbers step (Refused NoMemory) (λ n. refl) refines legal (inr (refl, refl)) tt refl keeps are)
        | inl is ↦ by_slot w h numbers refines legal (slot_at own.numbered number) refl is
      ];
}
  where
    by_slot : (w : World) (h : List Entry) (numbers : Numbers) → ScriptRefines s numbers w h → Legal w h → (o : Option SessionState) → slot_at (own_kept s).numbered number ≡ o → reply ≡ next_answer o number count
        → (es : List Entry) × ((r : Told) × (es ≡ own_entry (Next s.asker.user (slot_of s.asker numbers w h number) count) r ∷ []) × (next_text count reply ≡ next_text count (renumbered number r))) × ScriptGoes s w h es numbers (with_kept s kept)
    by_slot w h numbers refines legal None found is =
        let user : List ℕ = s.asker.user in
        let own : UserSessions = own_kept s in
        let k : ℕ = slot_of s.asker numbers w h number in
        let step : Step = Next user k count in
        let same : slots ≡ own.numbered = from.after ∙ ap (after_next own.numbered number) is in
        let are = same_moves s w h numbers (own_entry step (Refused (NoSession k))) (with_slots own slots) (next_refused w user h k count (NoSession k)) (ap (with_slots own) same) refines in
        let right : IsAnswer w h h step (Refused (NoSession k)) = next_right s w h numbers number count None (held_alike s w h numbers number None found refines) in
        (own_entry step (Refused (NoSession k)) ∷ [], (Refused (NoSession k), refl, ap (next_text count) is), one_more s kept (with_slots own slots) w h numbers step (Refused (NoSession k)) (λ n. refl) refines legal (inl right) tt refl keeps are)
    by_slot w h numbers refines legal (Some held) found is =
        let user : List ℕ = s.asker.user in
        let own : UserSessions = own_kept s in
        let k : ℕ = slot_of s.asker numbers w h number in
        let step : Step = Next user k count in
        let cells : List Cell = batch held count in
        let after : slots ≡ changed_at own.numbered number (option_map (gave (length cells))) = from.after ∙ ap (after_next own.numbered number) is in
        let taken : KeptAre (Taking k (length cells) ∷ moves_of w user h) (numbers user) (with_slots own slots) =
        subst (λ (ss : List (Option SessionState)). KeptAre (Taking k (length cells) ∷ moves_of w user h) (numbers user) (with_slots own ss)) (sym after) (kept_taken (moves_of w user h) (numbers user) own number (length cells) held (refines.sessions user) found) in
        let are = subst (λ (ms : List Move). KeptAre ms (numbers user) (with_slots own slots)) (sym (next_taken w user h k count cells)) taken in
        let right : IsAnswer w h h step (Batch cells) = next_right s w h numbers number count (Some held) (held_alike s w h numbers number (Some held) found refines) in
        (own_entry step (Batch cells) ∷ [], (Batch cells, refl, ap (next_text count) is), one_more s kept (with_slots own slots) w h numbers step (Batch cells) (λ n. refl) refines legal (inl right) tt refl keeps are)

-- ---- close
pub close_answered : (s : ScriptState) (kept : Keeping) (number : ℕ) (reply : Told) → CloseIn s.kept s.asker.user number reply kept → ScriptAnswersLine s (Ok (line.Close number)) (reply_text reply) (with_kept s kept)
close_answered s kept number reply (slots, from, keeps) = record {
  asker = refl;
  extends = λ w h numbers refines legal. by_slot w h numbers refines legal (slot_at (own_kept s).numbered number) refl from.answers;
}
  where
    by_slot : (w : World) (h : List Entry) (numbers : Numbers) → ScriptRefines s numbers w h → Legal w h → (o : Option SessionState) → slot_at (own_kept s).numbered number ≡ o → reply ≡ close_answer o number
        → (es : List Entry) × ((r : Told) × (es ≡ own_entry (Close s.asker.user (slot_of s.asker numbers w h number)) r ∷ []) × (reply_text reply ≡ reply_text (renumbered number r))) × ScriptGoes s w h es numbers (with_kept s kept)
    by_slot w h numbers refines legal None found is =
        let user : List ℕ = s.asker.user in
        let own : UserSessions = own_kept s in
        let k : ℕ = slot_of s.asker numbers w h number in
        let step : Step = Close user k in
        let same : slots ≡ own.numbered = from.after ∙ ap (after_close own.numbered number) is in
        let are = same_moves s w h numbers (own_entry step (Refused (NoSession k))) (with_slots own slots) (close_refused w user h k (NoSession k)) (ap (with_slots own) same) refines in
        let right : IsAnswer w h h step (Refused (NoSession k)) = close_right s w h numbers number None (held_alike s w h numbers number None found refines) in
        (own_entry step (Refused (NoSession k)) ∷ [], (Refused (NoSession k), refl, ap reply_text is), one_more s kept (with_slots own slots) w h numbers step (Refused (NoSession k)) (λ n. refl) refines legal (inl right) tt refl keeps are)
    by_slot w h numbers refines legal (Some held) found is =
        let user : List ℕ = s.asker.user in
        let own : UserSessions = own_kept s in
        let k : ℕ = slot_of s.asker numbers w h number in
        let step : Step = Close user k in
        let after : slots ≡ changed_at own.numbered number (λ x. None) = from.after ∙ ap (after_close own.numbered number) is in
        let closed : KeptAre (Closing k ∷ moves_of w user h) (numbers user) (with_slots own slots) =
        subst (λ (ss : List (Option SessionState)). KeptAre (Closing k ∷ moves_of w user h) (numbers user) (with_slots own ss)) (sym after) (kept_closed (moves_of w user h) (numbers user) own number held (refines.sessions user) found) in
        let are = subst (λ (ms : List Move). KeptAre ms (numbers user) (with_slots own slots)) (sym (close_done w user h k)) closed in
        let right : IsAnswer w h h step Done = close_right s w h numbers number (Some held) (held_alike s w h numbers number (Some held) found refines) in
        (own_entry step Done ∷ [], (Done, refl, ap reply_text is), one_more s kept (with_slots own slots) w h numbers step Done (λ n. refl) refines legal (inl right) tt refl keeps are)

-- ---- many
-- what refuses ranges says nothing of a session
ranges_named : (held : SessionState) (ranges : List Bounds) (number : ℕ) → renumbered number (ranges_told held ranges) ≡ ranges_told held ranges
ranges_named held ranges number = go (nat_lt 1000 (length ranges)) (has_bad_range ranges)
  where
    go : (a b : Bool) → renumbered number (told (first_some (when a (TooLarge Bands) ∷ when b BadRange ∷ [])) (Ranges (in_ranges held ranges))) ≡ told (first_some (when a (TooLarge Bands) ∷ when b BadRange ∷ [])) (Ranges (in_ranges held ranges))
    go true b = refl
    go false true = refl
    go false false = refl

pub many_answered : (s : ScriptState) (number : ℕ) (ranges : List Bounds) (reply : Told) → ManyIn s.kept s.asker.user number ranges reply → ScriptAnswersLine s (Ok (line.Many number ranges)) (reply_text reply) s
many_answered s number ranges reply from = record {
  asker = refl;
  extends = λ w h numbers refines legal.
      let user : List ℕ = s.asker.user in
      let k : ℕ = slot_of s.asker numbers w h number in
      let step : Step = Many user k ranges in
      elim from as (λ x. (es : List Entry) × ((r : Told) × (es ≡ own_entry step r ∷ []) × (reply_text reply ≡ reply_text (renumbered number r))) × ScriptGoes s w h es numbers s) [
        | inr lacks ↦
            let are = same_moves s w h numbers (own_entry step (Refused NoMemory)) (own_kept s) (many_still w user h k ranges (Refused NoMemory)) refl refines in
            (own_entry step (Refused NoMemory) ∷ [], (Refused NoMemory, refl, ap reply_text lacks), one_more s s.kept (own_kept s) w h numbers step (Refused NoMemory) (λ n. refl) refines legal (inr (refl, refl)) tt refl (keeps_own s) are)
        | inl is ↦ by_slot w h numbers refines legal (slot_at (own_kept s).numbered number) refl is
      ];
}
  where
    keeps_own : (s : ScriptState) → KeepsFor s.asker.user (own_kept s) s.kept s.kept
    keeps_own s n = go (bytes_eq s.asker.user n) refl
      where
        go : (b : Bool) → bytes_eq s.asker.user n ≡ b → kept_of s.kept n ≡ cond b (own_kept s) (kept_of s.kept n)
        go true same = sym (ap (kept_of s.kept) ((bytes_eq-Decides s.asker.user n).0 same))
        go false away = refl

    by_slot : (w : World) (h : List Entry) (numbers : Numbers) → ScriptRefines s numbers w h → Legal w h → (o : Option SessionState) → slot_at (own_kept s).numbered number ≡ o → reply ≡ many_answer o number ranges
        → (es : List Entry) × ((r : Told) × (es ≡ own_entry (Many s.asker.user (slot_of s.asker numbers w h number) ranges) r ∷ []) × (reply_text reply ≡ reply_text (renumbered number r))) × ScriptGoes s w h es numbers s
    by_slot w h numbers refines legal o found is =
        let user : List ℕ = s.asker.user in
        let k : ℕ = slot_of s.asker numbers w h number in
        let step : Step = Many user k ranges in
        let r : Told = many_answer o k ranges in
        let are = same_moves s w h numbers (own_entry step r) (own_kept s) (many_still w user h k ranges r) refl refines in
        let right : IsAnswer w h h step r = many_right s w h numbers number ranges o (held_alike s w h numbers number o found refines) in
        (own_entry step r ∷ [], (r, refl, ap reply_text (is ∙ named o k)), one_more s s.kept (own_kept s) w h numbers step r (λ n. refl) refines legal (inl right) tt refl (keeps_own s) are)
      where
        named : (o : Option SessionState) (k : ℕ) → many_answer o number ranges ≡ renumbered number (many_answer o k ranges)
        named None k = refl
        named (Some held) k = sym (ranges_named held ranges number)
