-- What a connection does for one request stays a legal history, in which its sessions are those that it knows.
use Rattle.std.proofs.Common.{◌≡◌, ◌⊎◌, ℕ, ℤ, pos, true, cond, List, [], ◌∷◌, ◌++◌, refl, sym, ap, subst, ◌∙◌, inl, inr}
use Rattle.std.specs.Prelude.{◌&&◌}
use Rattle.std.proofs.lemmas.Slice.Eq.{bytes_eq-Decides}
use Rattle.tab_key.specs.Records.{Cell}
use Rattle.tab_key.specs.declared.limited_part.LimitedPart.TheVariants.{Sessions}
use Rattle.tab_key.specs.declared.range.Bounds.{Bounds}
use Rattle.tab_history.specs.declared.event.Act.{Act}
use Rattle.tab_history.specs.declared.event.Step.{Step}
use Rattle.tab_history.specs.declared.event.Step.TheVariants as step
use Rattle.tab_history.specs.declared.reply.Refusal.TheVariants as refusal
use Rattle.tab_history.specs.declared.reply.Reply.TheVariants as reply
use Rattle.tab_history.specs.Answers.{Told, answer, event_answer, empty_slot, slotted, is_open, next_answer, many_answer, close_answer, moves_by, session_list, IsEventReply}
use Rattle.tab_history.specs.Bases.{Base}
use Rattle.tab_history.specs.Changes.{Change}
use Rattle.tab_history.specs.Sessions.{Move, is_full, session_in}
use Rattle.tab_history.specs.Histories.{Entry, World, journal, clock_of, clock_at, moves_of, jobs_of, user_of, is_by}
use Rattle.tab_history.specs.Legal.{Legal, IsAnswer, LacksMemory}
use Rattle.tab_wire.specs.Talking.{Exchange, event, moves_told, DoesAct, DoesOwn}
use Rattle.tab_wire.specs.TalkLaws.{IsRight}

-- one more exchange of the user: the history stays legal, and these are his sessions
pub record StaysLegal (w : World) (h : List Entry) (user : List ℕ) (x : Exchange) (new : List Move) : Type 0 where
  pub legal : Legal w (x.entries ++ h)
  pub sessions : moves_of w user (x.entries ++ h) ≡ new

-- ---- what steps do to sessions, with the list of the session that is opened
event_moves : (b : Base) (j : List Change) (user : List ℕ) (moment : ℤ) (a : Act) (told : Told) → moves_by b j (event user moment a) told ≡ moves_told (event user moment a) told (session_list b j a)
event_moves b j user moment a reply.Done = refl
event_moves b j user moment a reply = refl

next_moves : (b : Base) (j : List Change) (user : List ℕ) (slot n : ℕ) (told : Told) → moves_by b j (step.Next user slot n) told ≡ moves_told (step.Next user slot n) told []
next_moves b j user slot n reply.Done = refl
next_moves b j user slot n reply = refl

many_moves : (b : Base) (j : List Change) (user : List ℕ) (slot : ℕ) (ranges : List Bounds) (told : Told) → moves_by b j (step.Many user slot ranges) told ≡ moves_told (step.Many user slot ranges) told []
many_moves b j user slot ranges reply.Done = refl
many_moves b j user slot ranges reply = refl

close_moves : (b : Base) (j : List Change) (user : List ℕ) (slot : ℕ) (told : Told) → moves_by b j (step.Close user slot) told ≡ moves_told (step.Close user slot) told []
close_moves b j user slot reply.Done = refl
close_moves b j user slot reply = refl

-- ---- one exchange of a user whose sessions are known
module _ (w : World) (h : List Entry) (user : List ℕ) (moves : List Move) (x : Exchange) (legal : Legal w h) (sessions : moves_of w user h ≡ moves) where
  -- one entry of the user
  stays : (s : Step) (told : Told) (all : List Cell) → user_of s ≡ user → IsAnswer w h h s told ⊎ LacksMemory s told → moves_by w.base (journal w h) s told ≡ moves_told s told all
      → x.entries ≡ record { step = s; reply = told } ∷ [] → StaysLegal w h user x (moves_told s told all ++ moves)
  unfolding moves_of
  stays s told all by right same one =
      let mine : is_by user s ≡ true = (bytes_eq-Decides (user_of s) user).1 by in
      record {
        legal = subst (λ (es : List Entry). Legal w (es ++ h)) (sym one) (legal, right);
        sessions = ap (λ (es : List Entry). moves_of w user (es ++ h)) one
            ∙ ap (λ b. cond b (moves_by w.base (journal w h) s told ++ moves_of w user h) (moves_of w user h)) mine
            ∙ ap (λ (ms : List Move). ms ++ moves_of w user h) same
            ∙ ap (λ (ms : List Move). moves_told s told all ++ ms) sessions;
      }

  -- an Open past the limit of sessions
  full_right : (moment : ℤ) (a : Act) → (is_open a && is_full moves) ≡ true → IsAnswer w h h (event user moment a) (reply.Refused (refusal.TooLarge Sessions))
  unfolding answer
  full_right moment a full =
      let now : ℤ = clock_at (clock_of w h) (event user moment a) in
      let is : answer w.base (journal w h) (moves_of w user h) (jobs_of h) now (event user moment a) ≡ reply.Refused (refusal.TooLarge Sessions) =
      ap (λ (ms : List Move). answer w.base (journal w h) ms (jobs_of h) now (event user moment a)) sessions
      ∙ ap (λ b. cond b (reply.Refused (refusal.TooLarge Sessions)) (slotted (empty_slot (jobs_of h) a) (event_answer w.base (journal w h) now user a))) full in
      subst (λ (t : Told). IsEventReply a t (reply.Refused (refusal.TooLarge Sessions))) (sym is) refl

  pub act_stays : (a : Act) (new : List Move) → IsRight w h x → DoesAct user moves a x new → StaysLegal w h user x new
  act_stays a new right (inl full) =
      subst (λ (ms : List Move). StaysLegal w h user x ms) (sym full.2)
      (stays (event user (pos 0) a) (reply.Refused (refusal.TooLarge Sessions)) [] refl (inl (full_right (pos 0) a full.0)) refl full.1.entries)
  act_stays a new right (inr room) =
      let moment = room.1.0 in
      let told = room.1.1 in
      let one = room.1.2 in
      let answered = right moment (record { user = user; moment = moment; act = a }) told one.moments one.entries in
      subst (λ (ms : List Move). StaysLegal w h user x ms) (sym room.1.3)
      (stays (event user moment a) told x.all refl answered.0
      (event_moves w.base (journal w h) user moment a told ∙ ap (λ (cells : List Cell). moves_told (event user moment a) told cells) (sym answered.1)) one.entries)

  -- a step on a session: the answer is that of the history
  own_stays : (s : Step) (n : ℕ) (right : Told) (new : List Move) → user_of s ≡ user → ((told : Told) → told ≡ right → IsAnswer w h h s told)
      → ((told : Told) → moves_by w.base (journal w h) s told ≡ moves_told s told []) → DoesOwn moves s n right x new → StaysLegal w h user x new
  own_stays s n right new by answers same does =
      let told = does.0 in
      let fits : IsAnswer w h h s told ⊎ LacksMemory s told = elim does.1 [ inl is ↦ inl (answers told is) | inr lacks ↦ inr lacks ] in
      subst (λ (ms : List Move). StaysLegal w h user x ms) (sym does.3) (stays s told [] by fits (same told) does.2.entries)

  pub next_stays : (slot n : ℕ) (new : List Move) → DoesOwn moves (step.Next user slot n) n (next_answer (session_in moves slot) slot n) x new → StaysLegal w h user x new
  unfolding answer
  next_stays slot n new does =
      own_stays (step.Next user slot n) n (next_answer (session_in moves slot) slot n) new refl (λ told is. is ∙ ap (λ (ms : List Move). next_answer (session_in ms slot) slot n) (sym sessions))
      (next_moves w.base (journal w h) user slot n) does

  pub many_stays : (slot : ℕ) (ranges : List Bounds) (new : List Move) → DoesOwn moves (step.Many user slot ranges) 0 (many_answer (session_in moves slot) slot ranges) x new → StaysLegal w h user x new
  unfolding answer
  many_stays slot ranges new does =
      own_stays (step.Many user slot ranges) 0 (many_answer (session_in moves slot) slot ranges) new refl (λ told is. is ∙ ap (λ (ms : List Move). many_answer (session_in ms slot) slot ranges) (sym sessions))
      (many_moves w.base (journal w h) user slot ranges) does

  pub close_stays : (slot : ℕ) (new : List Move) → DoesOwn moves (step.Close user slot) 0 (close_answer (session_in moves slot) slot) x new → StaysLegal w h user x new
  unfolding answer
  close_stays slot new does =
      own_stays (step.Close user slot) 0 (close_answer (session_in moves slot) slot) new refl (λ told is. is ∙ ap (λ (ms : List Move). close_answer (session_in ms slot) slot) (sym sessions))
      (close_moves w.base (journal w h) user slot) does
