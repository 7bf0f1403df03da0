-- To be believed by whoever relies on it. The sessions that a run keeps for its users.
use Rattle.std.specs.Prelude.{ℕ, zero, suc, ◌≡◌, ◌+◌, Bool, List, [], ◌∷◌, Option, None, option_map, ◌⊎◌, length, is_some, count_by, nat_le, ◌||◌, reverse}
use Rattle.tab_key.specs.declared.range.Bounds.{Bounds}
use Rattle.tab_history.specs.declared.event.Step.{Step}
use Rattle.tab_history.specs.declared.reply.Refusal.TheVariants.{NoMemory}
use Rattle.tab_history.specs.declared.reply.Reply.TheVariants.{Done, Refused, Batch}
use Rattle.tab_history.specs.Answers.{Told, next_answer, many_answer, close_answer}
use Rattle.tab_cells.specs.SessionState.{SessionState, gave}
use Rattle.tab_history.specs.Sessions.{Move, opened, closed, session_in}
use Rattle.tab_history.specs.Histories.{Entry}

-- the session in a slot, if it is there and open
abbrev pub slot_at : List (Option SessionState) → ℕ → Option SessionState
slot_at [] k = None
slot_at (s ∷ ss) zero = s
slot_at (s ∷ ss) (suc k) = slot_at ss k

-- the slots with this one changed
abbrev pub changed_at : List (Option SessionState) → ℕ → (Option SessionState → Option SessionState) → List (Option SessionState)
changed_at [] k f = []
changed_at (s ∷ ss) zero f = f s ∷ ss
changed_at (s ∷ ss) (suc k) f = s ∷ changed_at ss k f

-- the slots after this reply to a Next
abbrev pub after_next : List (Option SessionState) → ℕ → Told → List (Option SessionState)
after_next slots k (Batch cells) = changed_at slots k (option_map (gave (length cells)))
after_next slots k _ = slots

-- the slots after this reply to a Close
abbrev pub after_close : List (Option SessionState) → ℕ → Told → List (Option SessionState)
after_close slots k Done = changed_at slots k (λ s. None)
after_close slots k _ = slots

-- a Next is answered from its slot, or memory lacked
pub record NextFrom (old : List (Option SessionState)) (k count : ℕ) (reply : Told) (new : List (Option SessionState)) : Type 0 where
  pub answers : (reply ≡ next_answer (slot_at old k) k count) ⊎ (reply ≡ Refused NoMemory)
  pub after : new ≡ after_next old k reply

-- a Many is answered from its slot, or memory lacked; the slots stay as they are
abbrev pub ManyFrom : List (Option SessionState) → ℕ → List Bounds → Told → Type 0
ManyFrom slots k ranges reply = (reply ≡ many_answer (slot_at slots k) k ranges) ⊎ (reply ≡ Refused NoMemory)

-- a Close is answered from its slot
pub record CloseFrom (old : List (Option SessionState)) (k : ℕ) (reply : Told) (new : List (Option SessionState)) : Type 0 where
  pub answers : reply ≡ close_answer (slot_at old k) k
  pub after : new ≡ after_close old k reply

-- no session can be opened any more
abbrev pub are_full : List (Option SessionState) → Bool
are_full slots = nat_le 65536 (count_by is_some slots) || nat_le 4294967295 (length slots)

-- the slots of one user are what these moves made of them
pub record SlotsAre (moves : List Move) (slots : List (Option SessionState)) : Type 0 where
  pub count : opened moves ≡ length slots
  pub left : closed moves + count_by is_some slots ≡ opened moves
  pub sessions : (k : ℕ) → session_in moves k ≡ slot_at slots k

-- the steps with their replies, in order
abbrev pub entries_of : List Step → List Told → List Entry
entries_of [] replies = []
entries_of (step ∷ steps) [] = []
entries_of (step ∷ steps) (reply ∷ replies) = record { step = step; reply = reply } ∷ entries_of steps replies

-- the history of the steps with their replies, the last one first
abbrev pub history_of : List Step → List Told → List Entry
history_of steps replies = reverse (entries_of steps replies)
