-- To be believed by whoever relies on it. The slots that the numbers of users' sessions stand for.
use Rattle.std.specs.Prelude.{ℕ, ◌≡◌, ◌+◌, ◌<◌, List, [], ◌∷◌, ◌++◌, length, get_or, count_by, is_some, cond, bytes_eq}
use Rattle.tab_history.specs.Sessions.{Move, opened, closed, session_in}
use Rattle.tab_core.specs.Slots.{slot_at}
use Rattle.tab_core.specs.declared.sessions.UserSessions.{UserSessions}
use Rattle.tab_core.specs.Sessions.{opened_in}

-- the slots that the numbers of each user stand for, in the order of the numbers
abbrev pub Numbers : Type 0
Numbers = List ℕ → List ℕ

-- no number was given yet
abbrev pub no_numbers : Numbers
no_numbers user = []

-- the next number of this user stands for this slot
abbrev pub with_number : Numbers → List ℕ → ℕ → Numbers
with_number numbers user slot n = cond (bytes_eq user n) (numbers n ++ slot ∷ []) (numbers n)

-- The slot that a number stands for. One that wasn't given stands for the slot of the next session, which holds nothing yet.
abbrev pub slot_named : List Move → List ℕ → ℕ → ℕ
slot_named moves slots number = get_or slots number (opened moves)

-- What is kept for a user, and the slots of his numbers, are what these moves made of his sessions.
pub record KeptAre (moves : List Move) (slots : List ℕ) (kept : UserSessions) : Type 0 where
  -- as many were opened, and as many are left
  pub count : opened moves ≡ opened_in kept
  pub left : closed moves + count_by is_some kept.numbered ≡ opened_in kept
  -- each session that is kept has a number, which stands for a slot of its own
  pub given : length slots ≡ length kept.numbered
  pub below : (number : ℕ) → number < length slots → slot_named moves slots number < opened moves
  pub once : (i j : ℕ) → i < length slots → slot_named moves slots i ≡ slot_named moves slots j → i ≡ j
  -- and that slot holds the session
  pub sessions : (number : ℕ) → session_in moves (slot_named moves slots number) ≡ slot_at kept.numbered number
