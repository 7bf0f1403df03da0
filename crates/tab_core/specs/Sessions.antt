-- To be believed by whoever relies on it. The sessions that a run or a script keeps for its users.
use Rattle.std.specs.Prelude.{ℕ, ◌≡◌, ◌+◌, Bool, ◌||◌, List, [], length, count_by, is_some, nat_le, cond, bytes_eq, Option, Some, None}
use Rattle.tab_key.specs.declared.range.Bounds.{Bounds}
use Rattle.tab_policy.specs.Entries.{at_name}
use Rattle.tab_cells.specs.SessionState.{SessionState}
use Rattle.tab_history.specs.Answers.{Told}
use Rattle.tab_core.specs.declared.sessions.UserSessions.{UserSessions}
use Rattle.tab_core.specs.Slots.{NextFrom, ManyFrom, CloseFrom}

-- ---- what is kept
-- nothing was opened for him
abbrev pub none_kept : UserSessions
none_kept = record { numbered = []; scanned = 0 }

-- users, each with what is kept for him
abbrev pub Keeping : Type 0
Keeping = List (List ℕ × UserSessions)

-- what was found, and nothing where there was none
abbrev pub kept_in : Option UserSessions → UserSessions
kept_in None = none_kept
kept_in (Some kept) = kept

-- what is kept for this user
abbrev pub kept_of : Keeping → List ℕ → UserSessions
kept_of keeping user = kept_in (at_name user keeping)

-- how many sessions were opened for him
abbrev pub opened_in : UserSessions → ℕ
opened_in kept = length kept.numbered + kept.scanned

-- no session can be opened for him any more: 65,536 are open, or 4,294,967,295 were opened
abbrev pub is_spent : UserSessions → Bool
is_spent kept = nat_le 65536 (count_by is_some kept.numbered) || nat_le 4294967295 (opened_in kept)

-- ---- what is done for one user
-- this is kept for the user now, and for all others what was
abbrev pub KeepsFor : List ℕ → UserSessions → Keeping → Keeping → Type 0
KeepsFor user kept old new = (n : List ℕ) → kept_of new n ≡ cond (bytes_eq user n) kept (kept_of old n)

-- his session of this number answers a Next
abbrev pub NextIn : Keeping → List ℕ → ℕ → ℕ → Told → Keeping → Type 0
NextIn old user number count reply new =
    (slots : List (Option SessionState)) × NextFrom (kept_of old user).numbered number count reply slots × KeepsFor user (record (kept_of old user) { numbered = slots }) old new

-- a Many; all that is kept stays as it is
abbrev pub ManyIn : Keeping → List ℕ → ℕ → List Bounds → Told → Type 0
ManyIn keeping user number ranges reply = ManyFrom (kept_of keeping user).numbered number ranges reply

-- and a Close
abbrev pub CloseIn : Keeping → List ℕ → ℕ → Told → Keeping → Type 0
CloseIn old user number reply new =
    (slots : List (Option SessionState)) × CloseFrom (kept_of old user).numbered number reply slots × KeepsFor user (record (kept_of old user) { numbered = slots }) old new
