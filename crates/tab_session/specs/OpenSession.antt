-- To be believed by whoever relies on it. An open session: how far it has come, and whether it is done.
use Rattle.std.specs.Prelude.{ℕ, Bool, false, List, nat_lt, length}
use Rattle.tab_key.specs.Records.{Cell}
use Rattle.tab_cells.specs.SessionState.{SessionState, batch}

pub record OpenSession : Type 0 where
  -- its whole answer, and how many of its cells were given
  pub state : SessionState
  -- whether a batch shorter than asked was given
  pub done : Bool

-- a session on these cells that gave no batch
abbrev pub opened : List Cell → OpenSession
opened all = record { state = record { all = all; given = 0 }; done = false }

-- the next batch of n is shorter than asked
abbrev pub is_short : SessionState → ℕ → Bool
is_short s n = nat_lt (length (batch s n)) n
