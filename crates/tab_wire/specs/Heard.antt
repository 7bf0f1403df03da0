-- For proofs. What is heard on a connection: what is asked, and by whom.
use Rattle.std.specs.Prelude.{ℕ, ◌≡◌, true, List, [], Option, Some, None, is_some, unwrap_or}
use Rattle.tab_wire.specs.declared.request.Request.{Request as Asks}
use Rattle.tab_wire.specs.declared.reason.Reason.{Reason}
use Rattle.tab_wire.specs.declared.asked.Asked.{Asked}
use Rattle.tab_wire.specs.declared.asked.Asked.TheVariants as asked

-- a request of this user; or what asks nothing, and why
pub data Heard : Type 0 where
  Request : List ℕ → Asks → Heard
  Bad : Reason → Heard
  Broken : Reason → Heard
  NoMemory : Heard

-- what is asked, where this user is the one who asks
abbrev pub heard_by : Option (List ℕ) → Asked → Heard
heard_by user (asked.Request request) = Request (unwrap_or user []) request
heard_by user (asked.Bad reason) = Bad reason
heard_by user (asked.Broken reason) = Broken reason
heard_by user asked.NoMemory = NoMemory

-- the same of what comes next, or of nothing
abbrev pub next_by : Option (List ℕ) → Option Asked → Option Heard
next_by user None = None
next_by user (Some what) = Some (heard_by user what)

-- a request is one of somebody
abbrev pub HasUser : Option (List ℕ) → Asked → Type 0
HasUser user (asked.Request request) = is_some user ≡ true
HasUser user what = Unit {0}
