-- For proofs. What a connection knows between two frames, and what comes next on it.
use Rattle.std.specs.Prelude.{ℕ, ◌≡◌, ◌+◌, Bool, true, false, List, [], ◌∷◌, Option, Some, None, is_some, Ok, Err}
use Rattle.tab_history.specs.Answers.{Told}
use Rattle.tab_history.specs.declared.reply.Reply.TheVariants as reply
use Rattle.tab_wire.specs.declared.request.Request.{Request}
use Rattle.tab_wire.specs.declared.request.Request.TheVariants as asks
use Rattle.tab_wire.specs.declared.asked.Asked.{Asked}
use Rattle.tab_wire.specs.declared.asked.Asked.TheVariants as asked
use Rattle.tab_wire.specs.Heard.{Heard}
use Rattle.tab_wire.specs.Heard as heard
use Rattle.tab_wire.specs.Requests.{request_in, request_of}
use Rattle.tab_wire.specs.Stream.{Piece, Frame, Broken, piece_at}

-- ---- what a connection knows
-- who said Hello, how many sessions were opened, and the bytes of the frame that was read last
pub record ConnState : Type 0 where
  pub user : Option (List ℕ)
  pub opened : ℕ
  pub frame : List ℕ

-- nobody did, and none was
abbrev pub new_conn : ConnState
new_conn = record { user = None; opened = 0; frame = [] }

-- ---- what is asked
-- What a piece of the stream asks, after Hello or before it. For any frame memory may lack.
abbrev pub IsRead : Bool → Piece → Heard → Type 0
IsRead greeted (Frame body) (heard.Request user request) = request_of greeted body ≡ Ok request
IsRead greeted (Frame body) (heard.Bad reason) = request_of greeted body ≡ Err reason
IsRead greeted (Frame body) heard.NoMemory = Unit {0}
IsRead greeted (Frame body) (heard.Broken reason) = ⊥
IsRead greeted (Broken why) (heard.Broken reason) = reason ≡ why
IsRead greeted (Broken why) (heard.Request user request) = ⊥
IsRead greeted (Broken why) (heard.Bad reason) = ⊥
IsRead greeted (Broken why) heard.NoMemory = ⊥

-- this user asks: Hello names him, where there was none, and all else is asked by the one who said it
abbrev pub IsBy : Option (List ℕ) → List ℕ → Request → Type 0
IsBy before user (asks.Hello name) = (before ≡ None) × (user ≡ name)
IsBy before user request = before ≡ Some user

-- who asks, before and after; where nothing is asked, that stays
abbrev pub Hears : Option (List ℕ) → Heard → Option (List ℕ) → Type 0
Hears before (heard.Request user request) after = IsBy before user request × (after ≡ Some user)
Hears before what after = after ≡ before

-- Who may ask this: Hello where nobody said it, and all else where somebody did.
abbrev pub MayAsk : Option (List ℕ) → Request → Type 0
MayAsk before (asks.Hello name) = before ≡ None
MayAsk before request = is_some before ≡ true

-- ---- what was taken of the stream
-- Behind a frame the rest is left. Behind what is no frame nothing is said.
abbrev pub IsLeft : Heard → List ℕ → Option (List ℕ) → Type 0
IsLeft (heard.Broken reason) behind left = Unit {0}
IsLeft what behind left = left ≡ Some behind

-- at the end of the stream nothing is asked; else what the piece asks that it begins with
abbrev pub Asks : Bool → List ℕ → Option Heard → Option (List ℕ) → Type 0
Asks greeted [] what left = (what ≡ None) × (left ≡ Some [])
Asks greeted (b ∷ bytes) None left = ⊥
Asks greeted (b ∷ bytes) (Some what) left = let next = piece_at (b ∷ bytes) in IsRead greeted next.0 what × IsLeft what next.1 left

-- nobody else asks, and no session was opened
abbrev pub Stays : ConnState → ConnState → Type 0
Stays before after = (after.user ≡ before.user) × (after.opened ≡ before.opened)

-- a request is what the frame that was read last asks
abbrev pub IsFramed : List ℕ → Option Asked → Type 0
IsFramed frame None = Unit {0}
IsFramed frame (Some (asked.Request request)) = request_in frame ≡ Some request
IsFramed frame (Some what) = Unit {0}

-- who asks, and as many sessions as before; where the stream has ended, all stays
abbrev pub Knows : ConnState → Option Heard → ConnState → Type 0
Knows before None after = Stays before after
Knows before (Some what) after = Hears before.user what after.user × (after.opened ≡ before.opened)

-- ---- what is told
-- whether the reply opens a session
abbrev pub opens : Told → Bool
opens (reply.Opened session) = true
opens _ = false

-- how many sessions were opened, once this was told
abbrev pub opened_by : ℕ → Told → ℕ
opened_by n (reply.Opened session) = n + 1
opened_by n _ = n
