-- For proofs. A connection whose requests a service answers: what comes of the pieces of its stream.
use Rattle.std.specs.Prelude.{ℕ, ◌≡◌, List, [], ◌∷◌, ◌++◌, Option, is_some}
use Rattle.tab_history.specs.Answers.{Told}
use Rattle.tab_history.specs.declared.reply.Refusal.TheVariants.{NoMemory}
use Rattle.tab_wire.specs.declared.request.Request.{Request}
use Rattle.tab_wire.specs.declared.request.Request.TheVariants as asks
use Rattle.tab_wire.specs.Heard.{Heard}
use Rattle.tab_wire.specs.Heard as heard
use Rattle.tab_wire.specs.Stream.{Piece}
use Rattle.tab_wire.specs.Asking.{IsRead, Hears}
use Rattle.tab_wire.specs.Replies as sent
use Rattle.tab_wire.specs.Replies.{Sent, sent_of, sent_bytes}
use Rattle.tab_serve.specs.declared.service.Service.{Ghosts}

-- who said Hello, and the service as it stands
pub record Side (S : Type 0) : Type 0 where
  pub user : Option (List ℕ)
  pub service : S

-- how many cells a request asks for, where it asks for a batch
abbrev pub cells_asked : Request → ℕ
cells_asked (asks.Hello name) = 0
cells_asked (asks.Act act) = 0
cells_asked (asks.Next slot count) = count
cells_asked (asks.Many slot ranges) = 0
cells_asked (asks.Close slot) = 0

-- what is told of what is asked: a request is answered by the service, and what asks nothing is told why
abbrev pub Tells : {S : Type 0} → Ghosts S → S → Heard → Sent → S → Type 0
Tells s old (heard.Request user request) text new = (reply : Told) × s.answers old user request reply new × (text ≡ sent_of (s.opened old) (cells_asked request) reply)
Tells s old (heard.Bad reason) text new = (new ≡ old) × (text ≡ sent.BadFrame reason)
Tells s old (heard.Broken reason) text new = (new ≡ old) × (text ≡ sent.BadFrame reason)
Tells s old heard.NoMemory text new = (new ≡ old) × (text ≡ sent.Refused NoMemory)

-- one piece of the stream, what it asks, and what is told
pub record Turn {S : Type 0} (s : Ghosts S) (old : Side S) (piece : Piece) (text : List ℕ) (new : Side S) : Type 0 where
  pub what : Heard
  pub told : Sent
  pub read : IsRead (is_some old.user) piece what
  pub by : Hears old.user what new.user
  pub tells : Tells s old.service what told new.service
  pub bytes : text ≡ sent_bytes told

-- one after another
abbrev pub Turns : {S : Type 0} → Ghosts S → Side S → List Piece → List ℕ → Side S → Type 0
Turns s old [] text new = (text ≡ []) × (new ≡ old)
Turns {S} s old (piece ∷ pieces) text new = (first : List ℕ) × (more : List ℕ) × (mid : Side S) × Turn s old piece first mid × Turns s mid pieces more new × (text ≡ first ++ more)
