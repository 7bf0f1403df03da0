-- To be believed by whoever relies on it. A whole connection: which steps its bytes spell, each event with the next moment, and what is replied to each frame.
use Rattle.std.specs.Prelude.{ℕ, ℤ, pos, ◌≡◌, ◌⊎◌, true, false, cond, ◌&&◌, List, [], ◌∷◌, ◌++◌, length, Option, None, is_some}
use Rattle.std.specs.List.{flat_map}
use Rattle.tab_key.specs.Records.{Cell}
use Rattle.tab_key.specs.declared.limited_part.LimitedPart.TheVariants.{Sessions}
use Rattle.tab_history.specs.declared.event.Act.{Act}
use Rattle.tab_history.specs.declared.event.Step.{Step}
use Rattle.tab_history.specs.declared.event.Step.TheVariants as step
use Rattle.tab_history.specs.declared.reply.Refusal.TheVariants as refusal
use Rattle.tab_history.specs.declared.reply.Reply.TheVariants as reply
use Rattle.tab_history.specs.Answers.{Told, is_open, next_answer, many_answer, close_answer}
use Rattle.tab_history.specs.Sessions.{Move, Opening, Taking, Closing, opened, is_full, session_in}
use Rattle.tab_history.specs.Histories.{Entry}
use Rattle.tab_history.specs.Legal.{LacksMemory}
use Rattle.tab_wire.specs.declared.request.Request.{Request}
use Rattle.tab_wire.specs.declared.request.Request.TheVariants as asks
use Rattle.tab_wire.specs.Heard.{Heard}
use Rattle.tab_wire.specs.Heard as heard
use Rattle.tab_wire.specs.Stream.{Piece, pieces_of}
use Rattle.tab_wire.specs.Asking.{ConnState, IsRead, Hears}
use Rattle.tab_wire.specs.Replies as sent
use Rattle.tab_wire.specs.Replies.{Sent, sent_of, sent_bytes}

-- ---- what is known of a connection between two frames
-- who said Hello, and what was done with the sessions of the connection, the newest first
pub record Talk : Type 0 where
  pub user : Option (List ℕ)
  pub moves : List Move

-- a connection begins without a user and without sessions
abbrev pub new_talk : Talk
new_talk = record { user = None; moves = [] }

-- the connection's side stands where the talk does: the same user, and as many sessions opened
pub record Stands (c : ConnState) (talk : Talk) : Type 0 where
  pub by : c.user ≡ talk.user
  pub count : c.opened ≡ opened talk.moves

-- ---- one piece of the stream, and what came of it
pub record Exchange : Type 0 where
  -- what was asked
  pub what : Heard
  -- the moment that was taken, or none
  pub moments : List ℤ
  -- the step and what was answered, or none
  pub entries : List Entry
  -- the whole answer of the session that was opened
  pub all : List Cell
  -- what was replied
  pub told : Sent

-- no moment was taken, and there is no step
pub record IsQuiet (x : Exchange) (text : Sent) : Type 0 where
  pub moments : x.moments ≡ []
  pub entries : x.entries ≡ []
  pub told : x.told ≡ text

-- one step, the moments that it took, and what was replied
pub record IsOne (x : Exchange) (taken : List ℤ) (s : Step) (answer : Told) (text : Sent) : Type 0 where
  pub moments : x.moments ≡ taken
  pub entries : x.entries ≡ record { step = s; reply = answer } ∷ []
  pub told : x.told ≡ text

-- what a step of the connection does to its sessions; all is the whole answer of the one that it opened
abbrev pub moves_told : Step → Told → List Cell → List Move
moves_told (step.Event e) (reply.Opened session) all = cond (is_open e.act) (Opening all ∷ []) []
moves_told (step.Next user slot n) (reply.Batch cells) all = Taking slot (length cells) ∷ []
moves_told (step.Close user slot) reply.Done all = Closing slot ∷ []
moves_told _ _ all = []

-- ---- what comes of a request
abbrev pub event : List ℕ → ℤ → Act → Step
event user moment act = step.Event (record { user = user; moment = moment; act = act })

-- An act of this user. Past the limit of sessions an Open is refused, and takes no moment. Any other act is an event at the next moment.
abbrev pub DoesAct : List ℕ → List Move → Act → Exchange → List Move → Type 0
DoesAct user moves act x new =
    ((is_open act && is_full moves ≡ true)
    × IsOne x [] (event user (pos 0) act) (reply.Refused (refusal.TooLarge Sessions)) (sent.Refused (refusal.TooLarge Sessions))
    × (new ≡ moves))
    ⊎ ((is_open act && is_full moves ≡ false)
    × ((moment : ℤ) × (answer : Told) × IsOne x (moment ∷ []) (event user moment act) answer (sent_of (opened moves) 0 answer) × (new ≡ moves_told (event user moment act) answer x.all ++ moves)))

-- A step on a session of the connection: this answer, or want of memory. A batch may have so many cells.
abbrev pub DoesOwn : List Move → Step → ℕ → Told → Exchange → List Move → Type 0
DoesOwn moves s n right x new =
    (answer : Told) × ((answer ≡ right) ⊎ LacksMemory s answer) × IsOne x [] s answer (sent_of (opened moves) n answer) × (new ≡ moves_told s answer [] ++ moves)

-- what a request of this user comes to
abbrev pub Does : List ℕ → List Move → Request → Exchange → List Move → Type 0
Does user moves (asks.Hello name) x new = IsQuiet x sent.Ok × (new ≡ moves)
Does user moves (asks.Act act) x new = DoesAct user moves act x new
Does user moves (asks.Next slot n) x new = DoesOwn moves (step.Next user slot n) n (next_answer (session_in moves slot) slot n) x new
Does user moves (asks.Many slot ranges) x new = DoesOwn moves (step.Many user slot ranges) 0 (many_answer (session_in moves slot) slot ranges) x new
Does user moves (asks.Close slot) x new = DoesOwn moves (step.Close user slot) 0 (close_answer (session_in moves slot) slot) x new

-- what comes of what is asked: what asks nothing is told why, and of a frame without memory that memory lacked
abbrev pub Answers : List Move → Heard → Exchange → List Move → Type 0
Answers moves (heard.Request user request) x new = Does user moves request x new
Answers moves (heard.Bad reason) x new = IsQuiet x (sent.BadFrame reason) × (new ≡ moves)
Answers moves (heard.Broken reason) x new = IsQuiet x (sent.BadFrame reason) × (new ≡ moves)
Answers moves heard.NoMemory x new = IsQuiet x (sent.Refused refusal.NoMemory) × (new ≡ moves)

-- one exchange, from one talk to the next
pub record Speaks (talk : Talk) (x : Exchange) (next : Talk) : Type 0 where
  pub by : Hears talk.user x.what next.user
  pub does : Answers talk.moves x.what x next.moves

-- ---- a whole connection
-- the pieces of a stream come to these exchanges, one for each
abbrev pub Talks : Talk → List Piece → List Exchange → Talk → Type 0
Talks talk [] [] last = last ≡ talk
Talks talk (piece ∷ pieces) (x ∷ xs) last = (next : Talk) × IsRead (is_some talk.user) piece x.what × Speaks talk x next × Talks next pieces xs last
Talks talk [] (x ∷ xs) last = ⊥
Talks talk (piece ∷ pieces) [] last = ⊥

-- the steps and what was answered, the last one first, as histories have them
abbrev pub entries_of : List Exchange → List Entry
entries_of [] = []
entries_of (x ∷ xs) = entries_of xs ++ x.entries

-- the moments that were taken, in order
abbrev pub moments_of : List Exchange → List ℤ
moments_of xs = flat_map (λ x. x.moments) xs

-- the bytes that are replied
abbrev pub replied : List Exchange → List ℕ
replied xs = flat_map (λ x. sent_bytes x.told) xs

-- The bytes of a connection, the steps that they spell with the moments taken and the answers, and the bytes of the replies.
pub record Connection (bytes : List ℕ) (taken : List ℤ) (entries : List Entry) (written : List ℕ) : Type 0 where
  pub exchanges : List Exchange
  pub last : Talk
  pub talks : Talks new_talk (pieces_of bytes) exchanges last
  pub moments : moments_of exchanges ≡ taken
  pub steps : entries_of exchanges ≡ entries
  pub replies : replied exchanges ≡ written
