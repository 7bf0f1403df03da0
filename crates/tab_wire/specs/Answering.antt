-- For proofs. What the frames of one reply come to, one after another.
use Rattle.std.specs.Prelude.{ℕ, ◌≡◌, ◌==◌, Bool, ◌&&◌, List, [], ◌∷◌, ◌++◌, length, Option, Some, None, Result, Ok, Err, if◌then◌else◌}
use Rattle.tab_key.specs.Records.{Cell, cell_of}
use Rattle.tab_history.specs.declared.reply.Reply.TheVariants as reply
use Rattle.tab_wire.specs.declared.answer.Answer.{Answer}
use Rattle.tab_wire.specs.declared.answer.Answer.TheVariants as answer
use Rattle.tab_wire.specs.declared.answer.ReplySoFar.{ReplySoFar}
use Rattle.tab_wire.specs.declared.client.ReceiveFault.{ReceiveFault}
use Rattle.tab_wire.specs.declared.client.ReceiveFault.TheVariants as fault
use Rattle.tab_wire.specs.declared.reply_frame.ReplyFrame.{ReplyFrame}
use Rattle.tab_wire.specs.declared.reply_frame.ReplyFrame.TheVariants as told

-- what they told so far: the cells behind the last range, the ranges, and end rows
pub record SoFar : Type 0 where
  pub cells : List Cell
  pub ranges : List (List Cell)
  pub rows : List (List ℕ)

abbrev pub listed : ReplySoFar → SoFar
listed l = record { cells = l.cells; ranges = l.ranges.items; rows = l.rows.items }

-- nothing
abbrev pub none_so_far : SoFar
none_so_far = record { cells = []; ranges = []; rows = [] }

-- a frame goes on with a list, or ends the reply; or no reply has it there
pub data Comes : Type 0 where
  On : SoFar → Comes
  Ends : Answer → Comes
  Wrong : Comes

abbrev pub is_empty : {A : Type 0} → List A → Bool
is_empty xs = length xs == 0

-- the end of a list; cells behind the last range are in none
abbrev pub ended : SoFar → Comes
ended s =
    if is_empty s.rows then (if is_empty s.ranges then Ends (answer.Reply (reply.Batch s.cells)) else if is_empty s.cells then Ends (answer.Reply (reply.Ranges s.ranges)) else Wrong)
    else Ends (answer.Reply (reply.Rows s.rows))

-- a frame that is a reply by itself
abbrev pub alone : ReplyFrame → Comes
alone told.Done = Ends (answer.Reply reply.Done)
alone (told.Refused refusal) = Ends (answer.Reply (reply.Refused refusal))
alone (told.BadFrame reason) = Ends (answer.BadFrame reason)
alone (told.Opened number) = Ends (answer.Reply (reply.Opened number))
alone (told.Counted counts) = Ends (answer.Reply (reply.Counted counts))
alone (told.Rights rights) = Ends (answer.Reply (reply.Rights rights))
alone (told.Cell shown) = Wrong
alone told.End = Wrong
alone (told.Row row) = Wrong
alone told.RangeEnd = Wrong

-- what the next frame comes to
abbrev pub comes : SoFar → ReplyFrame → Comes
comes s (told.Cell shown) = if is_empty s.rows then On (record s { cells = s.cells ++ cell_of shown ∷ [] }) else Wrong
comes s told.RangeEnd = if is_empty s.rows then On (record s { cells = []; ranges = s.ranges ++ s.cells ∷ [] }) else Wrong
comes s (told.Row row) = if is_empty s.cells && is_empty s.ranges then On (record s { rows = s.rows ++ row ∷ [] }) else Wrong
comes s told.End = ended s
comes s what = if is_empty s.cells && (is_empty s.ranges && is_empty s.rows) then alone what else Wrong

-- what the code returned is what comes of it, unless memory ran out
abbrev pub Says : Comes → Result (Option Answer) ReceiveFault → SoFar → Type 0
Says c (Ok None) new = c ≡ On new
Says c (Ok (Some said)) new = c ≡ Ends said
Says c (Err fault.Bad) new = c ≡ Wrong
Says c (Err fault.NoMemory) new = Unit {0}
Says c (Err fault.Read) new = ⊥
Says c (Err fault.Ended) new = ⊥
