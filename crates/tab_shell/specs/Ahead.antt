-- For proofs. What is ahead of a reader, with the line that has begun.
use Rattle.std.specs.Prelude.{ℕ, ◌≡◌, ◌<◌, Bool, true, false, List, [], ◌∷◌, ◌++◌, length, Result, Ok, Err, Option, Some, None}
use Rattle.std.specs.List.{prefix_len}
use Rattle.tab_history.specs.Answers.{is_open}
use Rattle.tab_history.specs.declared.event.Scan.{Scan}
use Rattle.tab_lines.specs.declared.line.Line.{Line}
use Rattle.tab_lines.specs.declared.line.Line.TheVariants as line
use Rattle.tab_text.specs.declared.parse_error.ParseError.{ParseError}
use Rattle.tab_text.specs.Gives.{Gives}
use Rattle.tab_lines.specs.declared.command.Command.TheVariants as command
use Rattle.tab_lines.specs.declared.words.Words.{Words}
use Rattle.tab_lines.specs.Words.{words_left}
use Rattle.tab_lines.specs.Lines.{commanded, line_of}
use Rattle.tab_shell.specs.declared.pending.Pending.{Pending}
use Rattle.tab_shell.specs.Scripts.{is_inside, IsInside}

-- the bytes are kept, or lost, and then there are some
abbrev pub KeptOrLost : Bool → List ℕ → List ℕ → Type 0
KeptOrLost false bytes gone = bytes ≡ gone
KeptOrLost true bytes gone = 0 < length gone

-- so much of a line has gone by
pub record Pends (p : Pending) (gone : List ℕ) : Type 0 where
  pub inside : IsInside gone
  pub kept : KeptOrLost p.lost p.bytes.items gone

-- the part goes on with the line
abbrev pub AddsOn : Pending → Pending → List ℕ → Type 0
AddsOn old new part = (gone : List ℕ) → Pends old gone → Pends new (gone ++ part)

-- what the line says, or memory lacked
abbrev pub ReadsLine : Result Line ParseError → List ℕ → Type 0
ReadsLine said line = Gives (λ x. x) said (line_of line)

-- what a whole scan says, of which these words are left behind its command, or memory lacked
abbrev pub ReadsScan : Result Line ParseError → Words → Type 0
ReadsScan said words = Gives (λ x. x) said (commanded command.Scan (words_left words))

-- what was read of a whole scan, as that of a line
abbrev pub scan_line : Result Scan ParseError → Result Line ParseError
scan_line (Ok scan) = Ok (line.Scan scan)
scan_line (Err stop) = Err stop

-- todo is what has gone by of a line, and what is to come
abbrev pub Ahead : Option (List ℕ) → Pending → List ℕ → Type 0
Ahead None p todo = ⊥
Ahead (Some rest) p todo = (gone : List ℕ) × Pends p gone × (todo ≡ gone ++ rest)

-- no line has begun, and this is to come
abbrev pub IsNext : Option (List ℕ) → Pending → List ℕ → Type 0
IsNext r p todo = (r ≡ Some todo) × Pends p []

-- the input has ended in a line of which so much has gone by
abbrev pub AtEnd : Option (List ℕ) → Pending → List ℕ → Type 0
AtEnd r p gone = (r ≡ Some []) × Pends p gone

-- a line was taken, with its line feed
abbrev pub TakesLine : Option (List ℕ) → Pending → Result Line ParseError → Option (List ℕ) → Pending → Type 0
TakesLine r p said r' p' = (todo : List ℕ) → Ahead r p todo
    → (line : List ℕ) × (after : List ℕ) × ReadsLine said line × IsInside line × (todo ≡ line ++ 10 ∷ after) × IsNext r' p' after

-- the first line of these bytes ends at this place of them
abbrev pub IsLineEnd : List ℕ → ℕ → Type 0
IsLineEnd front at = (at ≡ prefix_len is_inside front) × (at < length front)

-- no line ends in what was there
abbrev pub TakesOn : Option (List ℕ) → Pending → Option (List ℕ) → Pending → Type 0
TakesOn r p r' p' = (todo : List ℕ) → Ahead r p todo → Ahead r' p' todo

-- what was read isn't a bare act that opens a session
abbrev pub OpensNoSession : Result Line ParseError → Type 0
OpensNoSession (Ok line.Blank) = Unit {0}
OpensNoSession (Ok (line.As user)) = Unit {0}
OpensNoSession (Ok (line.At moment)) = Unit {0}
OpensNoSession (Ok (line.Act act)) = is_open act ≡ false
OpensNoSession (Ok (line.Scan scan)) = Unit {0}
OpensNoSession (Ok (line.Open scan)) = Unit {0}
OpensNoSession (Ok (line.Next number count)) = Unit {0}
OpensNoSession (Ok (line.Many number ranges)) = Unit {0}
OpensNoSession (Ok (line.Close number)) = Unit {0}
OpensNoSession (Ok (line.Merge job)) = Unit {0}
OpensNoSession (Ok (line.File file)) = Unit {0}
OpensNoSession (Err stop) = Unit {0}
