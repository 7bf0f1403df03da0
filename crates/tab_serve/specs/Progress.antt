-- To be believed by whoever relies on it. How far a connection has come with its stream, and what was put of the replies.
use Rattle.std.specs.Prelude.{ℕ, ◌≡◌, ◌<◌, ◌⊎◌, nat_le, nat_lt, List, [], ◌++◌, length, take, drop, Bool, true, false, Option, Some, None, IfSome, Result, Ok, Err, if◌then◌else◌}
use Rattle.std.specs.Int.{w32, from_be_bytes}
use Rattle.tab_io.specs.declared.reading.Input.{Ghosts as InputGhosts}
use Rattle.tab_io.specs.declared.writing.Output.{Ghosts as OutputGhosts}
use Rattle.tab_io.specs.Writing.{HasPut, HasPutPart, WriteFailed}
use Rattle.tab_io.specs.Streams.{AppendsPart}
use Rattle.std.specs.Io.KnownBytes.{Appends}
use Rattle.tab_wire.specs.Stream.{Piece, pieces_of, AtFront}
use Rattle.tab_wire.specs.Heard.{Heard}
use Rattle.tab_wire.specs.Heard as heard
use Rattle.tab_wire.specs.Asking.{ConnState}
use Rattle.tab_wire.specs.Taking.{TakesPart, Costs}
use Rattle.tab_serve.specs.declared.fault.ServeFault.{ServeFault}
use Rattle.tab_serve.specs.declared.fault.ServeFault.TheVariants.{Read, Write}
use Rattle.tab_serve.specs.declared.service.Service.{Ghosts}
use Rattle.tab_serve.specs.Turns.{Side, Turns}

-- the connection's side: who said Hello, and the service
abbrev pub side : {S : Type 0} → ConnState → S → Side S
side conn service = record { user = conn.user; service = service }

-- no piece of what is ahead was answered yet
abbrev pub first_side : {S : Type 0} → S → Side S
first_side service = record { user = None; service = service }

-- ---- what was answered of what is ahead
-- all pieces
abbrev pub AnswersAll : {S : Type 0} → Ghosts S → Side S → Option (List ℕ) → Side S → (List ℕ → Type 0) → Type 0
AnswersAll s old ahead new Holds = IfSome ahead (λ bytes. (text : List ℕ) × Turns s old (pieces_of bytes) text new × Holds text)

-- the first of them
abbrev pub AnswersSome : {S : Type 0} → Ghosts S → Side S → Option (List ℕ) → Side S → (List ℕ → Type 0) → Type 0
AnswersSome s old ahead new Holds =
    IfSome ahead (λ bytes. (pieces : List Piece) × (more : List Piece) × (text : List ℕ) × (pieces_of bytes ≡ pieces ++ more) × Turns s old pieces text new × Holds text)

-- the first of them: the one holds of what stands behind them, the other of their replies
abbrev pub AnswersFront : {S : Type 0} → Ghosts S → Side S → Option (List ℕ) → Side S → (List ℕ → Type 0) → (List ℕ → Type 0) → Type 0
AnswersFront s old ahead new Behind Holds =
    IfSome ahead (λ bytes. (pieces : List Piece) × (behind : List ℕ) × (text : List ℕ)
    × Behind behind × (pieces_of bytes ≡ pieces ++ pieces_of behind) × AtFront bytes pieces behind × Turns s old pieces text new × Holds text)

-- all that stands behind them is left to read
abbrev pub IsLeft : Option (List ℕ) → List ℕ → Type 0
IsLeft left behind = left ≡ Some behind

-- the same, but for a part of one piece, which is dropped
abbrev pub IsLeftButPart : Option (List ℕ) → List ℕ → Type 0
IsLeftButPart left behind = TakesPart (Some behind) left

-- The connection went on, at the reader's cost; or all was answered. Where reading failed, all pieces in front of what is left were answered,
-- and what was answered is put; where writing failed, a beginning of it.
abbrev pub Goes : {R W S : Type 0} → InputGhosts R → OutputGhosts W → Ghosts S → Side S → R → W → Side S → R → W → Result Bool ServeFault → Type 0
Goes i o s old input output new input' output' (Ok true) = AnswersFront s old (i.remaining input) new (IsLeft (i.remaining input')) (HasPut o output output')
Goes i o s old input output new input' output' (Ok false) = AnswersAll s old (i.remaining input) new (HasPut o output output')
Goes i o s old input output new input' output' (Err Read) = AnswersFront s old (i.remaining input) new (IsLeftButPart (i.remaining input')) (HasPut o output output')
Goes i o s old input output new input' output' (Err Write) = AnswersSome s old (i.remaining input) new (HasPutPart o output output')

-- the same to the end
abbrev pub GoesAll : {R W S : Type 0} → InputGhosts R → OutputGhosts W → Ghosts S → Side S → R → W → Side S → R → W → Result (Unit {0}) ServeFault → Type 0
GoesAll i o s old input output new input' output' (Ok u) = AnswersAll s old (i.remaining input) new (HasPut o output output')
GoesAll i o s old input output new input' output' (Err Read) = AnswersFront s old (i.remaining input) new (IsLeftButPart (i.remaining input')) (HasPut o output output')
GoesAll i o s old input output new input' output' (Err Write) = AnswersSome s old (i.remaining input) new (HasPutPart o output output')

-- ---- what is written
-- the text was written behind what was held, or a beginning of all that
abbrev pub IsWritten : {W : Type 0} → OutputGhosts W → W → W → List ℕ → Type 0
IsWritten o output output' text = Appends (o.contents output) (o.contents output') (o.held output ++ text)

abbrev pub IsWrittenPart : {W : Type 0} → OutputGhosts W → W → W → List ℕ → Type 0
IsWrittenPart o output output' text = AppendsPart (o.contents output) (o.contents output') (o.held output ++ text)

-- ---- what is written before a read
-- whether the next frame is here whole: its length, and as many bytes behind it
unfoldable pub is_here : List ℕ → Bool
is_here front = if nat_lt (length front) 4 then false else nat_le (from_be_bytes w32 (take 4 front)) (length (drop 4 front))

-- nothing is gathered where a frame is read that isn't here whole
abbrev pub NothingWaits : {R W : Type 0} → InputGhosts R → OutputGhosts W → R → W → Type 0
NothingWaits i o input output = is_here (i.front input) ≡ false → o.held output ≡ []

-- all that was gathered is written, and perhaps more, unless the next frame was here whole
abbrev pub FlushesFirst : {R W : Type 0} → InputGhosts R → OutputGhosts W → R → W → W → Type 0
FlushesFirst i o input output output' = is_here (i.front input) ≡ false → (more : List ℕ) × IsWritten o output output' more

-- ---- costs
-- a connection that goes on has cost the reader
abbrev pub CostsOn : {R : Type 0} → InputGhosts R → R → R → Bool → Type 0
CostsOn i old new true = Costs i old new
CostsOn i old new false = Unit {0}

-- a connection that goes on has spent some of the reader's budget
abbrev pub SpendsOn : {R : Type 0} → InputGhosts R → R → R → Bool → Type 0
SpendsOn i old new true = i.budget new < i.budget old
SpendsOn i old new false = Unit {0}

-- the connection goes on, unless what was asked was no frame
abbrev pub goes_on : Heard → Bool
goes_on (heard.Request user request) = true
goes_on (heard.Bad reason) = true
goes_on (heard.Broken reason) = false
goes_on heard.NoMemory = true

-- a text was put, or a beginning of it, and a write failed
abbrev pub PutsOn : {W : Type 0} → OutputGhosts W → W → W → List ℕ → Result Bool ServeFault → Type 0
PutsOn o old new text (Ok on) = HasPut o old new text
PutsOn o old new text (Err Read) = ⊥
PutsOn o old new text (Err Write) = HasPutPart o old new text

-- ---- which side failed
-- Nothing failed; or the side that is told did, or its budget of 2^64 - 1 calls is spent. Where reading failed, no write did.
abbrev pub Faults : {R W X : Type 0} → InputGhosts R → OutputGhosts W → Result X ServeFault → R → R → W → W → Type 0
Faults i o (Ok x) input input' output output' = (i.faults input' ≡ i.faults input) × (o.faults output' ≡ o.faults output)
Faults i o (Err Read) input input' output output' = ((i.budget input' ≡ 0) ⊎ (i.faults input < i.faults input')) × (o.faults output' ≡ o.faults output)
Faults i o (Err Write) input input' output output' = WriteFailed o output output'

-- ---- whole connections
-- all that was gathered is written, and nothing else is said then; or a beginning of it, and writing failed
abbrev pub Flushes : {W : Type 0} → OutputGhosts W → Result (Unit {0}) ServeFault → W → W → Result (Unit {0}) ServeFault → Type 0
Flushes o said output output' result =
    (HasPut o output output' [] × (o.held output' ≡ []) × (result ≡ said)) ⊎ (HasPutPart o output output' [] × (result ≡ Err Write))

-- the same, unless writing failed already
abbrev pub Finishes : {W : Type 0} → OutputGhosts W → Result (Unit {0}) ServeFault → W → W → Result (Unit {0}) ServeFault → Type 0
Finishes o (Ok u) output output' result = Flushes o (Ok tt) output output' result
Finishes o (Err Read) output output' result = Flushes o (Err Read) output output' result
Finishes o (Err Write) output output' result = (output' ≡ output) × (result ≡ Err Write)

-- All pieces of the stream were answered, and all replies written, with nothing held. Where reading failed, all pieces in front of what is left
-- were answered, but for a part of one that is dropped, and all their replies are written, with nothing held. Where writing failed, the first
-- pieces were, and a beginning of their replies is written.
abbrev pub Converses : {R W S : Type 0} → InputGhosts R → OutputGhosts W → Ghosts S → S → R → W → S → R → W → Result (Unit {0}) ServeFault → Type 0
Converses i o s old input output new input' output' (Ok u) =
    ((user : Option (List ℕ)) × AnswersAll s (first_side old) (i.remaining input) (record { user = user; service = new }) (IsWritten o output output')) × (o.held output' ≡ [])
Converses i o s old input output new input' output' (Err Read) =
    ((user : Option (List ℕ)) × AnswersFront s (first_side old) (i.remaining input) (record { user = user; service = new }) (IsLeftButPart (i.remaining input')) (IsWritten o output output'))
    × (o.held output' ≡ [])
Converses i o s old input output new input' output' (Err Write) =
    (user : Option (List ℕ)) × AnswersSome s (first_side old) (i.remaining input) (record { user = user; service = new }) (IsWrittenPart o output output')
