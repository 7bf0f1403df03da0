-- To be believed by whoever relies on it. How far a script has come with its input, and what was put of its answers.
use Rattle.std.specs.Prelude.{ℕ, ℤ, ◌≡◌, ◌+◌, ◌<◌, ◌^◌, ◌⊎◌, List, [], ◌∷◌, ◌++◌, length, Result, Ok, Err, Option, Some, None, IfSome}
use Rattle.std.specs.Io.KnownBytes.{Appends}
use Rattle.tab_io.specs.Streams.{AppendsPart}
use Rattle.tab_io.specs.Writing.{HasPut, HasPutPart, Puts, WriteFailed}
use Rattle.tab_io.specs.declared.reading.Input.{Ghosts as InputGhosts}
use Rattle.tab_io.specs.declared.writing.Output.{Ghosts}
use Rattle.tab_core.specs.Stores.{CoreContents}
use Rattle.tab_core.specs.Sessions.{Keeping, kept_of, KeepsFor}
use Rattle.tab_core.specs.declared.job_slots.JobSlot.{JobSlot}
use Rattle.tab_core.specs.declared.sessions.UserSessions.{UserSessions}
use Rattle.tab_lines.specs.declared.file_line.FileLine.{FileLine}
use Rattle.tab_lines.specs.declared.line.Line.{Line}
use Rattle.tab_lines.specs.declared.line.Line.TheVariants as line
use Rattle.tab_text.specs.declared.parse_error.ParseError.{ParseError}
use Rattle.tab_lines.specs.Lines.{line_of}
use Rattle.tab_shell.specs.declared.pending.Pending.{Pending}
use Rattle.tab_shell.specs.declared.script.Ended.{Ended}
use Rattle.tab_shell.specs.declared.script.Ended.TheVariants.{Input, File}
use Rattle.tab_shell.specs.declared.script.ScriptFault.{ScriptFault}
use Rattle.tab_shell.specs.declared.script.ScriptFault.TheVariants.{Read, Write}
use Rattle.tab_replies.specs.Texts.{lines_of, EndsLine}
use Rattle.tab_shell.specs.Scripts.{ScriptState, ScriptAnswersLine, ScriptAnswersLines, ScriptAcceptsFile, IsInside}
use Rattle.tab_shell.specs.Ahead.{Ahead, AtEnd}

-- ---- what was answered of some bytes
-- The whole lines in front were answered: the one holds of what stands behind them, the other of their texts.
abbrev pub AnswersWhole : ScriptState → List ℕ → ScriptState → (List ℕ → Type 0) → (List ℕ → Type 0) → Type 0
AnswersWhole old bytes new Behind Holds =
    (whole : List ℕ) × (behind : List ℕ) × (text : List ℕ)
    × (bytes ≡ whole ++ behind) × EndsLine whole × Behind behind × ScriptAnswersLines old (lines_of whole) text new × Holds text

-- all lines were answered, and nothing is left to read
abbrev pub AnswersAll : ScriptState → List ℕ → ScriptState → Option (List ℕ) → (List ℕ → Type 0) → Type 0
AnswersAll old bytes new left Holds = (text : List ℕ) × ScriptAnswersLines old (lines_of bytes) text new × (left ≡ Some []) × Holds text

-- the bytes begin with this file line, and what stands behind its line feed is left to read; where they end without one, nothing is
abbrev pub BeginsWithFile : FileLine → Option (List ℕ) → List ℕ → Type 0
BeginsWithFile file left bytes =
    (l : List ℕ) × (after : List ℕ) × IsInside l × (line_of l ≡ Some (line.File file)) × (left ≡ Some after) × ((bytes ≡ l ++ 10 ∷ after) ⊎ ((bytes ≡ l) × (after ≡ [])))

-- The whole lines in front of this file line were answered, and then it was accepted, which prints nothing; what stands behind it is left to read.
abbrev pub AnswersToFile : ScriptState → List ℕ → FileLine → ScriptState → Option (List ℕ) → (List ℕ → Type 0) → Type 0
AnswersToFile old bytes file new left Holds = (mid : ScriptState) × AnswersWhole old bytes mid (BeginsWithFile file left) Holds × ScriptAcceptsFile mid file new

-- ---- on the way
-- the line was answered, and its text put, or a beginning of it
abbrev pub PrintsAnswer : {W E : Type 0} → Ghosts W → ScriptState → Result Line ParseError → ScriptState → W → W → Result (Unit {0}) E → Type 0
PrintsAnswer g old said new o o' r = (text : List ℕ) × ScriptAnswersLine old said text new × Puts g o o' text r

-- PrintsAnswer in parts, for whatever script has this core, is asked so, and keeps this for the asker: now the core is the new one, and this is kept for him.
abbrev pub PrintsFor : {W E : Type 0} → Ghosts W → CoreContents → UserSessions → List ℕ → ℤ → Result Line ParseError → CoreContents → UserSessions → W → W → Result (Unit {0}) E → Type 0
PrintsFor g core kept user moment said core' kept' o o' r = (keeping keeping' : Keeping) (jobs : List JobSlot) → kept_of keeping user ≡ kept → KeepsFor user kept' keeping keeping'
    → PrintsAnswer g (record { core = core; asker = record { user = user; moment = moment }; kept = keeping; jobs = jobs }) said (record { core = core'; asker = record { user = user; moment = moment }; kept = keeping'; jobs = jobs }) o o' r

-- the line is this file line, which was accepted
abbrev pub IsAccepted : ScriptState → Result Line ParseError → FileLine → ScriptState → Type 0
IsAccepted old said file new = (said ≡ Ok (line.File file)) × ScriptAcceptsFile old file new

-- the line was answered, and its text put; or it is the file line that is handed back, which was accepted, and nothing is held; or a write failed at the one or the other
abbrev pub AnswersOrAccepts : {W E : Type 0} → Ghosts W → ScriptState → Result Line ParseError → ScriptState → W → W → Result (Option FileLine) E → Type 0
AnswersOrAccepts g old said new o o' (Ok None) = (text : List ℕ) × ScriptAnswersLine old said text new × HasPut g o o' text
AnswersOrAccepts g old said new o o' (Ok (Some file)) = IsAccepted old said file new × HasPut g o o' [] × (g.held o' ≡ [])
AnswersOrAccepts g old said new o o' (Err e) =
    ((text : List ℕ) × ScriptAnswersLine old said text new × HasPutPart g o o' text) ⊎ ((file : FileLine) × IsAccepted old said file new × HasPutPart g o o' [])

-- the same of a line that was read so
abbrev pub AnswersRead : {W E : Type 0} → Ghosts W → ScriptState → (Result Line ParseError → Type 0) → ScriptState → W → W → Result (Option FileLine) E → Type 0
AnswersRead g old Reads new o o' r = (said : Result Line ParseError) × Reads said × AnswersOrAccepts g old said new o o' r

-- the file line is handed back, and nothing is held; or the flush failed
abbrev pub HandsBack : {W E : Type 0} → Ghosts W → FileLine → W → W → Result (Option FileLine) E → Type 0
HandsBack g file o o' (Ok None) = ⊥
HandsBack g file o o' (Ok (Some given)) = (given ≡ file) × HasPut g o o' [] × (g.held o' ≡ [])
HandsBack g file o o' (Err e) = HasPutPart g o o' []

-- of what was ahead, whole lines were answered, and their texts put; the rest is ahead
abbrev pub HasAnswered : {W : Type 0} → Ghosts W → ScriptState → Option (List ℕ) → Pending → W → ScriptState → Option (List ℕ) → Pending → W → Type 0
HasAnswered g old r p o new r' p' o' = (todo : List ℕ) → Ahead r p todo → AnswersWhole old todo new (Ahead r' p') (HasPut g o o')

-- the same where a write failed: a beginning of their texts was put
abbrev pub HasAnsweredPart : {W : Type 0} → Ghosts W → ScriptState → Option (List ℕ) → Pending → W → ScriptState → Option (List ℕ) → Pending → W → Type 0
HasAnsweredPart g old r p o new r' p' o' = (todo : List ℕ) → Ahead r p todo → AnswersWhole old todo new (Ahead r' p') (HasPutPart g o o')

-- the same where the input has ended: at most a line that lacks its line feed is left
abbrev pub HasEnded : {W : Type 0} → Ghosts W → ScriptState → Option (List ℕ) → Pending → W → ScriptState → Option (List ℕ) → Pending → W → Type 0
HasEnded g old r p o new r' p' o' = (todo : List ℕ) → Ahead r p todo → AnswersWhole old todo new (AtEnd r' p') (HasPut g o o')

-- of what was ahead, the whole lines in front of this file line were answered, and their texts put; it was accepted, and what stands behind it is left to read
abbrev pub HasAccepted : {W : Type 0} → Ghosts W → ScriptState → Option (List ℕ) → Pending → W → FileLine → ScriptState → Option (List ℕ) → W → Type 0
HasAccepted g old r p o file new r' o' = (todo : List ℕ) → Ahead r p todo → AnswersToFile old todo file new r' (HasPut g o o')

-- the same where a write failed: a beginning of their texts was put
abbrev pub HasAcceptedPart : {W : Type 0} → Ghosts W → ScriptState → Option (List ℕ) → Pending → W → FileLine → ScriptState → Option (List ℕ) → W → Type 0
HasAcceptedPart g old r p o file new r' o' = (todo : List ℕ) → Ahead r p todo → AnswersToFile old todo file new r' (HasPutPart g o o')

-- a write failed where lines were answered, or where a file line behind them was accepted
abbrev pub HasFailed : {W : Type 0} → Ghosts W → ScriptState → Option (List ℕ) → Pending → W → ScriptState → Option (List ℕ) → Pending → W → Type 0
HasFailed g old r p o new r' p' o' = HasAnsweredPart g old r p o new r' p' o' ⊎ ((file : FileLine) × HasAcceptedPart g old r p o file new r' o')

-- lines that were ahead were answered, all that end; or those in front of a file line that was accepted, and nothing is held; or a write failed
abbrev pub AnswersFront : {W E : Type 0} → Ghosts W → ScriptState → Option (List ℕ) → Pending → W → ScriptState → Option (List ℕ) → Pending → W → Result (Option FileLine) E → Type 0
AnswersFront g old r p o new r' p' o' (Ok None) = HasAnswered g old r p o new r' p' o'
AnswersFront g old r p o new r' p' o' (Ok (Some file)) = HasAccepted g old r p o file new r' o' × (g.held o' ≡ [])
AnswersFront g old r p o new r' p' o' (Err e) = HasFailed g old r p o new r' p' o'

-- the front is empty, or shorter where a file line was taken from it
abbrev pub IsEmptied : Option FileLine → List ℕ → List ℕ → Type 0
IsEmptied None front front' = front' ≡ []
IsEmptied (Some file) front front' = (length front' < length front) × (length front' + 1 < 2 ^ 64)

-- what was answered where the input has ended, or up to a file line; nothing is held
abbrev pub EndsAhead : {W : Type 0} → Ghosts W → Option FileLine → ScriptState → Option (List ℕ) → Pending → W → ScriptState → Option (List ℕ) → Pending → W → Type 0
EndsAhead g None old r p o new r' p' o' = HasEnded g old r p o new r' p' o' × (g.held o' ≡ [])
EndsAhead g (Some file) old r p o new r' p' o' = HasAccepted g old r p o file new r' o' × (g.held o' ≡ [])

-- what was answered up to a fault; where reading failed, nothing is held unwritten
abbrev pub StopsAhead : {W : Type 0} → Ghosts W → ScriptFault → ScriptState → Option (List ℕ) → Pending → W → ScriptState → Option (List ℕ) → Pending → W → Type 0
StopsAhead g Read old r p o new r' p' o' = HasAnswered g old r p o new r' p' o' × (g.held o' ≡ [])
StopsAhead g Write old r p o new r' p' o' = HasFailed g old r p o new r' p' o'

-- ---- whole runs
-- the text was written behind what was held, or a beginning of all that
abbrev pub IsWritten : {W : Type 0} → Ghosts W → W → W → List ℕ → Type 0
IsWritten g o o' text = Appends (g.contents o) (g.contents o') (g.held o ++ text)

abbrev pub IsWrittenPart : {W : Type 0} → Ghosts W → W → W → List ℕ → Type 0
IsWrittenPart g o o' text = AppendsPart (g.contents o) (g.contents o') (g.held o ++ text)

-- a part of one line, which is dropped, and then what is left to read
abbrev pub IsLeft : Option (List ℕ) → List ℕ → Type 0
IsLeft left behind = (part : List ℕ) × (rest : List ℕ) × (behind ≡ part ++ rest) × IsInside part × (left ≡ Some rest)

-- a call of this side failed, or its budget of 2^64 - 1 calls is spent
abbrev pub FailedSide : {R W : Type 0} → InputGhosts R → Ghosts W → ScriptFault → R → R → W → W → Type 0
FailedSide i g Read input input' o o' = (i.budget input' ≡ 0) ⊎ (i.faults input < i.faults input')
FailedSide i g Write input input' o o' = WriteFailed g o o'

-- A run to the end of the input answers each line of it, writes all texts, and leaves nothing to read and nothing held. A run to a file
-- line answers the whole lines in front of it and writes all their texts; the file line was accepted, which writes nothing; what stands
-- behind it is left to read, and nothing is held. Where reading failed, the whole lines in front of what is left were answered, but for a
-- part of one line that is dropped, all texts were written, and nothing is held. Where writing failed, the same lines were answered, or
-- all were, or a file line behind them was accepted, and a beginning of the texts was written.
abbrev pub RunsScript : {R W : Type 0} → InputGhosts R → Ghosts W → ScriptState → R → W → ScriptState → R → W → Result Ended ScriptFault → Type 0
RunsScript i g old input o new input' o' (Ok Input) =
    IfSome (i.remaining input) (λ bytes. AnswersAll old bytes new (i.remaining input') (IsWritten g o o')) × (g.held o' ≡ [])
RunsScript i g old input o new input' o' (Ok (File file)) =
    IfSome (i.remaining input) (λ bytes. AnswersToFile old bytes file new (i.remaining input') (IsWritten g o o')) × (g.held o' ≡ [])
RunsScript i g old input o new input' o' (Err Read) =
    IfSome (i.remaining input) (λ bytes. AnswersWhole old bytes new (IsLeft (i.remaining input')) (IsWritten g o o')) × (g.held o' ≡ []) × FailedSide i g Read input input' o o'
RunsScript i g old input o new input' o' (Err Write) =
    IfSome (i.remaining input) (λ bytes. AnswersWhole old bytes new (IsLeft (i.remaining input')) (IsWrittenPart g o o') ⊎ AnswersAll old bytes new (i.remaining input') (IsWrittenPart g o o')
    ⊎ ((file : FileLine) × AnswersToFile old bytes file new (i.remaining input') (IsWrittenPart g o o')))
    × FailedSide i g Write input input' o o'

-- The reader has come further: it was asked for more, which leaves it fewer reads, or else some of the bytes that were here were taken.
abbrev pub ComesFurther : {R : Type 0} → InputGhosts R → R → R → Type 0
ComesFurther i input input' = (i.budget input' < i.budget input) ⊎ ((i.budget input' ≡ i.budget input) × (length (i.front input') < length (i.front input)) × (length (i.front input') + 1 < 2 ^ 64))

-- ---- a law
-- Two runs, one behind the other, are one run over the bytes of both, where the first bytes are whole lines that it answered all.
abbrev pub RunsAreOne : {R W : Type 0} → InputGhosts R → Ghosts W → Type 0
RunsAreOne {R} {W} i g = (a b : List ℕ) (ended : Ended) (old mid new : ScriptState) (first first' second second' both both' : R) (o o1 o2 : W)
    → i.remaining first ≡ Some a → EndsLine a → i.remaining second ≡ Some b → i.remaining both ≡ Some (a ++ b) → i.remaining both' ≡ i.remaining second'
    → RunsScript i g old first o mid first' o1 (Ok Input) → RunsScript i g mid second o1 new second' o2 (Ok ended) → RunsScript i g old both o new both' o2 (Ok ended)
