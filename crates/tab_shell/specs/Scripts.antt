-- To be believed by whoever relies on it. Which histories a script refines, and what answering its lines adds to them and prints.
use Rattle.std.specs.Prelude.{ℕ, ℤ, pos, ◌≡◌, ◌==◌, Bool, not, List, [], ◌∷◌, ◌++◌, length, Result, Ok, Err}
use Rattle.std.specs.List.{prefix_len}
use Rattle.tab_key.specs.Records.{Cell}
use Rattle.tab_policy.specs.Roots.{root}
use Rattle.tab_history.specs.declared.event.Act.{Act}
use Rattle.tab_history.specs.declared.event.Act.TheVariants.{Open, Save, Load}
use Rattle.tab_history.specs.declared.event.Event.{Event}
use Rattle.tab_history.specs.declared.event.Step.{Step}
use Rattle.tab_history.specs.declared.event.Step.TheVariants.{Event as IsEvent, Next, Many, Close, Merge}
use Rattle.tab_history.specs.declared.reply.Refusal.{Refusal}
use Rattle.tab_history.specs.declared.reply.Refusal.TheVariants as refusal
use Rattle.tab_history.specs.declared.reply.Reply.TheVariants.{Done, Refused, Opened}
use Rattle.tab_history.specs.Answers.{Told, session_list}
use Rattle.tab_history.specs.Sessions.{opened}
use Rattle.tab_history.specs.Jobs.{begun}
use Rattle.tab_history.specs.Histories.{Entry, World, world_of, world_after, journal, moves_of, jobs_of}
use Rattle.tab_history.specs.Legal.{Legal}
use Rattle.tab_history.specs.Refinement.{Refines}
use Rattle.tab_core.specs.Stores.{CoreContents, base_of}
use Rattle.tab_core.specs.JobSlots.{JobsAre, GoesExactly}
use Rattle.tab_core.specs.declared.job_slots.JobSlot.{JobSlot}
use Rattle.tab_lines.specs.declared.file_line.FileKind.{FileKind}
use Rattle.tab_lines.specs.declared.file_line.FileKind.TheVariants as kind
use Rattle.tab_lines.specs.declared.file_line.FileLine.{FileLine}
use Rattle.tab_lines.specs.declared.line.Line.{Line}
use Rattle.tab_lines.specs.declared.line.Line.TheVariants as line
use Rattle.tab_text.specs.declared.parse_error.ParseError.{ParseError}
use Rattle.tab_text.specs.declared.parse_error.ParseError.TheVariants as line_error
use Rattle.tab_text.specs.Gives.{Gives}
use Rattle.tab_lines.specs.Lines.{line_of}
use Rattle.tab_core.specs.Sessions.{Keeping, kept_of}
use Rattle.tab_shell.specs.Numbers.{Numbers, with_number, slot_named, KeptAre}
use Rattle.tab_replies.specs.Texts.{reply_text, opened_text, begun_text, next_text, renumbered, refusal_text, fault_text}
use Rattle.tab_shell.specs.Readings.{ReadingEnd, CanEnd, reading_text, reading_steps}

-- ---- what a script holds between lines
-- who asks, and when
pub record Asker : Type 0 where
  pub user : List ℕ
  pub moment : ℤ

-- the core, who asks, the sessions that are kept for each user, and the jobs that all users share, by their numbers
pub record ScriptState : Type 0 where
  pub core : CoreContents
  pub asker : Asker
  pub kept : Keeping
  pub jobs : List JobSlot

-- a script over this core: root asks at moment 0, no session was opened, and no job begun
abbrev pub new_script : CoreContents → ScriptState
new_script core = record { core = core; asker = record { user = root; moment = pos 0 }; kept = []; jobs = [] }

-- the script over another core: no session or job is kept, and none was opened or begun; who asks, and when, stays
abbrev pub replaced : ScriptState → CoreContents → ScriptState
replaced s core = record { core = core; asker = s.asker; kept = []; jobs = [] }

-- The script refines the history h of w: its core does, for each user it keeps the sessions of h, under numbers that stand for these slots,
-- and its jobs are those of h.
pub record ScriptRefines (s : ScriptState) (numbers : Numbers) (w : World) (h : List Entry) : Type 0 where
  pub core : Refines (world_of (base_of s.core)) (world_after w h)
  pub sessions : (user : List ℕ) → KeptAre (moves_of w user h) (numbers user) (kept_of s.kept user)
  pub jobs : JobsAre (jobs_of h) s.jobs

-- From the history h of w, which it refined, the script went on by these entries, and its numbers stand for these slots now.
pub record ScriptGoes (old : ScriptState) (w : World) (h es : List Entry) (numbers : Numbers) (new : ScriptState) : Type 0 where
  -- they make the history longer, legally
  pub legal : Legal w (es ++ h)
  -- their events are a chain of exact steps, from the core before to the core left, each Install with the merge of its slot's job
  pub exact : GoesExactly old.core old.jobs es new.core new.jobs
  -- the script left refines the longer history
  pub refines : ScriptRefines new numbers w (es ++ h)

-- ---- the steps of one line
-- what he asks
abbrev pub event_by : Asker → Act → Event
event_by who act = record { user = who.user; moment = who.moment; act = act }

-- an event and what was answered
abbrev pub entry : Event → Told → Entry
entry event reply = record { step = IsEvent event; reply = reply }

-- a scan's steps and its text: a refusal; or those that read the session that the Open gave
abbrev pub ScanSteps : Asker → World → List Entry → Event → Told → List Entry → List ℕ → Type 0
ScanSteps who w h event (Refused r) es text = (es ≡ entry event (Refused r) ∷ []) × (text ≡ refusal_text r)
ScanSteps who w h event (Opened session) es text =
    let all : List Cell = session_list w.base (journal w (entry event (Opened session) ∷ h)) event.act in
    (end : ReadingEnd) × CanEnd all end × (text ≡ reading_text all end)
    × (es ≡ reading_steps who.user (opened (moves_of w who.user h)) all end ++ entry event (Opened session) ∷ [])
ScanSteps who w h event reply es text = ⊥

-- the slot that a number of the asker's stands for
abbrev pub slot_of : Asker → Numbers → World → List Entry → ℕ → ℕ
slot_of who numbers w h number = slot_named (moves_of w who.user h) (numbers who.user) number

-- a step of a session or a merge, and what was answered
abbrev pub own_entry : Step → Told → Entry
own_entry step reply = record { step = step; reply = reply }

-- what a file line asks the core before anything is done with its file
abbrev pub file_act : FileKind → Act
file_act kind.Save = Save
file_act kind.Load = Load

-- after the history h of w, in which numbers stand for these slots, the line makes these entries, the last one first, and prints this text
abbrev pub LineSteps : Asker → Numbers → World → List Entry → Line → List Entry → List ℕ → Type 0
LineSteps who numbers w h line.Blank es text = (es ≡ []) × (text ≡ [])
LineSteps who numbers w h (line.As user) es text = (es ≡ []) × (text ≡ [])
LineSteps who numbers w h (line.At moment) es text = (es ≡ []) × (text ≡ [])
-- a job that is begun gets the number of its slot
LineSteps who numbers w h (line.Act act) es text = (reply : Told) × (es ≡ entry (event_by who act) reply ∷ []) × (text ≡ begun_text (begun (jobs_of h)) reply)
LineSteps who numbers w h (line.Scan scan) es text = (reply : Told) × ScanSteps who w h (event_by who (Open scan)) reply es text
LineSteps who numbers w h (line.Open scan) es text =
    (reply : Told) × (es ≡ entry (event_by who (Open scan)) reply ∷ []) × (text ≡ opened_text (length (numbers who.user)) reply)
LineSteps who numbers w h (line.Next number count) es text =
    (reply : Told) × (es ≡ own_entry (Next who.user (slot_of who numbers w h number) count) reply ∷ []) × (text ≡ next_text count (renumbered number reply))
LineSteps who numbers w h (line.Many number ranges) es text =
    (reply : Told) × (es ≡ own_entry (Many who.user (slot_of who numbers w h number) ranges) reply ∷ []) × (text ≡ reply_text (renumbered number reply))
LineSteps who numbers w h (line.Close number) es text =
    (reply : Told) × (es ≡ own_entry (Close who.user (slot_of who numbers w h number)) reply ∷ []) × (text ≡ reply_text (renumbered number reply))
LineSteps who numbers w h (line.Merge job) es text = (reply : Told) × (es ≡ own_entry (Merge job) reply ∷ []) × (text ≡ reply_text reply)
-- a file line that is answered was refused: one that is accepted ends a run (`ScriptAcceptsFile`)
LineSteps who numbers w h (line.File file) es text = (r : Refusal) × (es ≡ entry (event_by who (file_act file.kind)) (Refused r) ∷ []) × (text ≡ refusal_text r)

-- the same for what was read of a line: a fault is no step, nor is a line for which memory lacked
abbrev pub LineAnswered : Asker → Numbers → World → List Entry → Result Line ParseError → List Entry → List ℕ → Type 0
LineAnswered who numbers w h (Ok line) es text = LineSteps who numbers w h line es text
LineAnswered who numbers w h (Err line_error.Malformed) es text = (es ≡ []) × (text ≡ fault_text)
LineAnswered who numbers w h (Err line_error.NoMemory) es text = (es ≡ []) × (text ≡ refusal_text refusal.NoMemory)

-- the slot of a session that was opened is that of the user's next number
abbrev pub numbers_told : Numbers → List ℕ → ℕ → Told → Numbers
numbers_told numbers user slot (Opened session) = with_number numbers user slot
numbers_told numbers user slot reply = numbers

-- what numbers stand for after the line: an open line gives one, where its session was opened
abbrev pub numbers_after : Asker → Numbers → World → List Entry → Result Line ParseError → List Entry → Numbers
numbers_after who numbers w h (Ok (line.Open scan)) (e ∷ es) = numbers_told numbers who.user (opened (moves_of w who.user h)) e.reply
numbers_after who numbers w h said es = numbers

-- who asks after the line
abbrev pub asker_after : Asker → Result Line ParseError → Asker
asker_after who (Ok (line.As user)) = record who { user = user }
asker_after who (Ok (line.At moment)) = record who { moment = moment }
asker_after who (Ok line.Blank) = who
asker_after who (Ok (line.Act act)) = who
asker_after who (Ok (line.Scan scan)) = who
asker_after who (Ok (line.Open scan)) = who
asker_after who (Ok (line.Next number count)) = who
asker_after who (Ok (line.Many number ranges)) = who
asker_after who (Ok (line.Close number)) = who
asker_after who (Ok (line.Merge job)) = who
asker_after who (Ok (line.File file)) = who
asker_after who (Err error) = who

-- from each legal history that the script refined it went on by the entries of this line
pub record ScriptAnswersLine (old : ScriptState) (said : Result Line ParseError) (text : List ℕ) (new : ScriptState) : Type 0 where
  pub asker : new.asker ≡ asker_after old.asker said
  pub extends : (w : World) (h : List Entry) (numbers : Numbers) → ScriptRefines old numbers w h → Legal w h
      → (es : List Entry) × LineAnswered old.asker numbers w h said es text × ScriptGoes old w h es (numbers_after old.asker numbers w h said es) new

-- from each legal history that the script refined it went on by what this file line asks, which was done; numbers stand for what they stood for
pub record ScriptAcceptsFile (old : ScriptState) (file : FileLine) (new : ScriptState) : Type 0 where
  pub asker : new.asker ≡ old.asker
  pub extends : (w : World) (h : List Entry) (numbers : Numbers) → ScriptRefines old numbers w h → Legal w h → ScriptGoes old w h (entry (event_by old.asker (file_act file.kind)) Done ∷ []) numbers new

-- ---- many lines
-- the entries of lines, the last one first, their texts in order, and who asks and what numbers stand for afterwards
abbrev pub LinesAnswered : Asker → Numbers → World → List Entry → List (List ℕ) → List Entry → List ℕ → Asker → Numbers → Type 0
LinesAnswered who numbers w h [] es text last after = (es ≡ []) × (text ≡ []) × (last ≡ who) × (after ≡ numbers)
LinesAnswered who numbers w h (line ∷ lines) es text last after =
    (said : Result Line ParseError) × (first : List Entry) × (more : List Entry) × (t : List ℕ) × (u : List ℕ)
    × Gives (λ x. x) said (line_of line) × LineAnswered who numbers w h said first t
    × LinesAnswered (asker_after who said) (numbers_after who numbers w h said first) w (first ++ h) lines more u last after × (es ≡ more ++ first) × (text ≡ t ++ u)

-- from each legal history that the script refined it went on by the entries of these lines
abbrev pub ScriptAnswersLines : ScriptState → List (List ℕ) → List ℕ → ScriptState → Type 0
ScriptAnswersLines old lines text new = (w : World) (h : List Entry) (numbers : Numbers) → ScriptRefines old numbers w h → Legal w h
    → (es : List Entry) × (after : Numbers) × LinesAnswered old.asker numbers w h lines es text new.asker after × ScriptGoes old w h es after new

-- ---- what is read
-- no line feed
abbrev pub is_inside : ℕ → Bool
is_inside b = not (b == 10)

-- no line ends in it
abbrev pub IsInside : List ℕ → Type 0
IsInside part = prefix_len is_inside part ≡ length part
