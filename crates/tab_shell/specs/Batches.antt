-- To be believed by whoever relies on it. What reading an open session puts, a batch at a time.
use Rattle.std.specs.Prelude.{ℕ, ◌≡◌, ◌≢◌, ◌⊎◌, ◌+◌, Bool, true, false, List, length, drop, Result, Ok, Err}
use Rattle.std.specs.List.{flat_map}
use Rattle.tab_key.specs.Records.{Cell}
use Rattle.tab_cells.specs.SessionState.{SessionState, batch, gave}
use Rattle.tab_io.specs.Writing.{HasPut, HasPutPart, Puts}
use Rattle.tab_io.specs.declared.writing.Output.{Ghosts}
use Rattle.tab_text.specs.Lines.{cell_text}
use Rattle.tab_history.specs.Answers.{told_of}
use Rattle.tab_history.specs.declared.reply.Reply.{Reply}
use Rattle.tab_history.specs.declared.reply.Reply.TheVariants.{Opened}
use Rattle.tab_core.specs.OpenSession.{OpenSession}
use Rattle.tab_core.specs.Parts.{TabletMerge}
use Rattle.tab_core.specs.declared.sessions.UserSessions.{UserSessions}
use Rattle.tab_replies.specs.Texts.{scan_text, reply_text}
use Rattle.tab_shell.specs.Readings.{batch_length, IsReadingText}

-- the text of a reading of these cells was put, or a beginning of it
abbrev pub PutsReading : {W E : Type 0} → Ghosts W → W → W → List Cell → Result (Unit {0}) E → Type 0
PutsReading g o o' all r = (text : List ℕ) × IsReadingText all text × Puts g o o' text r

-- the cells that are left of a session
abbrev pub left_of : SessionState → List Cell
left_of held = drop held.given held.all

-- a full batch was put; or what is left, to its end or until memory lacked
abbrev pub PutsBatch : {W E : Type 0} → Ghosts W → W → W → SessionState → SessionState → Result Bool E → Type 0
PutsBatch g o o' old new (Ok true) = (new ≡ gave batch_length old) × (length (batch old batch_length) ≡ batch_length) × HasPut g o o' (flat_map cell_text (batch old batch_length))
PutsBatch g o o' old new (Ok false) = (text : List ℕ) × IsReadingText (left_of old) text × HasPut g o o' text
PutsBatch g o o' old new (Err e) = (text : List ℕ) × IsReadingText (left_of old) text × HasPutPart g o o' text

-- the last text of a reading was put, or a beginning of it
abbrev pub PutsEnd : {W E : Type 0} → Ghosts W → W → W → List ℕ → Result Bool E → Type 0
PutsEnd g o o' text (Ok true) = ⊥
PutsEnd g o o' text (Ok false) = HasPut g o o' text
PutsEnd g o o' text (Err e) = HasPutPart g o o' text

-- the cells of a full batch were put, or those of the last one with an end
abbrev pub PutsTaken : {W E : Type 0} → Ghosts W → W → W → List Cell → Result Bool E → Type 0
PutsTaken g o o' cells (Ok true) = (length cells ≡ batch_length) × HasPut g o o' (flat_map cell_text cells)
PutsTaken g o o' cells (Ok false) = (length cells ≢ batch_length) × HasPut g o o' (scan_text cells)
PutsTaken g o o' cells (Err e) = HasPutPart g o o' (flat_map cell_text cells) ⊎ ((length cells ≢ batch_length) × HasPutPart g o o' (scan_text cells))

-- what a scan is answered was put: the reading of a session that it opened, which is counted as one of the user's; or else the reply
abbrev pub PutsScan : {W E : Type 0} → Ghosts W → W → W → UserSessions → UserSessions → Reply OpenSession TabletMerge → Result (Unit {0}) E → Type 0
PutsScan g o o' kept kept' reply r =
    ((session : OpenSession) × (reply ≡ Opened session) × (kept' ≡ record kept { scanned = kept.scanned + 1 }) × PutsReading g o o' (left_of session.state) r)
    ⊎ (((session : OpenSession) → reply ≡ Opened session → ⊥) × (kept' ≡ kept) × Puts g o o' (reply_text (told_of reply)) r)
