-- For proofs. What reading bytes and numbers from the front of an input does.
use Rattle.std.specs.Prelude.{ℕ, ◌≡◌, ◌<◌, ◌≤◌, Bool, true, false, List, length, Result, Ok, Err}
use Rattle.std.specs.Io.KnownBytes.{Keeps}
use Rattle.tab_io.specs.Streams.{IsEnd, BeginsWith}
use Rattle.tab_io.specs.declared.reading.Input.{Ghosts}
use Rattle.tab_codec.specs.Reading.{Reader}
use Rattle.tab_image.specs.declared.unread.Unread.{Unread}
use Rattle.tab_image.specs.Streams.{ReadFailed, Stops, Appended, text_of}

-- a byte is to come, and is in the front; or the input has ended; or a read failed
abbrev pub IsAhead : {R E : Type 0} → Ghosts R → R → R → Result Bool E → Type 0
IsAhead g old new (Ok true) = Keeps (g.remaining old) (g.remaining new) × (0 < length (g.front new)) × (g.faults new ≡ g.faults old) × BeginsWith (g.remaining new) (g.front new)
IsAhead g old new (Ok false) = IsEnd (g.remaining old) (g.remaining new) × (g.faults new ≡ g.faults old)
IsAhead g old new (Err e) = ReadFailed g old new

-- bytes were taken, and put behind what was there
abbrev pub Appends : {R A : Type 0} → Ghosts R → R → R → Reader (List ℕ) → List ℕ → List ℕ → Result A Unread → Type 0
Appends g old new reads before after (Ok x) = Appended g old new reads before after
Appends g old new reads before after (Err e) = Stops g old new reads e

-- some of so many were, and how many is told
abbrev pub AppendsSome : {R : Type 0} → Ghosts R → R → R → ℕ → List ℕ → List ℕ → Result ℕ Unread → Type 0
AppendsSome g old new most before after (Ok n) = (0 < n) × (n ≤ most) × Appended g old new (text_of n) before after
AppendsSome g old new most before after (Err e) = Stops g old new (text_of most) e
