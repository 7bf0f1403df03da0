-- For proofs. What reading a record from an input does.
use Rattle.std.specs.Prelude.{ℕ, ◌≡◌, Bool, true, false, List, [], ◌∷◌, ◌++◌, length, Some, Result, Ok, Err}
use Rattle.tab_key.specs.Encoding.{IsShort}
use Rattle.tab_key.specs.KeyOf.{key_of}
use Rattle.tab_key.specs.Records.{Record}
use Rattle.tab_key.specs.RecordSpans.{record_in, IsWithin}
use Rattle.tab_key.specs.declared.record_span.RecordSpan.{RecordSpan}
use Rattle.tab_io.specs.declared.reading.Input.{Ghosts}
use Rattle.tab_image.specs.declared.lent_record.LentRecord.{LentRecord}
use Rattle.tab_image.specs.declared.record_reading.Laid.{Laid}
use Rattle.tab_image.specs.declared.unread.Unread.{Unread}
use Rattle.tab_image.specs.Reading.{record_at}
use Rattle.tab_image.specs.Streams.{HasRead, Stops}

-- where the parts lie of a record that a body holds alone
abbrev pub span_of : List ℕ → Laid → RecordSpan
span_of body l = record { start = 0; row_end = l.row_end; family_end = l.family_end; qualifier_end = l.qualifier_end; label_end = l.label_end; end = length body; timestamp = l.timestamp; seq = l.seq; idx = l.idx; kind = l.kind }

-- a record was read; its parts lie in the body, one behind another
pub record HasLaid {R : Type 0} (g : Ghosts R) (old new : R) (body : List ℕ) (laid : Laid) : Type 0 where
  pub read : HasRead g old new record_at (record_in body (span_of body laid))
  pub within : IsWithin body (span_of body laid)
  pub short : IsShort (record_in body (span_of body laid))

abbrev pub Lays : {R : Type 0} → Ghosts R → R → R → List ℕ → Result Laid Unread → Type 0
Lays g old new body (Ok laid) = HasLaid g old new body laid
Lays g old new body (Err e) = Stops g old new record_at e

-- a record was read, and is the last one now
pub record HasAdded {R : Type 0} (g : Ghosts R) (old new : R) (before after : List Record) : Type 0 where
  pub last : Record
  pub read : HasRead g old new record_at last
  pub added : after ≡ before ++ last ∷ []

abbrev pub Adds : {R : Type 0} → Ghosts R → R → R → List Record → List Record → Result (Unit {0}) Unread → Type 0
Adds g old new before after (Ok u) = HasAdded g old new before after
Adds g old new before after (Err e) = Stops g old new record_at e

-- ---- where a record lies whole in the bytes that are here
-- the record of parts that are lent
abbrev pub lent_record : LentRecord → Record
lent_record l = record { key = key_of l.key; kind = l.kind; value = l.value.now; seq = l.seq; idx = l.idx }

-- the bytes begin with a record, and the rest is behind it; it is read there whatever follows it
pub record Begins (bytes : List ℕ) (r : Record) (rest : List ℕ) : Type 0 where
  pub text : List ℕ
  pub whole : bytes ≡ text ++ rest
  pub read : (more : List ℕ) → record_at (text ++ more) ≡ Some (r, more)

-- a record was read, and is the last one now; or nothing was done
abbrev pub AddsFront : {R : Type 0} → Ghosts R → R → R → List Record → List Record → Result Bool Unread → Type 0
AddsFront g old new before after (Ok true) = HasAdded g old new before after
AddsFront g old new before after (Ok false) = (new ≡ old) × (after ≡ before)
AddsFront g old new before after (Err e) = Stops g old new record_at e
