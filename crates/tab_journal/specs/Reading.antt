-- For proofs. What the bytes of a journal say, as a function.
use Rattle.std.specs.Prelude.{ℕ, ℤ, zero, suc, ◌==◌, List, [], ◌∷◌, length, bytes_eq, Option, Some, None, unwrap_or, if◌then◌else◌}
use Rattle.tab_history.specs.declared.event.Event.{Event}
use Rattle.tab_codec.specs.Reading.{◌>>=◌, Reader, and_then, mapped, picked, given, only_if, whole, u64_at, i64_at, bytes_at, field_at, is_name, name_at}
use Rattle.tab_wire.specs.Requests.{request_in}
pub use Rattle.tab_event_record.specs.Records.{act_of}
use Rattle.tab_journal.specs.declared.format.Format.{Format}
use Rattle.tab_journal.specs.declared.format.Format.TheVariants.{Lines, Events}
use Rattle.tab_journal.specs.declared.seal.Form.{Form}
use Rattle.tab_journal.specs.declared.seal.Form.TheVariants.{Plain, Tagged}
use Rattle.tab_journal.specs.declared.seal.Seal.{Seal}
use Rattle.tab_journal.specs.Journals.{sum_of, mark, Header, header_summed, Batch, batch_summed}

-- ---- the header
abbrev pub header_of : Format × Form → ℕ → ℕ → ℤ → ℕ → ℕ → Option Header
header_of kind generation next clock salt sum =
    only_if (λ (f : Header). f.sum == sum_of (header_summed f.format f.generation f.next f.clock f.seal))
    (record { format = kind.0; generation = generation; next = next; clock = clock; seal = record { form = kind.1; salt = salt }; sum = sum })

-- the format and the form whose mark this is
abbrev pub kind_of : List ℕ → Option (Format × Form)
kind_of text =
    if bytes_eq text (mark Lines Plain) then Some (Lines, Plain)
    else if bytes_eq text (mark Events Plain) then Some (Events, Plain)
    else if bytes_eq text (mark Lines Tagged) then Some (Lines, Tagged)
    else if bytes_eq text (mark Events Tagged) then Some (Events, Tagged)
    else None

unfoldable pub mark_at : Reader (Format × Form)
mark_at bytes = picked kind_of (bytes_at 8) bytes

unfoldable pub header_at : Reader Header
header_at bytes = and_then mark_at (λ kind. and_then u64_at (λ generation. and_then u64_at (λ next. and_then i64_at (λ clock. and_then u64_at (λ salt. picked (header_of kind generation next clock salt) u64_at))))) bytes

-- ---- batches
abbrev pub batch_of : ℕ → ℕ → ℕ → List ℕ → ℕ → Option Batch
batch_of salt before settled body sum = only_if (λ (b : Batch). b.sum == sum_of (batch_summed salt before b.settled b.body)) (record { settled = settled; body = body; sum = sum })

-- one without its tag
unfoldable pub summed_at : ℕ → ℕ → Reader Batch
summed_at salt before bytes = and_then u64_at (λ settled. and_then field_at (λ body. picked (batch_of salt before settled body) u64_at)) bytes

abbrev pub tag_of : ℕ → ℕ → Option (Unit {0})
tag_of salt n = if n == salt then Some tt else None

-- the tag, of which nothing is to be known but that it stands there
unfoldable pub tag_in : Form → ℕ → Reader (Unit {0})
tag_in Plain salt bytes = given tt bytes
tag_in Tagged salt bytes = picked (tag_of salt) u64_at bytes

unfoldable pub batch_at : Seal → ℕ → Reader Batch
batch_at seal before bytes = and_then (tag_in seal.form seal.salt) (λ tag. summed_at seal.salt before) bytes

-- at most so many batches, and what stands behind them
abbrev pub batches_within : Seal → ℕ → ℕ → List ℕ → List Batch × List ℕ
batches_within seal before zero bytes = ([], bytes)
batches_within seal before (suc k) bytes = unwrap_or (batch_at seal before bytes >>= λ b. let behind = batches_within seal b.0.sum k b.1 in Some (b.0 ∷ behind.0, behind.1)) ([], bytes)

-- ---- journals
-- the header, the whole batches behind it, and what is left behind these
pub record Journal : Type 0 where
  pub header : Header
  pub batches : List Batch
  pub left : List ℕ

abbrev pub journal_from : Header × List ℕ → Journal
journal_from f = let read = batches_within f.0.seal f.0.sum (length f.1) f.1 in record { header = f.0; batches = read.0; left = read.1 }

-- what these bytes say; nothing, where they don't begin with a header
unfoldable pub journal_of : List ℕ → Option Journal
journal_of bytes = header_at bytes >>= λ f. Some (journal_from f)

-- ---- entries
abbrev pub event_of : ℤ → List ℕ → List ℕ → Option Event
event_of moment user body = act_of (request_in body) >>= λ act. Some (record { user = user; moment = moment; act = act })

-- an entry of which neither the name nor the act is read yet
pub record Parts : Type 0 where
  pub moment : ℤ
  pub user : List ℕ
  pub body : List ℕ

unfoldable pub parts_at : Reader Parts
parts_at bytes = and_then i64_at (λ moment. and_then field_at (λ user. mapped (λ body. record { moment = moment; user = user; body = body }) field_at)) bytes

-- the entry of this moment, user and body, before these bytes
abbrev pub entry_of : ℤ → List ℕ → List ℕ → List ℕ → Option (Event × List ℕ)
entry_of moment user body rest = event_of moment user body >>= λ e. Some (e, rest)

-- the same of parts
abbrev pub entry_of_parts : Parts × List ℕ → Option (Event × List ℕ)
entry_of_parts p = only_if is_name p.0.user >>= λ user. entry_of p.0.moment user p.0.body p.1

unfoldable pub entry_at : Reader Event
entry_at bytes = and_then i64_at (λ moment. and_then name_at (λ user. picked (event_of moment user) field_at)) bytes

-- at most so many entries, and what stands behind them
abbrev pub entries_within : ℕ → List ℕ → List Event × List ℕ
entries_within zero bytes = ([], bytes)
entries_within (suc k) bytes = unwrap_or (entry_at bytes >>= λ e. let behind = entries_within k e.1 in Some (e.0 ∷ behind.0, behind.1)) ([], bytes)

-- the entries in front, and what is left behind them: no entry
unfoldable pub entries_from : List ℕ → List Event × List ℕ
entries_from bytes = entries_within (length bytes) bytes

-- the entries, where nothing is left
unfoldable pub entries_in : List ℕ → Option (List Event)
entries_in bytes = whole (Some (entries_from bytes))
