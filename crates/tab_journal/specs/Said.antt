-- For proofs. What headers, batches and ends of journals in the code stand for.
use Rattle.std.specs.Prelude.{ℕ, ◌+◌, ◌-◌, nat_le, Bool, true, ◌&&◌, List, [], ◌∷◌, length}
use Rattle.std.specs.List.{fold}
use Rattle.tab_journal.specs.declared.batch.JournalBatch.{JournalBatch as TheBatch}
use Rattle.tab_journal.specs.declared.header.Header.{Header as TheFront}
use Rattle.tab_journal.specs.declared.journal_end.JournalEnd.{JournalEnd as TheEnd}
use Rattle.tab_journal.specs.declared.seal.Form.{Form}
use Rattle.tab_journal.specs.Journals.{Header, Batch}
use Rattle.tab_journal.specs.Reading.{Journal}
use Rattle.tab_journal.specs.Writing.{around}

abbrev pub header_in : TheFront → Header
header_in f = record { format = f.format; generation = f.generation; next = f.next; clock = f.clock; seal = f.seal; sum = f.sum }

abbrev pub batch_in : TheBatch → Batch
batch_in b = record { settled = b.settled; body = b.body.now; sum = b.sum }

-- where a journal ends: its header, the last sum, how many bytes it has, how many are left behind it, and whether each batch says that no more was on the
-- disk than stands before it
pub record End : Type 0 where
  pub header : Header
  pub sum : ℕ
  pub length : ℕ
  pub left : ℕ
  pub is_timely : Bool

abbrev pub end_in : TheEnd → End
end_in e = record { header = header_in e.header; sum = e.sum; length = e.length; left = e.left; is_timely = e.is_timely }

abbrev pub last_of : ℕ → List Batch → ℕ
last_of before bs = fold (λ (sum : ℕ) (b : Batch). b.sum) before bs

-- whether each of these batches, of which the first has so many bytes before it, says that no more was on the disk than it has before it
abbrev pub are_timely : Form → ℕ → List Batch → Bool
are_timely form at [] = true
are_timely form at (b ∷ bs) = nat_le b.settled at && are_timely form (at + (around form + length b.body)) bs

abbrev pub ends_of : List ℕ → Journal → End
ends_of bytes j = record { header = j.header; sum = last_of j.header.sum j.batches; length = length bytes - length j.left; left = length j.left; is_timely = are_timely j.header.seal.form 48 j.batches }
