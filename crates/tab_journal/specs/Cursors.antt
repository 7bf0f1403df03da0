-- For proofs. What a cursor stands for.
use Rattle.std.specs.Prelude.{ℕ, ◌≡◌, ◌+◌, ◌-◌, ◌<◌, ◌≤◌, ◌^◌, Bool, true, false, List, [], ◌∷◌, ◌++◌, length, take, drop, None, slice_range}
use Rattle.tab_codec.specs.Parts.{IsBytes}
use Rattle.tab_journal.specs.declared.cursor.Cursor.{Cursor}
use Rattle.tab_journal.specs.Journals.{Batch, IsJournal}
use Rattle.tab_journal.specs.Laws.{last_sum}
use Rattle.tab_journal.specs.Reading.{batch_at}
use Rattle.tab_journal.specs.Said.{header_in, End, are_timely}

-- the sum that ends what was taken, and what stands behind it; what isn't taken; and the body of the last batch that was
abbrev pub window_of : Cursor → List ℕ
window_of c = drop (c.start - 8) c.buffer.items

abbrev pub unread_of : Cursor → List ℕ
unread_of c = drop c.start c.buffer.items

abbrev pub body_of : Cursor → List ℕ
body_of c = slice_range c.buffer.items (c.start - 8 - c.body) (c.start - 8)

-- so many of these bytes were taken, a header at least, and the window stands behind
pub record IsPlaced (bytes : List ℕ) (c : Cursor) : Type 0 where
  pub low : 48 ≤ c.taken
  pub long : c.taken ≤ length bytes
  pub window : window_of c ≡ drop (c.taken - 8) bytes

-- of these bytes a header and these batches were taken
pub record HasTaken (bytes : List ℕ) (c : Cursor) (bs : List Batch) : Type 0 where
  pub fits : IsBytes bytes
  pub placed : IsPlaced bytes c
  pub journal : IsJournal (take c.taken bytes) (header_in c.header) bs
  pub summed : c.sum ≡ last_sum (header_in c.header) bs
  pub timely : c.is_timely ≡ are_timely c.header.seal.form 48 bs

-- the next batch is taken, and its body is here
pub record TakesOne (old new : Cursor) : Type 0 where
  pub batch : Batch
  pub header : new.header ≡ old.header
  pub placed : (bytes : List ℕ) → IsPlaced bytes old → IsPlaced bytes new
  pub taken : (bytes : List ℕ) (bs : List Batch) → HasTaken bytes old bs → HasTaken bytes new (bs ++ batch ∷ [])
  pub body : body_of new ≡ batch.body
  pub more : old.taken + length batch.body < new.taken

-- or none begins here, and nothing has changed
abbrev pub TakesNext : Cursor → Cursor → Bool → Type 0
TakesNext old new true = TakesOne old new
TakesNext old new false = (new ≡ old) × (batch_at old.header.seal old.sum (unread_of old) ≡ None)

-- these bytes are here, of which those behind the window weren't; or they are too many, and nothing has changed
pub record GrowsBy (old new : Cursor) (bytes : List ℕ) : Type 0 where
  pub header : new.header ≡ old.header
  pub same : new.taken ≡ old.taken
  pub placed : (seen : List ℕ) → IsPlaced seen old → IsPlaced (seen ++ drop (length (window_of old)) bytes) new
  pub taken : (seen : List ℕ) (bs : List Batch) → HasTaken seen old bs → HasTaken (seen ++ drop (length (window_of old)) bytes) new bs

abbrev pub Grows : Cursor → Cursor → List ℕ → Bool → Type 0
Grows old new bytes true = GrowsBy old new bytes
Grows old new bytes false = (new ≡ old) × (2 ^ 64 + 8 ≤ old.taken + length bytes)

-- where the journal ends
abbrev pub end_of : Cursor → End
end_of c = record { header = header_in c.header; sum = c.sum; length = c.taken; left = length (unread_of c); is_timely = c.is_timely }
