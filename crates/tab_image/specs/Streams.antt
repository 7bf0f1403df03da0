-- For proofs. What reading a part from an input does, said over the ghosts of the input.
use Rattle.std.specs.Prelude.{ℕ, ◌≡◌, ◌<◌, ◌⊎◌, List, ◌++◌, Option, Some, None, Result, Ok, Err, Vec, ⊤}
use Rattle.std.specs.declared.alloc.Global.{Global}
use Rattle.tab_label.specs.Sets.{byte_lists}
use Rattle.tab_io.specs.declared.reading.Input.{Ghosts}
use Rattle.tab_codec.specs.Reading.{Reader, bytes_at}
use Rattle.tab_image.specs.declared.unread.Unread.{Unread}
use Rattle.tab_image.specs.declared.unread.Unread.TheVariants as unread

-- of known bytes such a part stood at the front, and those behind it are left
abbrev pub Leaves : {A : Type 0} → Option (List ℕ) → Option (List ℕ) → Reader A → A → Type 0
Leaves None new reads x = ⊤
Leaves (Some bytes) new reads x = (rest : List ℕ) × (reads bytes ≡ Some (x, rest)) × (new ≡ Some rest)

-- known bytes don't begin with such a part
abbrev pub Lacks : {A : Type 0} → Option (List ℕ) → Reader A → Type 0
Lacks None reads = ⊤
Lacks (Some bytes) reads = reads bytes ≡ None

-- a read failed, or the budget of 2^64 - 1 reads is spent
abbrev pub ReadFailed : {R : Type 0} → Ghosts R → R → R → Type 0
ReadFailed g old new = (g.budget new ≡ 0) ⊎ (g.faults old < g.faults new)

-- the part was read, and no read failed
pub record HasRead {R A : Type 0} (g : Ghosts R) (old new : R) (reads : Reader A) (x : A) : Type 0 where
  pub bytes : Leaves (g.remaining old) (g.remaining new) reads x
  pub faults : g.faults new ≡ g.faults old

-- what each reason says; want of memory says nothing of the bytes
abbrev pub Says : {R A : Type 0} → Ghosts R → R → R → Reader A → Unread → Type 0
Says g old new reads unread.Bad = Lacks (g.remaining old) reads
Says g old new reads unread.Io = ReadFailed g old new
Says g old new reads unread.NoMemory = ⊤

-- why the part wasn't read
pub record Stops {R A : Type 0} (g : Ghosts R) (old new : R) (reads : Reader A) (e : Unread) : Type 0 where
  pub why : Says g old new reads e

-- the part was read, or it is told why not
abbrev pub Reads : {R A : Type 0} → Ghosts R → R → R → Reader A → Result A Unread → Type 0
Reads g old new reads (Ok x) = HasRead g old new reads x
Reads g old new reads (Err e) = Stops g old new reads e

-- ---- byte strings
-- so many bytes
unfoldable pub text_of : ℕ → Reader (List ℕ)
text_of n = bytes_at n

-- a text was read, and put behind what was there
pub record Appended {R : Type 0} (g : Ghosts R) (old new : R) (reads : Reader (List ℕ)) (before after : List ℕ) : Type 0 where
  pub text : List ℕ
  pub whole : after ≡ before ++ text
  pub read : HasRead g old new reads text

-- ---- vectors, by what is in them
abbrev pub items_of : Result (Vec ℕ Global) Unread → Result (List ℕ) Unread
items_of (Ok text) = Ok text.items
items_of (Err e) = Err e

abbrev pub texts_of : Result (Vec (Vec ℕ Global) Global) Unread → Result (List (List ℕ)) Unread
texts_of (Ok texts) = Ok (byte_lists texts.items)
texts_of (Err e) = Err e
