-- For proofs. What is taken of a stream, a frame at a time.
use Rattle.std.specs.Prelude.{ℕ, ◌≡◌, ◌<◌, ◌≤◌, ◌⊎◌, Bool, true, false, List, [], ◌∷◌, ◌++◌, length, Option, Some, None}
use Rattle.std.specs.Int.{w32, from_be_bytes}
use Rattle.std.specs.Io.KnownBytes.{Consumes}
use Rattle.tab_io.specs.Streams.{IsEnd}
use Rattle.tab_io.specs.declared.reading.Input.{Ghosts}
use Rattle.tab_wire.specs.declared.frame.Taken.{Taken}
use Rattle.tab_wire.specs.declared.frame.Taken.TheVariants as taken
use Rattle.tab_wire.specs.declared.head.Head.{Head}
use Rattle.tab_wire.specs.declared.head.Head.TheVariants as head
use Rattle.tab_wire.specs.declared.frame.FrameBuffer.{FrameBuffer}
use Rattle.tab_wire.specs.declared.reason.Reason.TheVariants as reason
use Rattle.tab_wire.specs.Stream.{Piece, Frame, Broken, max_frame, piece_at}

-- no piece is whole in these bytes: no frame, and no length that is none
abbrev pub IsPart : List ℕ → Type 0
IsPart bytes = (piece_at bytes).0 ≡ Broken reason.Cut

-- a part of a piece was taken of what is ahead, and the rest is left
abbrev pub TakesPart : Option (List ℕ) → Option (List ℕ) → Type 0
TakesPart old new = (part : List ℕ) × IsPart part × Consumes old new part

-- fewer bytes than so many were taken of what is ahead, and the rest is left
abbrev pub TakesFewer : ℕ → Option (List ℕ) → Option (List ℕ) → Type 0
TakesFewer count old new = (part : List ℕ) × (length part < count) × Consumes old new part

-- the same of the bytes of a frame, of which there are so many
abbrev pub TakesFewerOfFrame : ℕ → Option (List ℕ) → Option (List ℕ) → Type 0
TakesFewerOfFrame count old new = (0 < count) × (count ≤ max_frame) × TakesFewer count old new

-- these bytes are all that is ahead
abbrev pub EndsAfter : Option (List ℕ) → List ℕ → Type 0
EndsAfter None bytes = Unit {0}
EndsAfter (Some ahead) bytes = ahead ≡ bytes

-- the bytes of the frame that was taken
abbrev pub frame_in : FrameBuffer → List ℕ
frame_in b = b.bytes.items

-- the buffer has these bytes, unless memory lacked for them
abbrev pub Holds : FrameBuffer → List ℕ → Type 0
Holds b bytes = b.lost ≡ false → b.bytes.items ≡ bytes

-- these bytes were taken of what is ahead, and joined those that were gathered
pub record Took (old new : Option (List ℕ)) (before after : FrameBuffer) (bytes : List ℕ) : Type 0 where
  pub consumed : Consumes old new bytes
  pub added : (gone : List ℕ) → Holds before gone → Holds after (gone ++ bytes)

-- so many bytes were taken; or fewer, and no more are there
abbrev pub Gathered : Option (List ℕ) → Option (List ℕ) → FrameBuffer → FrameBuffer → ℕ → Bool → Type 0
Gathered old new before after count true = (bytes : List ℕ) × (length bytes ≡ count) × Took old new before after bytes
Gathered old new before after count false = (bytes : List ℕ) × (length bytes < count) × EndsAfter old bytes

-- one byte was taken, or there is none
abbrev pub TakesByte : Option (List ℕ) → Option ℕ → Option (List ℕ) → Type 0
TakesByte old None new = IsEnd old new
TakesByte old (Some byte) new = Consumes old new (byte ∷ [])

-- a length was taken; or there is nothing, or less
abbrev pub TakesHead : Option (List ℕ) → Head → Option (List ℕ) → Type 0
TakesHead old head.End new = IsEnd old new
TakesHead old head.Cut new = (bytes : List ℕ) × (0 < length bytes) × (length bytes < 4) × EndsAfter old bytes
TakesHead old (head.Length n) new = (bytes : List ℕ) × (length bytes ≡ 4) × (n ≡ from_be_bytes w32 bytes) × Consumes old new bytes

-- what was taken is this piece, and behind a frame the rest is left
abbrev pub TookPiece : Piece × List ℕ → Taken → List ℕ → Option (List ℕ) → Type 0
TookPiece next taken.End frame left = ⊥
TookPiece next taken.Frame frame left = (next.0 ≡ Frame frame) × (left ≡ Some next.1)
TookPiece next (taken.Broken reason) frame left = next.0 ≡ Broken reason
TookPiece next taken.NoMemory frame left = (body : List ℕ) × (next.0 ≡ Frame body) × (left ≡ Some next.1)

-- at the end of a stream nothing was taken, else the piece that it begins with
abbrev pub TakesPiece : List ℕ → Taken → List ℕ → Option (List ℕ) → Type 0
TakesPiece [] what frame left = (what ≡ taken.End) × (left ≡ Some [])
TakesPiece (b ∷ bytes) what frame left = TookPiece (piece_at (b ∷ bytes)) what frame left

-- ---- what a call costs the reader
-- some of its budget was spent, or none, and some of its front was taken; so a loop of such calls ends
abbrev pub Costs : {R : Type 0} → Ghosts R → R → R → Type 0
Costs i old new = (i.budget new < i.budget old) ⊎ ((i.budget new ≡ i.budget old) × (length (i.front new) < length (i.front old)))

-- some of its budget was spent, or none, and its front is no longer
abbrev pub CostsNoLess : {R : Type 0} → Ghosts R → R → R → Type 0
CostsNoLess i old new = (i.budget new < i.budget old) ⊎ ((i.budget new ≡ i.budget old) × (length (i.front new) ≤ length (i.front old)))

-- where the end was found, some of its budget was spent
abbrev pub Looked : {R : Type 0} → Ghosts R → R → R → Bool → Type 0
Looked i old new true = CostsNoLess i old new
Looked i old new false = i.budget new < i.budget old
