-- To be believed by whoever relies on it. How a stream of bytes is split into frames.
use Rattle.std.specs.Prelude.{ℕ, zero, suc, ◌≡◌, ◌↔◌, ◌≤◌, ◌<◌, ◌^◌, ◌==◌, nat_lt, List, [], ◌∷◌, ◌++◌, length, take, drop, if◌then◌else◌}
use Rattle.std.specs.Int.{w32, from_be_bytes, to_be_bytes}
use Rattle.tab_wire.specs.declared.reason.Reason.{Reason}
use Rattle.tab_wire.specs.declared.reason.Reason.TheVariants as reason
use Rattle.tab_codec.specs.Parts.{IsBytes}

-- what comes next on a stream: a frame with these bytes, or what is no frame and ends the connection
pub data Piece : Type 0 where
  Frame : List ℕ → Piece
  Broken : Reason → Piece

-- the most bytes in a frame
abbrev pub max_frame : ℕ
max_frame = 8388608

-- ---- as a relation
-- the stream is these pieces; what follows a piece that is no frame isn't looked at
pub data IsStream : List ℕ → List Piece → Type 0 where
  -- the end of the input between two frames
  ended : IsStream [] []
  frame : (body rest : List ℕ) (pieces : List Piece) → 0 < length body → length body ≤ max_frame → IsStream rest pieces
      → IsStream (to_be_bytes w32 (length body) ++ (body ++ rest)) (Frame body ∷ pieces)
  empty : (rest : List ℕ) → IsStream (to_be_bytes w32 0 ++ rest) (Broken reason.Empty ∷ [])
  too_long : (n : ℕ) (rest : List ℕ) → max_frame < n → n < 2 ^ 32 → IsStream (to_be_bytes w32 n ++ rest) (Broken reason.TooLong ∷ [])
  -- the end of the input inside the length, or inside the bytes of a frame
  cut_length : (bytes : List ℕ) → 0 < length bytes → length bytes < 4 → IsStream bytes (Broken reason.Cut ∷ [])
  cut_body : (n : ℕ) (front : List ℕ) → 0 < n → n ≤ max_frame → length front < n → IsStream (to_be_bytes w32 n ++ front) (Broken reason.Cut ∷ [])

-- ---- as a function
-- the frame of n bytes in front, and what stands behind it; behind what is no frame nothing is looked at
abbrev pub body_at : ℕ → List ℕ → Piece × List ℕ
body_at n bytes =
    if n == 0 then (Broken reason.Empty, [])
    else if nat_lt max_frame n then (Broken reason.TooLong, [])
    else if nat_lt (length bytes) n then (Broken reason.Cut, [])
    else (Frame (take n bytes), drop n bytes)

-- what some bytes begin with, and what stands behind it
unfoldable pub piece_at : List ℕ → Piece × List ℕ
piece_at bytes = if nat_lt (length bytes) 4 then (Broken reason.Cut, []) else body_at (from_be_bytes w32 (take 4 bytes)) (drop 4 bytes)

-- at most so many pieces
abbrev pub pieces_within : ℕ → List ℕ → List Piece
pieces_within zero bytes = []
pieces_within (suc k) [] = []
pieces_within (suc k) (b ∷ bytes) = let next = piece_at (b ∷ bytes) in next.0 ∷ pieces_within k next.1

-- all pieces of a stream; there are no more of them than bytes
unfoldable pub pieces_of : List ℕ → List Piece
pieces_of bytes = pieces_within (length bytes) bytes

-- the bytes begin with these pieces, one behind the other, and this stands behind the last of them
abbrev pub AtFront : List ℕ → List Piece → List ℕ → Type 0
AtFront bytes [] behind = behind ≡ bytes
AtFront [] (piece ∷ pieces) behind = ⊥
AtFront (b ∷ bytes) (piece ∷ pieces) behind = let next = piece_at (b ∷ bytes) in (next.0 ≡ piece) × AtFront next.1 pieces behind

-- ---- The law: a stream is split in one way, and that is the one computed.
abbrev pub StreamsSplitOnce : Type 0
StreamsSplitOnce = (bytes : List ℕ) (pieces : List Piece) → IsBytes bytes → (pieces_of bytes ≡ pieces) ↔ IsStream bytes pieces
