-- The frame of a cell: how long it is, and that it is its head and its fields.
use Rattle.std.proofs.Common.{◌≡◌, ℕ, ◌+◌, ◌%◌, ◌^◌, List, [], ◌∷◌, ◌++◌, length, take, ap, ◌∙◌, subst, arith, append_assoc, length-append, Result}
use Rattle.tab_key.specs.Records.{Cell}
use Rattle.tab_io.specs.Writing.{HasPut, HasPutPart, Puts}
use Rattle.tab_io.specs.declared.writing.Output.{Ghosts}
use Rattle.tab_io.proofs.Putting.{puts_more, part_longer}
use Rattle.tab_wire.specs.Replies.{u32, i64, field, cell_fields, cell_frame}
use Rattle.tab_codec.proofs.Lengths.{low_bytes}

-- an opcode, five lengths and a timestamp take 29 bytes
pub cell_length : (c : Cell) → (((((length c.key.row % 2 ^ 32 + length c.key.family % 2 ^ 32) % 2 ^ 32 + length c.key.qualifier % 2 ^ 32) % 2 ^ 32 + length c.key.label % 2 ^ 32) % 2 ^ 32 + length c.value % 2 ^ 32) % 2 ^ 32 + 29) % 2 ^ 32
    ≡ length (130 ∷ cell_fields c) % 2 ^ 32
unfolding u32 i64
cell_length c = omega (
  arith,
  length-append c.key.row (field c.key.family ++ (field c.key.qualifier ++ (field c.key.label ++ (i64 c.key.timestamp ++ field c.value)))),
  length-append c.key.family (field c.key.qualifier ++ (field c.key.label ++ (i64 c.key.timestamp ++ field c.value))),
  length-append c.key.qualifier (field c.key.label ++ (i64 c.key.timestamp ++ field c.value)),
  length-append c.key.label (i64 c.key.timestamp ++ field c.value),
)

-- the head, with what four bytes hold of the length, and the fields are the frame
head_and_fields : (c : Cell) (n : ℕ) → n ≡ length (130 ∷ cell_fields c) % 2 ^ 32 → (u32 n ++ 130 ∷ []) ++ cell_fields c ≡ cell_frame c
head_and_fields c n is = append_assoc (u32 n) (130 ∷ []) (cell_fields c) ∙ ap (λ (t : List ℕ). t ++ (130 ∷ cell_fields c)) (ap u32 is ∙ low_bytes (length (130 ∷ cell_fields c)))

pub frame_put : {W E : Type 0} (g : Ghosts W) (a b d : W) (c : Cell) (n : ℕ) (r : Result (Unit {0}) E) → n ≡ length (130 ∷ cell_fields c) % 2 ^ 32 → HasPut g a b (u32 n ++ 130 ∷ []) → Puts g b d (cell_fields c) r → Puts g a d (cell_frame c) r
frame_put g a b d c n r is head fields = subst (λ t. Puts g a d t r) (head_and_fields c n is) (puts_more g a b d (u32 n ++ 130 ∷ []) (cell_fields c) r head fields)

-- a beginning of the head is one of the frame
pub frame_begun : {W : Type 0} {g : Ghosts W} {a b : W} (c : Cell) (n : ℕ) → n ≡ length (130 ∷ cell_fields c) % 2 ^ 32 → HasPutPart g a b (u32 n ++ 130 ∷ []) → HasPutPart g a b (cell_frame c)
frame_begun {g = g} {a = a} {b = b} c n is head = subst (λ t. HasPutPart g a b t) (head_and_fields c n is) (part_longer (cell_fields c) head)

-- what is put before a byte string, and of longer bytes as many as it has, are the text
pub with_lead : (lead bytes text : List ℕ) (before value : List ℕ) (n : ℕ) → lead ≡ before → take n bytes ≡ value → before ++ value ≡ text → lead ++ take n bytes ≡ text
with_lead lead bytes text before value n is front whole = (λ i. is i ++ front i) ∙ whole
