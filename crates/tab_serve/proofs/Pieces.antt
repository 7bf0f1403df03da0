-- The pieces of a stream, one after another.
use Rattle.std.proofs.Common.{◌≡◌, ℕ, zero, suc, ◌<◌, ◌≤◌, ◌==◌, true, false, cond, ltb, List, [], ◌∷◌, length, take, drop, refl, ap, arith, length-drop}
use Rattle.std.specs.Int.{w32, from_be_bytes}
use Rattle.std.proofs.lemmas.Bool.{ltb-false}
use Rattle.tab_wire.specs.declared.reason.Reason.{Reason}
use Rattle.tab_wire.specs.declared.reason.Reason.TheVariants as reason
use Rattle.tab_wire.specs.Stream.{Piece, Frame, Broken, max_frame, body_at, piece_at, pieces_within, pieces_of}

-- how much stands behind a piece
abbrev left_by : Piece × List ℕ → ℕ
left_by next = length next.1

-- no more than before
body_shorter : (n : ℕ) (more : List ℕ) → left_by (body_at n more) ≤ length more
body_shorter n more =
    elim (n == 0) as (λ b. left_by (cond b (Broken reason.Empty, []) (cond (ltb max_frame n) (Broken reason.TooLong, []) (cond (ltb (length more) n) (Broken reason.Cut, []) (Frame (take n more), drop n more)))) ≤ length more) [
      | true ↦ omega arith
      | false ↦ elim (ltb max_frame n) as (λ b. left_by (cond b (Broken reason.TooLong, []) (cond (ltb (length more) n) (Broken reason.Cut, []) (Frame (take n more), drop n more))) ≤ length more) [
        | true ↦ omega arith
        | false ↦ elim (ltb (length more) n) as (λ b. left_by (cond b (Broken reason.Cut, []) (Frame (take n more), drop n more)) ≤ length more) [
          | true ↦ omega arith
          | false ↦ omega (arith, length-drop n more)
        ]
      ]
    ]

shorter : (b : ℕ) (bytes : List ℕ) → left_by (piece_at (b ∷ bytes)) < length (b ∷ bytes)
unfolding piece_at
shorter b bytes =
    elim (ltb (length (b ∷ bytes)) 4) as (λ t. ltb (length (b ∷ bytes)) 4 ≡ t → left_by (cond t (Broken reason.Cut, []) (body_at (from_be_bytes w32 (take 4 (b ∷ bytes))) (drop 4 (b ∷ bytes)))) < length (b ∷ bytes)) [
      | true ↦ λ few. omega arith
      | false ↦ λ enough. omega (arith, ltb-false (length (b ∷ bytes)) 4 enough, body_shorter (from_be_bytes w32 (take 4 (b ∷ bytes))) (drop 4 (b ∷ bytes)), length-drop 4 (b ∷ bytes))
    ] refl

-- there are no more pieces than bytes
enough : (k m : ℕ) (bytes : List ℕ) → length bytes ≤ k → length bytes ≤ m → pieces_within k bytes ≡ pieces_within m bytes
enough zero zero bytes a b = refl
enough zero (suc m) [] a b = refl
enough zero (suc m) (x ∷ xs) a b = absurd (omega (arith, a))
enough (suc k) zero [] a b = refl
enough (suc k) zero (x ∷ xs) a b = absurd (omega (arith, b))
enough (suc k) (suc m) [] a b = refl
enough (suc k) (suc m) (x ∷ xs) a b =
    let less : length (piece_at (x ∷ xs)).1 < length (x ∷ xs) = shorter x xs in
    ap (λ (ps : List Piece). (piece_at (x ∷ xs)).0 ∷ ps) (enough k m (piece_at (x ∷ xs)).1 (omega (arith, less, a)) (omega (arith, less, b)))

-- a stream is its first piece, and those behind it
pub next_piece : (b : ℕ) (bytes : List ℕ) → pieces_of (b ∷ bytes) ≡ (piece_at (b ∷ bytes)).0 ∷ pieces_of (piece_at (b ∷ bytes)).1
unfolding pieces_of
next_piece b bytes =
    let less : length (piece_at (b ∷ bytes)).1 < length (b ∷ bytes) = shorter b bytes in
    ap (λ (ps : List Piece). (piece_at (b ∷ bytes)).0 ∷ ps) (enough (length bytes) (length (piece_at (b ∷ bytes)).1) (piece_at (b ∷ bytes)).1 (omega (arith, less)) (omega arith))

pub no_piece : pieces_of [] ≡ []
unfolding pieces_of
no_piece = refl

-- behind what is no frame nothing is looked at
abbrev Ends : Piece × List ℕ → Type 0
Ends next = (r : Reason) → next.0 ≡ Broken r → next.1 ≡ []

body_ends : (n : ℕ) (more : List ℕ) → Ends (body_at n more)
body_ends n more =
    elim (n == 0) as (λ b. Ends (cond b (Broken reason.Empty, []) (cond (ltb max_frame n) (Broken reason.TooLong, []) (cond (ltb (length more) n) (Broken reason.Cut, []) (Frame (take n more), drop n more))))) [
      | true ↦ λ r is. refl
      | false ↦ elim (ltb max_frame n) as (λ b. Ends (cond b (Broken reason.TooLong, []) (cond (ltb (length more) n) (Broken reason.Cut, []) (Frame (take n more), drop n more)))) [
        | true ↦ λ r is. refl
        | false ↦ elim (ltb (length more) n) as (λ b. Ends (cond b (Broken reason.Cut, []) (Frame (take n more), drop n more))) [
          | true ↦ λ r is. refl
          | false ↦ λ r is. absurd cc
        ]
      ]
    ]

pub broken_ends : (b : ℕ) (bytes : List ℕ) → Ends (piece_at (b ∷ bytes))
unfolding piece_at
broken_ends b bytes =
    elim (ltb (length (b ∷ bytes)) 4) as (λ t. Ends (cond t (Broken reason.Cut, []) (body_at (from_be_bytes w32 (take 4 (b ∷ bytes))) (drop 4 (b ∷ bytes))))) [
      | true ↦ λ r is. refl
      | false ↦ body_ends (from_be_bytes w32 (take 4 (b ∷ bytes))) (drop 4 (b ∷ bytes))
    ]
