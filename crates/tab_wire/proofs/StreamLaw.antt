-- A stream is split in one way, and that is the one computed.
use Rattle.std.proofs.Common.{◌≡◌, ℕ, zero, suc, ◌+◌, ◌^◌, ◌<◌, ◌≤◌, ◌==◌, true, false, cond, ltb, List, [], ◌∷◌, ◌++◌, length, take, drop, refl, sym, ap, subst, ◌∙◌, arith}
use Rattle.std.specs.Int.{w32, from_be_bytes, to_be_bytes}
use Rattle.std.proofs.lemmas.Bool.{ltb-false, le-ltb, lt-ltb, eqb-true}
use Rattle.std.proofs.lemmas.Bool.Decides.{nat_tests}
use Rattle.std.proofs.lemmas.List.{take_at, drop_at, take-append-drop, length-append, length-take, length-drop}
use Rattle.std.proofs.lemmas.Nat.{from_be_bytes-to_be_bytes_4}
use Rattle.tab_wire.specs.declared.reason.Reason.TheVariants as reason
use Rattle.tab_codec.specs.Parts.{IsBytes}
use Rattle.tab_wire.specs.Stream.{Piece, Frame, Broken, max_frame, IsStream, ended, frame, empty, too_long, cut_length, cut_body, body_at, piece_at, pieces_within, pieces_of, StreamsSplitOnce}
use Rattle.tab_codec.proofs.Exact.{bytes-drop, bytes-take, wide32}

-- tests of numbers, as they compute
is_false : (a b : ℕ) → b ≤ a → ltb a b ≡ false
is_false a b le = le-ltb a b le

is_true : (a b : ℕ) → a < b → ltb a b ≡ true
is_true a b lt = lt-ltb a b lt

not_zero : (n : ℕ) → 0 < n → (n == 0) ≡ false
not_zero n lt = grind (arith, nat_tests)

-- no piece of nothing
none : (k : ℕ) → pieces_within k [] ≡ []
none zero = refl
none (suc k) = refl

-- ---- forwards
-- behind a length stands what it says
length_read : (n : ℕ) (more : List ℕ) → n < 2 ^ 32 → piece_at (to_be_bytes w32 n ++ more) ≡ body_at n more
unfolding piece_at
length_read n more lt =
    let enough : ltb (length (to_be_bytes w32 n ++ more)) 4 ≡ false = is_false _ _ (omega (arith, length-append (to_be_bytes w32 n) more)) in
    ap (λ b. cond b (Broken reason.Cut, []) (body_at (from_be_bytes w32 (to_be_bytes w32 n)) more)) enough ∙ ap (λ (m : ℕ). body_at m more) (from_be_bytes-to_be_bytes_4 n lt)

frame_read : (body rest : List ℕ) → 0 < length body → length body ≤ max_frame → piece_at (to_be_bytes w32 (length body) ++ (body ++ rest)) ≡ (Frame body, rest)
frame_read body rest low high =
    let a : (length body == 0) ≡ false = not_zero (length body) low in
    let b : ltb max_frame (length body) ≡ false = is_false _ _ high in
    let c : ltb (length (body ++ rest)) (length body) ≡ false = is_false _ _ (omega (arith, length-append body rest)) in
    length_read (length body) (body ++ rest) (omega (arith, high)) ∙ rw (a, b, c, take_at body rest (length body) refl, drop_at body rest (length body) refl) refl

empty_read : (rest : List ℕ) → piece_at (to_be_bytes w32 0 ++ rest) ≡ (Broken reason.Empty, [])
empty_read rest = length_read 0 rest (omega arith)

long_read : (n : ℕ) (rest : List ℕ) → max_frame < n → n < 2 ^ 32 → piece_at (to_be_bytes w32 n ++ rest) ≡ (Broken reason.TooLong, [])
long_read n rest over lt =
    let a : (n == 0) ≡ false = not_zero n (omega (arith, over)) in
    let b : ltb max_frame n ≡ true = is_true _ _ over in
    length_read n rest lt ∙ rw (a, b) refl

cut_read : (n : ℕ) (front : List ℕ) → 0 < n → n ≤ max_frame → length front < n → piece_at (to_be_bytes w32 n ++ front) ≡ (Broken reason.Cut, [])
cut_read n front low high short =
    let a : (n == 0) ≡ false = not_zero n low in
    let b : ltb max_frame n ≡ false = is_false _ _ high in
    let c : ltb (length front) n ≡ true = is_true _ _ short in
    length_read n front (omega (arith, high)) ∙ rw (a, b, c) refl

short_read : (bytes : List ℕ) → length bytes < 4 → piece_at bytes ≡ (Broken reason.Cut, [])
unfolding piece_at
short_read bytes short = rw (is_true (length bytes) 4 short) refl

-- what is behind a piece
first_piece : (k : ℕ) (bytes : List ℕ) (p : Piece) (rest : List ℕ) → 0 < length bytes → piece_at bytes ≡ (p, rest) → pieces_within (suc k) bytes ≡ p ∷ pieces_within k rest
first_piece k [] p rest some is = absurd (omega (arith, some))
first_piece k (b ∷ bytes) p rest some is = ap (λ (x : Piece × List ℕ). x.0 ∷ pieces_within k x.1) is

-- a piece that ends the stream
last_piece : (k : ℕ) (bytes : List ℕ) (p : Piece) → 0 < length bytes → length bytes ≤ k → piece_at bytes ≡ (p, []) → pieces_within k bytes ≡ p ∷ []
last_piece zero bytes p some le is = absurd (omega (arith, some, le))
last_piece (suc k) bytes p some le is = first_piece k bytes p [] some is ∙ ap (λ (ps : List Piece). p ∷ ps) (none k)

some_bytes : (n : ℕ) (rest : List ℕ) → 0 < length (to_be_bytes w32 n ++ rest)
some_bytes n rest = omega (arith, length-append (to_be_bytes w32 n) rest)

complete : (bytes : List ℕ) (pieces : List Piece) → IsStream bytes pieces → (k : ℕ) → length bytes ≤ k → pieces_within k bytes ≡ pieces
complete bytes pieces ended k le = none k
complete bytes pieces (frame body rest more low high is) zero le = absurd (omega (arith, le, some_bytes (length body) (body ++ rest)))
complete bytes pieces (frame body rest more low high is) (suc k) le =
    first_piece k (to_be_bytes w32 (length body) ++ (body ++ rest)) (Frame body) rest (some_bytes (length body) (body ++ rest)) (frame_read body rest low high)
    ∙ ap (λ (ps : List Piece). Frame body ∷ ps) (complete rest more is k (omega (arith, le, length-append (to_be_bytes w32 (length body)) (body ++ rest), length-append body rest)))
complete bytes pieces (empty rest) k le = last_piece k (to_be_bytes w32 0 ++ rest) (Broken reason.Empty) (some_bytes 0 rest) le (empty_read rest)
complete bytes pieces (too_long n rest over lt) k le = last_piece k (to_be_bytes w32 n ++ rest) (Broken reason.TooLong) (some_bytes n rest) le (long_read n rest over lt)
complete bytes pieces (cut_length short some few) k le = last_piece k short (Broken reason.Cut) some le (short_read short few)
complete bytes pieces (cut_body n front low high few) k le = last_piece k (to_be_bytes w32 n ++ front) (Broken reason.Cut) (some_bytes n front) le (cut_read n front low high few)

-- ---- backwards
abbrev Goal : ℕ → List ℕ → Piece × List ℕ → Type 0
Goal k bytes p = IsStream bytes (p.0 ∷ pieces_within k p.1)

-- a piece that ends the stream
ends : (k : ℕ) (bytes : List ℕ) (r : Piece) → IsStream bytes (r ∷ []) → Goal k bytes (r, [])
ends k bytes r is = subst (λ (ps : List Piece). IsStream bytes (r ∷ ps)) (sym (none k)) is

body_sound : (k n : ℕ) (bytes more : List ℕ) → IsBytes more → bytes ≡ to_be_bytes w32 n ++ more → n < 2 ^ 32 → ((rest : List ℕ) → IsBytes rest → length rest < length bytes → IsStream rest (pieces_within k rest))
    → (p : Piece × List ℕ) → body_at n more ≡ p → Goal k bytes p
body_sound k n bytes more fits parts lt later p is =
    elim (n == 0) as (λ b. (n == 0) ≡ b → cond b (Broken reason.Empty, []) (cond (ltb max_frame n) (Broken reason.TooLong, []) (cond (ltb (length more) n) (Broken reason.Cut, []) (Frame (take n more), drop n more))) ≡ p → Goal k bytes p) [
      | true ↦ λ none_is e. subst (λ (q : Piece × List ℕ). Goal k bytes q) e (ends k bytes (Broken reason.Empty)
          (at (Broken reason.Empty ∷ []) (subst (λ (m : ℕ). IsStream (to_be_bytes w32 m ++ more) (Broken reason.Empty ∷ [])) (sym (eqb-true n 0 none_is)) (empty more))))
      | false ↦ λ some e. elim (ltb max_frame n) as (λ b. ltb max_frame n ≡ b → cond b (Broken reason.TooLong, []) (cond (ltb (length more) n) (Broken reason.Cut, []) (Frame (take n more), drop n more)) ≡ p → Goal k bytes p) [
        | true ↦ λ over e2. subst (λ (q : Piece × List ℕ). Goal k bytes q) e2 (ends k bytes (Broken reason.TooLong) (at (Broken reason.TooLong ∷ []) (too_long n more (above over) lt)))
        | false ↦ λ within e2. elim (ltb (length more) n) as (λ b. ltb (length more) n ≡ b → cond b (Broken reason.Cut, []) (Frame (take n more), drop n more) ≡ p → Goal k bytes p) [
          | true ↦ λ short e3. subst (λ (q : Piece × List ℕ). Goal k bytes q) e3 (ends k bytes (Broken reason.Cut) (at (Broken reason.Cut ∷ []) (cut_body n more (positive some) (ltb-false _ _ within) (fewer short))))
          | false ↦ λ enough e3. subst (λ (q : Piece × List ℕ). Goal k bytes q) e3 (whole some within enough)
        ] refl e2
      ] refl e
    ] refl is
  where
    at : (ps : List Piece) → IsStream (to_be_bytes w32 n ++ more) ps → IsStream bytes ps
    at ps h = subst (λ (z : List ℕ). IsStream z ps) (sym parts) h

    above : ltb max_frame n ≡ true → max_frame < n
    above h = grind (arith, nat_tests)

    positive : (n == 0) ≡ false → 0 < n
    positive h = grind (arith, nat_tests)

    fewer : ltb (length more) n ≡ true → length more < n
    fewer h = grind (arith, nat_tests)

    whole : (n == 0) ≡ false → ltb max_frame n ≡ false → ltb (length more) n ≡ false → Goal k bytes (Frame (take n more), drop n more)
    whole some within enough =
        let le : n ≤ length more = ltb-false _ _ enough in
        let len : length (take n more) ≡ n = omega (arith, length-take n more, le) in
        let low : 0 < length (take n more) = subst (λ (m : ℕ). 0 < m) (sym len) (positive some) in
        let high : length (take n more) ≤ max_frame = subst (λ (m : ℕ). m ≤ max_frame) (sym len) (ltb-false _ _ within) in
        let total : length bytes ≡ 4 + length more = ap (λ (z : List ℕ). length z) parts ∙ length-append (to_be_bytes w32 n) more in
        let behind : IsStream (drop n more) (pieces_within k (drop n more)) = later (drop n more) (bytes-drop n more fits) (omega (arith, total, length-drop n more)) in
        let one : IsStream (to_be_bytes w32 (length (take n more)) ++ (take n more ++ drop n more)) (Frame (take n more) ∷ pieces_within k (drop n more)) = frame (take n more) (drop n more) (pieces_within k (drop n more)) low high behind in
        at (Frame (take n more) ∷ pieces_within k (drop n more))
        (subst (λ (z : List ℕ). IsStream (to_be_bytes w32 n ++ z) (Frame (take n more) ∷ pieces_within k (drop n more))) (take-append-drop n more)
        (subst (λ (m : ℕ). IsStream (to_be_bytes w32 m ++ (take n more ++ drop n more)) (Frame (take n more) ∷ pieces_within k (drop n more))) len one))

piece_sound : (k : ℕ) (bytes : List ℕ) → IsBytes bytes → 0 < length bytes → ((rest : List ℕ) → IsBytes rest → length rest < length bytes → IsStream rest (pieces_within k rest)) → (p : Piece × List ℕ) → piece_at bytes ≡ p → Goal k bytes p
unfolding piece_at
piece_sound k bytes fits some later p is =
    elim (ltb (length bytes) 4) as (λ b. ltb (length bytes) 4 ≡ b → cond b (Broken reason.Cut, []) (body_at (from_be_bytes w32 (take 4 bytes)) (drop 4 bytes)) ≡ p → Goal k bytes p) [
      | true ↦ λ short e. subst (λ (q : Piece × List ℕ). Goal k bytes q) e (ends k bytes (Broken reason.Cut) (cut_length bytes some (few short)))
      | false ↦ λ enough e.
          let le : 4 ≤ length bytes = ltb-false _ _ enough in
          let len : length (take 4 bytes) ≡ 4 = omega (arith, length-take 4 bytes, le) in
          let number : to_be_bytes w32 (from_be_bytes w32 (take 4 bytes)) ≡ take 4 bytes = wide32.back (take 4 bytes) len (bytes-take 4 bytes fits) in
          let parts : bytes ≡ to_be_bytes w32 (from_be_bytes w32 (take 4 bytes)) ++ drop 4 bytes = sym (take-append-drop 4 bytes) ∙ ap (λ (z : List ℕ). z ++ drop 4 bytes) (sym number) in
          body_sound k (from_be_bytes w32 (take 4 bytes)) bytes (drop 4 bytes) (bytes-drop 4 bytes fits) parts (wide32.below (take 4 bytes) (bytes-take 4 bytes fits)) later p e
    ] refl is
  where
    few : ltb (length bytes) 4 ≡ true → length bytes < 4
    few h = grind (arith, nat_tests)

sound : (k : ℕ) (bytes : List ℕ) → IsBytes bytes → length bytes ≤ k → IsStream bytes (pieces_within k bytes)
sound zero [] fits le = ended
sound zero (b ∷ bytes) fits le = absurd (omega (arith, le))
sound (suc k) [] fits le = ended
sound (suc k) (b ∷ bytes) fits le = piece_sound k (b ∷ bytes) fits (omega arith) (λ rest fits_rest shorter. sound k rest fits_rest (omega (arith, le, shorter))) (piece_at (b ∷ bytes)) refl

pub streams_split_once : StreamsSplitOnce
unfolding pieces_of
streams_split_once bytes pieces fits =
    (λ is. subst (λ (ps : List Piece). IsStream bytes ps) is (sound (length bytes) bytes fits (omega arith)), λ is. complete bytes pieces is (length bytes) (omega arith))
