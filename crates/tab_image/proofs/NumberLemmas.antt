-- Numbers, read of the bytes that spell them.
use Rattle.std.proofs.Common.{◌≡◌, ℕ, ℤ, Bool, true, false, ◌+◌, ◌≤◌, List, [], ◌∷◌, ◌++◌, length, take, slice_index_or, refl, sym, ap, subst, ◌∙◌, arith, append_assoc, append-nil}
use Rattle.std.specs.Int.{w16, w32, w64, from_be_bytes, cast_signed}
use Rattle.std.specs.Io.KnownBytes.{Consumes, Keeps}
use Rattle.std.proofs.lemmas.List.{length-take}
use Rattle.std.proofs.KnownBytes.{Consumes-nil}
use Rattle.std.specs.Prelude.{Result, Ok, Err}
use Rattle.tab_io.specs.declared.reading.Input.{Ghosts}
use Rattle.tab_codec.specs.Reading.{u8_at, u16_at, u32_at, u64_at, i64_at, field_at}
use Rattle.tab_image.specs.declared.unread.Unread.{Unread}
use Rattle.tab_image.specs.Reading.{◌>>=◌, made}
use Rattle.tab_image.specs.Streams.{HasRead, Stops, Appended, text_of}
use Rattle.tab_image.specs.Takes.{IsAhead}
use Rattle.tab_image.proofs.Streams.{read_then, stops_first, stops_later, read_made}
use Rattle.tab_image.proofs.TextLemmas.{leaves_text, kept_consumed, read_more, stops_more, more_stops, byte_read, byte_stops, number_read, number_stops, ended_text}

-- ---- four of a front
four_front : (front : List ℕ) → 4 ≤ length front → (slice_index_or front 0 0 ∷ slice_index_or front 1 0 ∷ slice_index_or front 2 0 ∷ slice_index_or front 3 0 ∷ []) ≡ take 4 front
four_front [] le = absurd (omega (arith, le))
four_front (a ∷ []) le = absurd (omega (arith, le))
four_front (a ∷ b ∷ []) le = absurd (omega (arith, le))
four_front (a ∷ b ∷ c ∷ []) le = absurd (omega (arith, le))
four_front (a ∷ b ∷ c ∷ d ∷ xs) le = refl

eight_of : (h l : List ℕ) → length h ≡ 4 → length l ≡ 4
    → (slice_index_or h 0 0 ∷ slice_index_or h 1 0 ∷ slice_index_or h 2 0 ∷ slice_index_or h 3 0 ∷ slice_index_or l 0 0 ∷ slice_index_or l 1 0 ∷ slice_index_or l 2 0 ∷ slice_index_or l 3 0 ∷ []) ≡ h ++ l
eight_of h l hl ll = ap (λ (z : List ℕ). slice_index_or h 0 0 ∷ slice_index_or h 1 0 ∷ slice_index_or h 2 0 ∷ slice_index_or h 3 0 ∷ z) (four_of l ll) ∙ ap (λ (z : List ℕ). z ++ l) (four_of h hl)
  where
    four_of : (xs : List ℕ) → length xs ≡ 4 → (slice_index_or xs 0 0 ∷ slice_index_or xs 1 0 ∷ slice_index_or xs 2 0 ∷ slice_index_or xs 3 0 ∷ []) ≡ xs
    four_of [] e = absurd (omega (arith, e))
    four_of (a ∷ []) e = absurd (omega (arith, e))
    four_of (a ∷ b ∷ []) e = absurd (omega (arith, e))
    four_of (a ∷ b ∷ c ∷ []) e = absurd (omega (arith, e))
    four_of (a ∷ b ∷ c ∷ d ∷ []) e = refl
    four_of (a ∷ b ∷ c ∷ d ∷ x ∷ xs) e = absurd (omega (arith, e))

-- ---- of an input
module _ {R : Type 0} (g : Ghosts R) where
  -- a text that stood in the front and was taken
  text_taken : (a b : R) (text : List ℕ) → Consumes (g.remaining a) (g.remaining b) text → g.faults b ≡ g.faults a → HasRead g a b (text_of (length text)) text
  text_taken a b text h same = record { bytes = leaves_text (g.remaining a) (g.remaining b) text h; faults = same }

  pub four_taken : (a b : R) (front : List ℕ) → 4 ≤ length front → front ≡ g.front a → Consumes (g.remaining a) (g.remaining b) (take 4 (g.front a)) → (g.faults b ≡ g.faults a) × (g.budget b ≡ g.budget a)
      → HasRead g a b (text_of 4) (slice_index_or front 0 0 ∷ slice_index_or front 1 0 ∷ slice_index_or front 2 0 ∷ slice_index_or front 3 0 ∷ [])
  four_taken a b front le is taken same =
      let four : take 4 (g.front a) ≡ (slice_index_or front 0 0 ∷ slice_index_or front 1 0 ∷ slice_index_or front 2 0 ∷ slice_index_or front 3 0 ∷ []) = ap (take 4) (sym is) ∙ sym (four_front front le) in
      text_taken a b _ (subst (λ (z : List ℕ). Consumes (g.remaining a) (g.remaining b) z) four taken) same.0

  pub four_read : (a b c d e : R) (x y z w : ℕ) → HasRead g a b u8_at x → HasRead g b c u8_at y → HasRead g c d u8_at z → HasRead g d e u8_at w → HasRead g a e (text_of 4) (x ∷ y ∷ z ∷ w ∷ [])
  four_read a b c d e x y z w p q r s =
      read_more g 1 3 a b e _ _ (byte_read g a b x p) (read_more g 1 2 b c e _ _ (byte_read g b c y q) (read_more g 1 1 c d e _ _ (byte_read g c d z r) (byte_read g d e w s)))

  pub four_first : (a b : R) (u : Unread) → Stops g a b u8_at u → Stops g a b (text_of 4) u
  four_first a b u s = more_stops g 1 3 a b u (byte_stops g a b u s)

  pub four_second : (a b c : R) (x : ℕ) (u : Unread) → HasRead g a b u8_at x → Stops g b c u8_at u → Stops g a c (text_of 4) u
  four_second a b c x u p s = stops_more g 1 3 a b c _ u (byte_read g a b x p) (more_stops g 1 2 b c u (byte_stops g b c u s))

  pub four_third : (a b c d : R) (x y : ℕ) (u : Unread) → HasRead g a b u8_at x → HasRead g b c u8_at y → Stops g c d u8_at u → Stops g a d (text_of 4) u
  four_third a b c d x y u p q s = stops_more g 1 3 a b d _ u (byte_read g a b x p) (stops_more g 1 2 b c d _ u (byte_read g b c y q) (more_stops g 1 1 c d u (byte_stops g c d u s)))

  pub four_fourth : (a b c d e : R) (x y z : ℕ) (u : Unread) → HasRead g a b u8_at x → HasRead g b c u8_at y → HasRead g c d u8_at z → Stops g d e u8_at u → Stops g a e (text_of 4) u
  four_fourth a b c d e x y z u p q r s =
      stops_more g 1 3 a b e _ u (byte_read g a b x p) (stops_more g 1 2 b c e _ u (byte_read g b c y q) (stops_more g 1 1 c d e _ u (byte_read g c d z r) (byte_stops g d e u s)))

  pub u16_read : (a b c : R) (x y n : ℕ) → HasRead g a b u8_at x → HasRead g b c u8_at y → n ≡ from_be_bytes w16 (x ∷ y ∷ []) → HasRead g a c u16_at n
  unfolding u16_at
  u16_read a b c x y n p q is = subst (λ (m : ℕ). HasRead g a c u16_at m) (sym is) (number_read g w16 a c _ (read_more g 1 1 a b c _ _ (byte_read g a b x p) (byte_read g b c y q)))

  pub u16_first : (a b : R) (u : Unread) → Stops g a b u8_at u → Stops g a b u16_at u
  unfolding u16_at
  u16_first a b u s = number_stops g w16 a b u (more_stops g 1 1 a b u (byte_stops g a b u s))

  pub u16_second : (a b c : R) (x : ℕ) (u : Unread) → HasRead g a b u8_at x → Stops g b c u8_at u → Stops g a c u16_at u
  unfolding u16_at
  u16_second a b c x u p s = number_stops g w16 a c u (stops_more g 1 1 a b c _ u (byte_read g a b x p) (byte_stops g b c u s))

  pub u32_read : (a b : R) (t : List ℕ) (n : ℕ) → HasRead g a b (text_of 4) t → n ≡ from_be_bytes w32 t → HasRead g a b u32_at n
  unfolding u32_at
  u32_read a b t n p is = subst (λ (m : ℕ). HasRead g a b u32_at m) (sym is) (number_read g w32 a b t p)

  pub u32_stops : (a b : R) (u : Unread) → Stops g a b (text_of 4) u → Stops g a b u32_at u
  unfolding u32_at
  u32_stops a b u s = number_stops g w32 a b u s

  pub u64_read : (a b c : R) (h l : List ℕ) (n : ℕ) → HasRead g a b (text_of 4) h → HasRead g b c (text_of 4) l → length h ≡ 4 → length l ≡ 4
      → n ≡ from_be_bytes w64 (slice_index_or h 0 0 ∷ slice_index_or h 1 0 ∷ slice_index_or h 2 0 ∷ slice_index_or h 3 0 ∷ slice_index_or l 0 0 ∷ slice_index_or l 1 0 ∷ slice_index_or l 2 0 ∷ slice_index_or l 3 0 ∷ [])
      → HasRead g a c u64_at n
  unfolding u64_at
  u64_read a b c h l n p q hl ll is =
      subst (λ (m : ℕ). HasRead g a c u64_at m) (sym (is ∙ ap (from_be_bytes w64) (eight_of h l hl ll))) (number_read g w64 a c _ (read_more g 4 4 a b c h l p q))

  pub u64_first : (a b : R) (u : Unread) → Stops g a b (text_of 4) u → Stops g a b u64_at u
  unfolding u64_at
  u64_first a b u s = number_stops g w64 a b u (more_stops g 4 4 a b u s)

  pub u64_second : (a b c : R) (h : List ℕ) (u : Unread) → HasRead g a b (text_of 4) h → Stops g b c (text_of 4) u → Stops g a c u64_at u
  unfolding u64_at
  u64_second a b c h u p s = number_stops g w64 a c u (stops_more g 4 4 a b c h u p s)

  -- with a sign: two's complement
  pub i64_read : (a b : R) (n : ℕ) (z : ℤ) → HasRead g a b u64_at n → z ≡ cast_signed w64 n → HasRead g a b i64_at z
  unfolding i64_at ◌>>=◌ made
  i64_read a b n z p is = subst (λ (m : ℤ). HasRead g a b i64_at m) (sym is) (read_then g a b b u64_at (λ m. made (cast_signed w64 m)) n (cast_signed w64 n) p (read_made g b (cast_signed w64 n)))

  pub i64_stops : (a b : R) (u : Unread) → Stops g a b u64_at u → Stops g a b i64_at u
  unfolding i64_at ◌>>=◌ made
  i64_stops a b u s = stops_first g a b u64_at (λ m. made (cast_signed w64 m)) u s

  -- a length, and so many bytes
  pub field_read : (a b c : R) (n : ℕ) (t : List ℕ) → HasRead g a b u32_at n → HasRead g b c (text_of n) t → HasRead g a c field_at t
  unfolding field_at ◌>>=◌ text_of
  field_read a b c n t p q = read_then g a b c u32_at text_of n t p q

  pub field_first : (a b : R) (u : Unread) → Stops g a b u32_at u → Stops g a b field_at u
  unfolding field_at ◌>>=◌ text_of
  field_first a b u s = stops_first g a b u32_at text_of u s

  pub field_second : (a b c : R) (n : ℕ) (u : Unread) → HasRead g a b u32_at n → Stops g b c (text_of n) u → Stops g a c field_at u
  unfolding field_at ◌>>=◌ text_of
  field_second a b c n u p s = stops_later g a b c u32_at text_of n u p s

  -- some bytes of the front, put behind what was there
  pub some_taken : (a b c : R) (n : ℕ) (before after : List ℕ) → Keeps (g.remaining a) (g.remaining b) → g.faults b ≡ g.faults a → n ≤ length (g.front b) → Consumes (g.remaining b) (g.remaining c) (take n (g.front b))
      → g.faults c ≡ g.faults b → after ≡ before ++ take n (g.front b) → Appended g a c (text_of n) before after
  some_taken a b c n before after kept same fits taken then is =
      let text : List ℕ = take n (g.front b) in
      let len : length text ≡ n = omega (arith, fits, length-take n (g.front b)) in
      record { text = text; whole = is; read = subst (λ (m : ℕ). HasRead g a c (text_of m) text) len (text_taken a c text (kept_consumed (g.remaining a) (g.remaining b) (g.remaining c) text kept taken) (then ∙ same)) }

  -- and more behind these
  pub appended_more : (a b c : R) (n m : ℕ) (x y z : List ℕ) → Appended g a b (text_of n) x y → Appended g b c (text_of m) y z → Appended g a c (text_of (n + m)) x z
  appended_more a b c n m x y z p q = record { text = p.text ++ q.text; whole = q.whole ∙ ap (λ (t : List ℕ). t ++ q.text) p.whole ∙ append_assoc x p.text q.text; read = read_more g n m a b c p.text q.text p.read q.read }

  -- nothing of them yet
  pub appended_none : (a : R) (x : List ℕ) → Appended g a a (text_of 0) x x
  appended_none a x = record { text = []; whole = sym (append-nil x); read = text_taken a a [] (Consumes-nil (g.remaining a)) refl }

  pub appended_stops : (a b c : R) (n m : ℕ) (x y : List ℕ) (u : Unread) → Appended g a b (text_of n) x y → Stops g b c (text_of m) u → Stops g a c (text_of (n + m)) u
  appended_stops a b c n m x y u p s = stops_more g n m a b c p.text u p.read s

-- what a test answers; no for one that failed
abbrev told : {E : Type 0} → Result Bool E → Bool
told (Ok b) = b
told (Err e) = false

-- a byte is to come
pub ahead_yes : {R E : Type 0} (g : Ghosts R) (a m : R) (r : Result Bool E) (b : Bool) → IsAhead g a m r → r ≡ Ok b → b ≡ true → IsAhead {E = E} g a m (Ok true)
ahead_yes g a m (Ok true) b h is so = h
ahead_yes g a m (Ok false) b h is so = let never : false ≡ true = ap told is ∙ so in absurd cc
ahead_yes g a m (Err e) b h is so = let never : false ≡ true = ap told is ∙ so in absurd cc

-- what closes the clauses of the functions that read numbers
pub ruleset numbers = (four_taken, four_read, four_first, four_second, four_third, four_fourth, u16_read, u16_first, u16_second, u32_read, u32_stops, u64_read, u64_first, u64_second, i64_read, i64_stops, ended_text)
