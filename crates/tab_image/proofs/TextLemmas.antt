-- Bytes and numbers, taken from the front of an input.
use Rattle.std.proofs.Common.{◌≡◌, ℕ, ◌+◌, ◌<◌, ◌≤◌, true, false, ltb, cond, List, [], ◌∷◌, ◌++◌, length, take, drop, refl, sym, ap, ◌∙◌, arith, append_assoc, Option, Some, None}
use Rattle.std.specs.Prelude.{nat_lt}
use Rattle.std.specs.Int.{Width, byte_len, from_be_bytes}
use Rattle.std.specs.Io.KnownBytes.{Consumes, Keeps}
use Rattle.std.proofs.lemmas.Bool.{ltb-false}
use Rattle.std.proofs.lemmas.Bool.Decides.{nat_tests}
use Rattle.std.proofs.lemmas.List.{take-append-drop, length-append, length-take}
use Rattle.tab_io.specs.Streams.{IsEnd}
use Rattle.tab_io.specs.declared.reading.Input.{Ghosts}
use Rattle.tab_codec.specs.Reading.{mapped, bytes_at, number_at, u8_at}
use Rattle.tab_codec.proofs.Exact.{some_inj, on_guard, exact_bytes}
use Rattle.tab_image.specs.declared.unread.Unread.{Unread}
use Rattle.tab_image.specs.declared.unread.Unread.TheVariants as unread
use Rattle.tab_image.specs.Streams.{Leaves, Lacks, HasRead, Stops, text_of}
use Rattle.tab_image.proofs.Streams.{none_some, later_failed}

-- ---- so many bytes of a list
-- what was taken, and what is left
pub text_split : (n : ℕ) (bytes text rest : List ℕ) → bytes_at n bytes ≡ Some (text, rest) → (bytes ≡ text ++ rest) × (length text ≡ n)
text_split n bytes text rest is = on_guard (ltb (length bytes) n) (take n bytes, drop n bytes) (text, rest) ((bytes ≡ text ++ rest) × (length text ≡ n)) is (λ no e.
    let long : n ≤ length bytes = ltb-false _ _ no in
    let text_is : take n bytes ≡ text = ap (λ (p : List ℕ × List ℕ). p.0) e in
    let rest_is : drop n bytes ≡ rest = ap (λ (p : List ℕ × List ℕ). p.1) e in
    (sym (take-append-drop n bytes) ∙ (λ i. text_is i ++ rest_is i), ap (λ (z : List ℕ). length z) (sym text_is) ∙ omega (arith, length-take n bytes)))

text_again : (n : ℕ) (text rest : List ℕ) → length text ≡ n → bytes_at n (text ++ rest) ≡ Some (text, rest)
text_again n text rest len = (exact_bytes n).complete text rest text (refl, len)

-- there are too few
too_few : (n : ℕ) (bytes : List ℕ) → length bytes < n → bytes_at n bytes ≡ None
too_few n bytes lt = let e : nat_lt (length bytes) n ≡ true = grind (arith, nat_tests) in rw e refl

few : (n : ℕ) (bytes : List ℕ) → bytes_at n bytes ≡ None → length bytes < n
few n bytes is = elim (nat_lt (length bytes) n) as (λ b. nat_lt (length bytes) n ≡ b → cond {A = Option (List ℕ × List ℕ)} b None (Some (take n bytes, drop n bytes)) ≡ None → length bytes < n) [
  | true ↦ λ e h. grind (arith, nat_tests)
  | false ↦ λ e h. absurd cc
] refl is

-- ---- known bytes
pub leaves_text : (a b : Option (List ℕ)) (text : List ℕ) → Consumes a b text → Leaves a b (text_of (length text)) text
unfolding text_of
leaves_text None b text h = tt
leaves_text (Some bytes) None text h = absurd h
leaves_text (Some bytes) (Some rest) text h = (rest, ap (bytes_at (length text)) h ∙ text_again (length text) text rest refl, refl)

-- known bytes that were looked at, and then taken
pub kept_consumed : (a b c : Option (List ℕ)) (text : List ℕ) → Keeps a b → Consumes b c text → Consumes a c text
kept_consumed None b c text p q = tt
kept_consumed (Some x) None c text p q = absurd p
kept_consumed (Some x) (Some y) None text p q = absurd q
kept_consumed (Some x) (Some y) (Some z) text p q = sym p ∙ q

byte_leaves : (a b : Option (List ℕ)) (x : ℕ) → Consumes a b (x ∷ []) → Leaves a b u8_at x
byte_leaves None b x h = tt
byte_leaves (Some bytes) None x h = absurd h
byte_leaves (Some bytes) (Some rest) x h = (rest, ap u8_at h, refl)

ended_lacks : (a b : Option (List ℕ)) → IsEnd a b → Lacks a u8_at
ended_lacks None b h = tt
ended_lacks (Some bytes) b h = ap u8_at h.0

ended_few : (n : ℕ) (a b : Option (List ℕ)) → 0 < n → IsEnd a b → Lacks a (text_of n)
unfolding text_of
ended_few n None b some h = tt
ended_few n (Some bytes) b some h = too_few n bytes (let e : length bytes ≡ 0 = ap (λ (z : List ℕ). length z) h.0 in omega (arith, e, some))

more_leaves : (n m : ℕ) (a b c : Option (List ℕ)) (t u : List ℕ) → Leaves a b (text_of n) t → Leaves b c (text_of m) u → Leaves a c (text_of (n + m)) (t ++ u)
unfolding text_of
more_leaves n m None b c t u p q = tt
more_leaves n m (Some bytes) None c t u p q = absurd (none_some p.0 p.2)
more_leaves n m (Some bytes) (Some mid) c t u p q =
    let first = text_split n bytes t p.0 p.1 in
    let second = text_split m mid u q.0 q.1 in
    let all : bytes ≡ (t ++ u) ++ q.0 = first.0 ∙ ap (λ (z : List ℕ). t ++ z) (sym (some_inj mid p.0 p.2) ∙ second.0) ∙ sym (append_assoc t u q.0) in
    (q.0, ap (bytes_at (n + m)) all ∙ text_again (n + m) (t ++ u) q.0 (length-append t u ∙ (λ i. first.1 i + second.1 i)), q.2)

more_lacks : (n m : ℕ) (a b : Option (List ℕ)) (t : List ℕ) → Leaves a b (text_of n) t → Lacks b (text_of m) → Lacks a (text_of (n + m))
unfolding text_of
more_lacks n m None b t p q = tt
more_lacks n m (Some bytes) None t p q = absurd (none_some p.0 p.2)
more_lacks n m (Some bytes) (Some mid) t p q =
    let first = text_split n bytes t p.0 p.1 in
    let len : length bytes ≡ length t + length p.0 = ap (λ (z : List ℕ). length z) first.0 ∙ length-append t p.0 in
    let same : length mid ≡ length p.0 = ap (λ (z : List ℕ). length z) (some_inj mid p.0 p.2) in
    too_few (n + m) bytes (let lt : length mid < m = few m mid q in omega (arith, len, same, first.1, lt))

lacks_more : (n m : ℕ) (a : Option (List ℕ)) → Lacks a (text_of n) → Lacks a (text_of (n + m))
unfolding text_of
lacks_more n m None h = tt
lacks_more n m (Some bytes) h = too_few (n + m) bytes (let lt : length bytes < n = few n bytes h in omega (arith, lt))

-- a byte is a text of one
byte_text : (a b : Option (List ℕ)) (x : ℕ) → Leaves a b u8_at x → Leaves a b (text_of 1) (x ∷ [])
unfolding text_of
byte_text None b x h = tt
byte_text (Some []) b x h = absurd (none_some (x, h.0) h.1)
byte_text (Some (y ∷ ys)) b x h =
    let e = some_inj (y, ys) (x, h.0) h.1 in
    let y_is : y ≡ x = ap (λ (p : ℕ × List ℕ). p.0) e in
    let ys_is : ys ≡ h.0 = ap (λ (p : ℕ × List ℕ). p.1) e in
    (h.0, (λ i. bytes_at 1 (y_is i ∷ ys_is i)) ∙ text_again 1 (x ∷ []) h.0 refl, h.2)

no_byte_text : (a : Option (List ℕ)) → Lacks a u8_at → Lacks a (text_of 1)
unfolding text_of
no_byte_text None h = tt
no_byte_text (Some []) h = refl
no_byte_text (Some (y ∷ ys)) h = absurd (none_some (y, ys) (sym h))

-- a number is read of the bytes that spell it
number_is : (w : Width) (bytes : List ℕ) → number_at w bytes ≡ mapped (from_be_bytes w) (bytes_at (byte_len w)) bytes
number_is w bytes = elim (nat_lt (length bytes) (byte_len w)) as (λ b. cond b None (Some (from_be_bytes w (take (byte_len w) bytes), drop (byte_len w) bytes)) ≡ mapped (from_be_bytes w) (λ z. cond b None (Some (take (byte_len w) z, drop (byte_len w) z))) bytes) [
  | true ↦ refl
  | false ↦ refl
]

number_leaves : (w : Width) (a b : Option (List ℕ)) (t : List ℕ) → Leaves a b (text_of (byte_len w)) t → Leaves a b (number_at w) (from_be_bytes w t)
unfolding text_of
number_leaves w None b t h = tt
number_leaves w (Some bytes) b t h = (h.0, number_is w bytes ∙ rw h.1 refl, h.2)

number_lacks : (w : Width) (a : Option (List ℕ)) → Lacks a (text_of (byte_len w)) → Lacks a (number_at w)
unfolding text_of
number_lacks w None h = tt
number_lacks w (Some bytes) h = number_is w bytes ∙ rw h refl

-- ---- the same of an input
module _ {R : Type 0} (g : Ghosts R) where
  pub read_more : (n m : ℕ) (a b c : R) (t u : List ℕ) → HasRead g a b (text_of n) t → HasRead g b c (text_of m) u → HasRead g a c (text_of (n + m)) (t ++ u)
  read_more n m a b c t u p q = record { bytes = more_leaves n m (g.remaining a) (g.remaining b) (g.remaining c) t u p.bytes q.bytes; faults = q.faults ∙ p.faults }

  pub stops_more : (n m : ℕ) (a b c : R) (t : List ℕ) (e : Unread) → HasRead g a b (text_of n) t → Stops g b c (text_of m) e → Stops g a c (text_of (n + m)) e
  stops_more n m a b c t unread.Bad p q = record { why = more_lacks n m (g.remaining a) (g.remaining b) t p.bytes q.why }
  stops_more n m a b c t unread.Io p q = record { why = later_failed g a b c p.faults q.why }
  stops_more n m a b c t unread.NoMemory p q = record { why = tt }

  pub more_stops : (n m : ℕ) (a b : R) (e : Unread) → Stops g a b (text_of n) e → Stops g a b (text_of (n + m)) e
  more_stops n m a b unread.Bad s = record { why = lacks_more n m (g.remaining a) s.why }
  more_stops n m a b unread.Io s = record { why = s.why }
  more_stops n m a b unread.NoMemory s = record { why = tt }

  pub byte_read : (a b : R) (x : ℕ) → HasRead g a b u8_at x → HasRead g a b (text_of 1) (x ∷ [])
  byte_read a b x p = record { bytes = byte_text (g.remaining a) (g.remaining b) x p.bytes; faults = p.faults }

  pub byte_stops : (a b : R) (e : Unread) → Stops g a b u8_at e → Stops g a b (text_of 1) e
  byte_stops a b unread.Bad s = record { why = no_byte_text (g.remaining a) s.why }
  byte_stops a b unread.Io s = record { why = s.why }
  byte_stops a b unread.NoMemory s = record { why = tt }

  pub number_read : (w : Width) (a b : R) (t : List ℕ) → HasRead g a b (text_of (byte_len w)) t → HasRead g a b (number_at w) (from_be_bytes w t)
  number_read w a b t p = record { bytes = number_leaves w (g.remaining a) (g.remaining b) t p.bytes; faults = p.faults }

  pub number_stops : (w : Width) (a b : R) (e : Unread) → Stops g a b (text_of (byte_len w)) e → Stops g a b (number_at w) e
  number_stops w a b unread.Bad s = record { why = number_lacks w (g.remaining a) s.why }
  number_stops w a b unread.Io s = record { why = s.why }
  number_stops w a b unread.NoMemory s = record { why = tt }

  pub ended_byte : (a b : R) → IsEnd (g.remaining a) (g.remaining b) → Stops g a b u8_at unread.Bad
  ended_byte a b h = record { why = ended_lacks (g.remaining a) (g.remaining b) h }

  pub ended_text : (n : ℕ) (a b : R) → 0 < n → IsEnd (g.remaining a) (g.remaining b) → Stops g a b (text_of n) unread.Bad
  ended_text n a b some h = record { why = ended_few n (g.remaining a) (g.remaining b) some h }
