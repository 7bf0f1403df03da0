-- Bytes taken of a stream, one after another.
use Rattle.std.proofs.Common.{◌≡◌, ℕ, ◌<◌, ◌≤◌, ◌==◌, Bool, true, false, cond, ltb, List, [], ◌∷◌, ◌++◌, length, take, drop, Option, Some, None, refl, sym, ap, subst, ◌∙◌, append_assoc, append-nil, length-append, arith}
use Rattle.std.specs.Prelude.{Result, Ok, Err, IfOk, OnErr, IfSome}
use Rattle.std.specs.Int.{w32, from_be_bytes}
use Rattle.std.specs.Io.KnownBytes.{Consumes, Keeps}
use Rattle.std.proofs.KnownBytes.{Consumes-nil, Consumes-trans}
use Rattle.std.proofs.lemmas.Bool.{le-ltb, lt-ltb}
use Rattle.std.proofs.lemmas.Bool.Decides.{nat_tests}
use Rattle.std.proofs.lemmas.List.{take_at, drop_at}
use Rattle.tab_io.specs.declared.reading.ReadFault.{ReadFault}
use Rattle.tab_io.specs.Streams.{IsEnd, Fills}
use Rattle.tab_wire.specs.declared.frame.FrameBuffer.{FrameBuffer}
use Rattle.tab_wire.specs.declared.frame.Taken.{Taken}
use Rattle.tab_wire.specs.declared.head.Head.{Head}
use Rattle.tab_wire.specs.declared.head.Head.TheVariants as head
use Rattle.tab_wire.specs.declared.frame.Taken.TheVariants as taken
use Rattle.tab_wire.specs.declared.reason.Reason.TheVariants as reason
use Rattle.tab_wire.specs.Stream.{Piece, Broken, max_frame, body_at, piece_at}
use Rattle.tab_wire.specs.Taking.{EndsAfter, Holds, Took, TakesByte, TakesHead, TookPiece, TakesPiece, IsPart, TakesPart, TakesFewer, TakesFewerOfFrame}

pub took_none : (r : Option (List ℕ)) (b : FrameBuffer) → Took r r b b []
took_none r b = record { consumed = Consumes-nil r; added = λ gone h lost. h lost ∙ sym (append-nil gone) }

pub took_more : {a b c : Option (List ℕ)} {x y z : FrameBuffer} {p q : List ℕ} → Took a b x y p → Took b c y z q → Took a c x z (p ++ q)
took_more {a = a} {b = b} {c = c} {x = x} {y = y} {z = z} {p = p} {q = q} first next = record {
  consumed = Consumes-trans a b c p q first.consumed next.consumed;
  added = λ gone h. subst (Holds z) (append_assoc gone p q) (next.added (gone ++ p) (first.added gone h));
}

-- a read takes nothing away
kept_first : (a b c : Option (List ℕ)) (bytes : List ℕ) → Keeps a b → Consumes b c bytes → Consumes a c bytes
kept_first None b c bytes kept h = tt
kept_first (Some x) None c bytes kept h = absurd kept
kept_first (Some x) (Some y) None bytes kept h = absurd h
kept_first (Some x) (Some y) (Some z) bytes kept h = sym kept ∙ h

-- a read that found bytes takes nothing away
pub kept_by : (a b : Option (List ℕ)) (front : List ℕ) (found : Bool) → Fills {E = ReadFault} a b front (Ok found) → found ≡ true → Keeps a b
kept_by a b front found h is = (subst (λ (t : Bool). Fills {E = ReadFault} a b front (Ok t)) is h).0

-- bytes that were taken behind a read
pub kept_took : {a b c : Option (List ℕ)} {x y : FrameBuffer} {bytes : List ℕ} → Keeps a b → Took b c x y bytes → Took a c x y bytes
kept_took {a = a} {b = b} {c = c} {bytes = bytes} kept took = record { consumed = kept_first a b c bytes kept took.consumed; added = took.added }

-- behind what was taken is nothing
ends_after : (a b c : Option (List ℕ)) (bytes : List ℕ) → Consumes a b bytes → IsEnd b c → EndsAfter a bytes
ends_after None b c bytes h end = tt
ends_after (Some x) None c bytes h end = absurd h
ends_after (Some x) (Some y) c bytes h end = h ∙ ap (λ (z : List ℕ). bytes ++ z) end.0 ∙ append-nil bytes

-- ---- lengths, a byte at a time
-- what was taken before, and one byte
pub byte_more : (a b c : Option (List ℕ)) (bytes : List ℕ) (r : Option ℕ) (x : ℕ) → Consumes a b bytes → TakesByte b r c → r ≡ Some x → Consumes a c (bytes ++ x ∷ [])
byte_more a b c bytes r x before one is = Consumes-trans a b c bytes (x ∷ []) before (subst (λ (o : Option ℕ). TakesByte b o c) is one)

-- what was taken before, and no more
pub no_more : (a b c : Option (List ℕ)) (bytes : List ℕ) (r : Option ℕ) → Consumes a b bytes → TakesByte b r c → r ≡ None → EndsAfter a bytes
no_more a b c bytes r before last is = ends_after a b c bytes before (subst (λ (o : Option ℕ). TakesByte b o c) is last)

-- ---- pieces
-- a part of a length
cut_head : (ahead bytes frame : List ℕ) (left : Option (List ℕ)) → ahead ≡ bytes → 0 < length bytes → length bytes < 4 → TakesPiece ahead (taken.Broken reason.Cut) frame left
unfolding piece_at
cut_head [] bytes frame left is some few = absurd (omega (arith, ap (λ (z : List ℕ). length z) is, some))
cut_head (b ∷ bs) bytes frame left is some few =
    let short : length (b ∷ bs) < 4 = subst (λ (z : List ℕ). length z < 4) (sym is) few in
    ap (λ t. (cond t (Broken reason.Cut, []) (body_at (from_be_bytes w32 (take 4 (b ∷ bs))) (drop 4 (b ∷ bs)))).0) (lt-ltb (length (b ∷ bs)) 4 short)

-- behind a length stands what it says
piece_behind : (four more : List ℕ) → length four ≡ 4 → piece_at (four ++ more) ≡ body_at (from_be_bytes w32 four) more
unfolding piece_at
piece_behind four more len =
    let enough : ltb (length (four ++ more)) 4 ≡ false = le-ltb _ _ (omega (arith, length-append four more, len)) in
    rw (enough, take_at four more 4 len, drop_at four more 4 len) refl

behind_head : (ahead four more : List ℕ) (n : ℕ) (what : Taken) (frame : List ℕ) (left : Option (List ℕ)) → ahead ≡ four ++ more → length four ≡ 4 → n ≡ from_be_bytes w32 four
    → TookPiece (body_at n more) what frame left → TakesPiece ahead what frame left
behind_head [] four more n what frame left is len n_is took = absurd (omega (arith, ap (λ (z : List ℕ). length z) is, length-append four more, len))
behind_head (b ∷ bs) four more n what frame left is len n_is took =
    subst (λ (p : Piece × List ℕ). TookPiece p what frame left) (ap (λ (m : ℕ). body_at m more) n_is ∙ sym (piece_behind four more len) ∙ ap piece_at (sym is)) took

-- ---- what stands behind a length
pub head_end : (all left : Option (List ℕ)) (frame : List ℕ) (h : Head) → TakesHead all h left → h ≡ head.End → IfSome all (λ ahead. TakesPiece ahead taken.End frame left)
head_end all left frame h took is = by_all all (subst (λ (k : Head). TakesHead all k left) is took)
  where
    by_all : (a : Option (List ℕ)) → TakesHead a head.End left → IfSome a (λ ahead. TakesPiece ahead taken.End frame left)
    by_all None t = tt
    by_all (Some ahead) t = subst (λ (bytes : List ℕ). TakesPiece bytes taken.End frame left) (sym t.0) (refl, t.1)

pub head_cut : (all mid left : Option (List ℕ)) (frame : List ℕ) (h : Head) → TakesHead all h mid → h ≡ head.Cut → IfSome all (λ ahead. TakesPiece ahead (taken.Broken reason.Cut) frame left)
head_cut all mid left frame h took is = by_all all (subst (λ (k : Head). TakesHead all k mid) is took)
  where
    by_all : (a : Option (List ℕ)) → TakesHead a head.Cut mid → IfSome a (λ ahead. TakesPiece ahead (taken.Broken reason.Cut) frame left)
    by_all None t = tt
    by_all (Some ahead) t = cut_head ahead t.0 frame left t.3 t.1 t.2

pub head_length : {E : Type 0} (all mid left : Option (List ℕ)) (frame : List ℕ) (h : Head) (n : ℕ) (r : Result Taken E) → TakesHead all h mid → h ≡ head.Length n
    → IfOk r (λ what. IfSome mid (λ more. TookPiece (body_at n more) what frame left)) → IfOk r (λ what. IfSome all (λ ahead. TakesPiece ahead what frame left))
head_length all mid left frame h n (Err e) took is behind = tt
head_length all mid left frame h n (Ok what) took is behind = by_all all mid (subst (λ (k : Head). TakesHead all k mid) is took) behind
  where
    by_all : (a m : Option (List ℕ)) → TakesHead a (head.Length n) m → IfSome m (λ more. TookPiece (body_at n more) what frame left) → IfSome a (λ ahead. TakesPiece ahead what frame left)
    by_all None m t b = tt
    by_all (Some ahead) None t b = absurd t.3
    by_all (Some ahead) (Some more) t b = behind_head ahead t.0 more n what frame left t.3 t.1 t.2 b

-- ---- parts of a piece
-- fewer bytes than a length has
short_is_part : (part : List ℕ) → length part < 4 → IsPart part
unfolding piece_at
short_is_part part few = ap (λ t. (cond t (Broken reason.Cut, []) (body_at (from_be_bytes w32 (take 4 part)) (drop 4 part))).0) (lt-ltb (length part) 4 few)

pub few_part : (a b : Option (List ℕ)) → TakesFewer 4 a b → TakesPart a b
few_part a b few = (few.0, short_is_part few.0 few.1, few.2)

-- fewer bytes than a length says
body_is_part : (four part : List ℕ) (n : ℕ) → length four ≡ 4 → n ≡ from_be_bytes w32 four → 0 < n → n ≤ max_frame → length part < n → IsPart (four ++ part)
body_is_part four part n len n_is some most few =
    let a : (n == 0) ≡ false = grind (arith, nat_tests) in
    let b : ltb max_frame n ≡ false = le-ltb max_frame n most in
    let c : ltb (length part) n ≡ true = lt-ltb (length part) n few in
    ap (λ (p : Piece × List ℕ). p.0) (piece_behind four part len) ∙ ap (λ (m : ℕ). (body_at m part).0) (sym n_is) ∙ rw (a, b, c) refl

head_part : (all mid left : Option (List ℕ)) (h : Head) (n : ℕ) → TakesHead all h mid → h ≡ head.Length n → TakesFewerOfFrame n mid left → TakesPart all left
head_part all mid left h n took is few = behind (subst (λ (k : Head). TakesHead all k mid) is took)
  where
    behind : TakesHead all (head.Length n) mid → TakesPart all left
    behind t = (t.0 ++ few.2.0, body_is_part t.0 few.2.0 n t.1 t.2 few.0 few.1 few.2.1, Consumes-trans all mid left t.0 few.2.0 t.3 few.2.2)

pub head_on_part : {E : Type 0} (all mid left : Option (List ℕ)) (h : Head) (n : ℕ) (r : Result Taken E) → TakesHead all h mid → h ≡ head.Length n → OnErr r (TakesFewerOfFrame n mid left) → OnErr r (TakesPart all left)
head_on_part all mid left h n (Ok what) took is few = tt
head_on_part all mid left h n (Err e) took is few = head_part all mid left h n took is few
