-- Bytes put one after another.
use Rattle.std.proofs.Common.{ℕ, ◌≡◌, ◌+◌, ◌≤◌, ◌<◌, List, [], ◌∷◌, ◌++◌, length, take, drop, refl, sym, ap, ◌∙◌, subst, arith, append_assoc, length-append, length-drop, Option, Result, Ok, Err, inl, inr}
use Rattle.std.specs.Prelude.{Result}
use Rattle.std.specs.Io.KnownBytes.{Appends}
use Rattle.std.proofs.KnownBytes.{Appends-trans, Appends-nil}
use Rattle.std.proofs.Math.Seq.{take-add}
use Rattle.std.proofs.lemmas.List.{append-nil, take_all, take-append-le, drop-append-le, drop-drop, drop_all, take-append-drop}
use Rattle.tab_io.specs.Streams.{Gathers, GathersPart, Accepts, AppendsPart, FailsByFault}
use Rattle.tab_io.specs.Writing.{HasPut, HasPutPart, Puts, WriteFailed}
use Rattle.tab_io.specs.declared.writing.Output.{Ghosts}

-- ---- bytes that are gathered
pub gathers_none : (c : Option (List ℕ)) (h : List ℕ) → Gathers c h c h []
gathers_none c h = record { count = 0; fits = omega arith; written = Appends-nil c; left = sym (append-nil h) }

-- what is left of h ++ a, and then b
regroup : (h a b h1 : List ℕ) (n : ℕ) → n ≤ length (h ++ a) → h1 ≡ drop n (h ++ a) → h1 ++ b ≡ drop n (h ++ (a ++ b))
regroup h a b h1 n fits is = ap (λ x. x ++ b) is ∙ sym (drop-append-le n (h ++ a) b fits) ∙ ap (drop n) (append_assoc h a b)

-- a beginning of h ++ a, and one of what is left of it and b
joined : (h a b h1 : List ℕ) (n m : ℕ) → n ≤ length (h ++ a) → h1 ≡ drop n (h ++ a) → m ≤ length (h1 ++ b)
    → (n + m ≤ length (h ++ (a ++ b))) × (take n (h ++ a) ++ take m (h1 ++ b) ≡ take (n + m) (h ++ (a ++ b)))
joined h a b h1 n m fits left more =
    let all : List ℕ = h ++ (a ++ b) in
    let is : h1 ++ b ≡ drop n all = regroup h a b h1 n fits left in
    let first : take n (h ++ a) ≡ take n all = sym (take-append-le n (h ++ a) b fits) ∙ ap (take n) (append_assoc h a b) in (
      omega (arith, ap length is, length-drop n all, length-append h (a ++ b), length-append a b, length-append h a),
      (λ i. first i ++ take m (is i)) ∙ sym (take-add n m all),
    )

pub gathers_more : (c : Option (List ℕ)) (h : List ℕ) (c1 : Option (List ℕ)) (h1 : List ℕ) (c2 : Option (List ℕ)) (h2 a b : List ℕ) → Gathers c h c1 h1 a → Gathers c1 h1 c2 h2 b → Gathers c h c2 h2 (a ++ b)
gathers_more c h c1 h1 c2 h2 a b p q =
    let n : ℕ = p.count in
    let m : ℕ = q.count in
    let all : List ℕ = h ++ (a ++ b) in
    let j = joined h a b h1 n m p.fits p.left q.fits in
    let P : List ℕ → Type 0 = λ x. Appends c c2 x in
    record {
      count = n + m;
      fits = j.0;
      written = subst P j.1 (Appends-trans c c1 c2 (take n (h ++ a)) (take m (h1 ++ b)) p.written q.written);
      left = q.left ∙ ap (drop m) (regroup h a b h1 n p.fits p.left) ∙ drop-drop m n all;
    }

part_more : (c : Option (List ℕ)) (h : List ℕ) (c1 : Option (List ℕ)) (h1 : List ℕ) (c2 : Option (List ℕ)) (h2 a b : List ℕ) → Gathers c h c1 h1 a → GathersPart c1 h1 c2 h2 b → GathersPart c h c2 h2 (a ++ b)
part_more c h c1 h1 c2 h2 a b p q = record {
  part = a ++ q.part;
  rest = q.rest;
  whole = ap (λ x. a ++ x) q.whole ∙ sym (append_assoc a q.part q.rest);
  put = gathers_more c h c1 h1 c2 h2 a q.part p q.put;
}

pub accepts_more : {E : Type 0} (c : Option (List ℕ)) (h : List ℕ) (c1 : Option (List ℕ)) (h1 : List ℕ) (c2 : Option (List ℕ)) (h2 a b : List ℕ) (r : Result (Unit {0}) E) → Gathers c h c1 h1 a → Accepts c1 h1 c2 h2 b r → Accepts c h c2 h2 (a ++ b) r
accepts_more c h c1 h1 c2 h2 a b (Ok u) p q = gathers_more c h c1 h1 c2 h2 a b p q
accepts_more c h c1 h1 c2 h2 a b (Err e) p q = part_more c h c1 h1 c2 h2 a b p q

-- after a flush all that was put is written
flushed : (c : Option (List ℕ)) (h : List ℕ) (c1 : Option (List ℕ)) (h1 : List ℕ) (c2 : Option (List ℕ)) (a : List ℕ) → Gathers c h c1 h1 a → Appends c1 c2 h1 → Appends c c2 (h ++ a)
flushed c h c1 h1 c2 a p q =
    let P : List ℕ → Type 0 = λ x. Appends c c2 x in
    subst P (ap (λ x. take p.count (h ++ a) ++ x) p.left ∙ take-append-drop p.count (h ++ a)) (Appends-trans c c1 c2 (take p.count (h ++ a)) h1 p.written q)

-- ---- texts that are put by a function over an output
pub put_none : {W : Type 0} (g : Ghosts W) (w : W) → HasPut g w w []
put_none g w = record { bytes = gathers_none (g.contents w) (g.held w); faults = refl }

-- what `put` of the output ensures
pub puts : {W E : Type 0} (g : Ghosts W) (old new : W) (text : List ℕ) (r : Result (Unit {0}) E)
    → Accepts (g.contents old) (g.held old) (g.contents new) (g.held new) text r → FailsByFault r (g.faults old) (g.faults new) (g.budget new) → Puts g old new text r
puts g old new text (Ok u) bytes faults = record { bytes = bytes; faults = faults }
puts g old new text (Err e) bytes faults = record { bytes = bytes; failed = faults }

-- a fault that is counted, after calls that counted none
later_failed : {W : Type 0} (g : Ghosts W) (a b c : W) → g.faults b ≡ g.faults a → WriteFailed g b c → WriteFailed g a c
later_failed g a b c same (inl spent) = inl spent
later_failed g a b c same (inr counted) = inr (subst (λ (n : ℕ). n < g.faults c) same counted)

-- a text, and then another
pub put_more : {W : Type 0} {g : Ghosts W} {a b c : W} {t u : List ℕ} → HasPut g a b t → HasPut g b c u → HasPut g a c (t ++ u)
put_more {g = g} {a = a} {b = b} {c = c} {t = t} {u = u} p q = record {
  bytes = gathers_more (g.contents a) (g.held a) (g.contents b) (g.held b) (g.contents c) (g.held c) t u p.bytes q.bytes;
  faults = q.faults ∙ p.faults;
}

pub put_part_more : {W : Type 0} {g : Ghosts W} {a b c : W} {t u : List ℕ} → HasPut g a b t → HasPutPart g b c u → HasPutPart g a c (t ++ u)
put_part_more {g = g} {a = a} {b = b} {c = c} {t = t} {u = u} p q = record {
  bytes = part_more (g.contents a) (g.held a) (g.contents b) (g.held b) (g.contents c) (g.held c) t u p.bytes q.bytes;
  failed = later_failed g a b c p.faults q.failed;
}

pub puts_more : {W E : Type 0} (g : Ghosts W) (a b c : W) (t u : List ℕ) (r : Result (Unit {0}) E) → HasPut g a b t → Puts g b c u r → Puts g a c (t ++ u) r
puts_more g a b c t u (Ok x) p q = put_more p q
puts_more g a b c t u (Err e) p q = put_part_more p q

-- a beginning of a text is one of a longer text
pub part_longer : {W : Type 0} {g : Ghosts W} {a b : W} {t : List ℕ} (u : List ℕ) → HasPutPart g a b t → HasPutPart g a b (t ++ u)
part_longer {t = t} u p = record {
  bytes = record {
    part = p.bytes.part;
    rest = p.bytes.rest ++ u;
    whole = ap (λ x. x ++ u) p.bytes.whole ∙ append_assoc p.bytes.part p.bytes.rest u;
    put = p.bytes.put;
  };
  failed = p.failed;
}

-- a byte, and then a text
pub puts_after_byte : {W E : Type 0} (g : Ghosts W) (a b c : W) (x : ℕ) (u : List ℕ) (r : Result (Unit {0}) E) → HasPut g a b (x ∷ []) → Puts g b c u r → Puts g a c (x ∷ u) r
puts_after_byte g a b c x u r p q = puts_more g a b c (x ∷ []) u r p q

pub part_after_byte : {W : Type 0} {g : Ghosts W} {a b : W} {x : ℕ} (u : List ℕ) → HasPutPart g a b (x ∷ []) → HasPutPart g a b (x ∷ u)
part_after_byte u p = part_longer u p

-- ---- written at last
-- with nothing gathered all that was put is written
pub all_written : {W : Type 0} {g : Ghosts W} {a b : W} (t : List ℕ) → HasPut g a b t → g.held b ≡ [] → Appends (g.contents a) (g.contents b) (g.held a ++ t)
all_written {g = g} {a = a} {b = b} t p none =
    flushed (g.contents a) (g.held a) (g.contents b) (g.held b) (g.contents b) t p.bytes (subst (λ x. Appends (g.contents b) (g.contents b) x) (sym none) (Appends-nil (g.contents b)))

-- of a beginning that was put a beginning is written
pub part_written : {W : Type 0} {g : Ghosts W} {a b : W} (t : List ℕ) → HasPutPart g a b t → AppendsPart (g.contents a) (g.contents b) (g.held a ++ t)
part_written {g = g} {a = a} {b = b} t p =
    let h : List ℕ = g.held a in
    let part : List ℕ = p.bytes.part in
    let rest : List ℕ = p.bytes.rest in
    let n : ℕ = p.bytes.put.count in
    let all : (h ++ part) ++ rest ≡ h ++ t = append_assoc h part rest ∙ ap (λ x. h ++ x) (sym p.bytes.whole) in
    let same : take n (h ++ part) ≡ take n (h ++ t) = sym (take-append-le n (h ++ part) rest p.bytes.put.fits) ∙ ap (take n) all in
    (n, omega (arith, p.bytes.put.fits, ap length all, length-append (h ++ part) rest), subst (λ x. Appends (g.contents a) (g.contents b) x) same p.bytes.put.written)

-- a flush puts nothing, and leaves nothing gathered
pub flush_put : {W : Type 0} (g : Ghosts W) (a b : W) → Appends (g.contents a) (g.contents b) (g.held a) × (g.held b ≡ []) → g.faults b ≡ g.faults a → HasPut g a b []
flush_put g a b all same =
    let h : List ℕ = g.held a in
    let whole : take (length h) (h ++ []) ≡ h = ap (take (length h)) (append-nil h) ∙ take_all (length h) h (omega arith) in record {
      bytes = record {
        count = length h;
        fits = omega (arith, length-append h []);
        written = subst (λ x. Appends (g.contents a) (g.contents b) x) (sym whole) all.0;
        left = all.1 ∙ sym (ap (drop (length h)) (append-nil h) ∙ drop_all (length h) h (omega arith));
      };
      faults = same;
    }

-- where it fails, what was gathered is written or gathered still
pub flush_part : {W : Type 0} (g : Ghosts W) (a b : W) → Gathers (g.contents a) (g.held a) (g.contents b) (g.held b) [] → WriteFailed g a b → HasPutPart g a b []
flush_part g a b kept failed = record { bytes = record { part = []; rest = []; whole = refl; put = kept }; failed = failed }

-- what closes the clauses of a function that puts several texts
pub ruleset putting = (puts, puts_more, put_part_more, part_longer, puts_after_byte, part_after_byte)
