-- What lies in a body of bytes is read alike after the body has grown.
use Rattle.std.proofs.Common.{◌≡◌, ℕ, zero, suc, ◌+◌, ◌-◌, ◌≤◌, List, [], ◌∷◌, ◌++◌, refl, subst, sym, ◌∙◌, ap, length, take, drop, arith, add-one}
use Rattle.std.specs.Prelude.{map, Result, Ok, Err, OnErr}
use Rattle.std.specs.List.{AllByRecursion, slice_range}
use Rattle.std.proofs.Math.Seq.{take-add}
use Rattle.std.proofs.lemmas.List.{drop-append-le, take-append-le, take-append-drop, take-take, take_at, drop_at, length-drop, length-take, map-append}
use Rattle.tab_key.specs.RecordSpans.{record_in, IsWithin}
use Rattle.tab_key.specs.Records.{Record}
use Rattle.tab_key.specs.declared.record_span.RecordSpan.{RecordSpan}
use Rattle.tab_key.proofs.Each.{each_append}

drop_one_more : {X : Type 0} (n : ℕ) (xs : List X) → drop (suc n) xs ≡ drop 1 (drop n xs)
drop_one_more zero xs = refl
drop_one_more (suc n) [] = refl
drop_one_more (suc n) (x ∷ xs) = drop_one_more n xs

pub drop_next : {X : Type 0} (n : ℕ) (xs : List X) → drop (n + 1) xs ≡ drop 1 (drop n xs)
drop_next n xs = rw add-one (drop_one_more n xs)

-- ---- parts of bytes

-- a part of the front isn't changed by what comes after it
part_of_front : (old more : List ℕ) (a b : ℕ) → a ≤ b → b ≤ length old → slice_range (old ++ more) a b ≡ slice_range old a b
part_of_front old more a b up low =
    let size : b - a ≤ length (drop a old) = omega (arith, length-drop a old) in
    ap (take (b - a)) (drop-append-le a old more (omega arith)) ∙ take-append-le (b - a) (drop a old) more size

-- in a body that keeps its front, a part of the front is what it was
pub same_part : (old new : List ℕ) → take (length old) new ≡ old → (a b : ℕ) → a ≤ b → b ≤ length old → slice_range new a b ≡ slice_range old a b
same_part old new front a b up low =
    let grown : old ++ drop (length old) new ≡ new = subst (λ (xs : List ℕ). xs ++ drop (length old) new ≡ new) front (take-append-drop (length old) new) in
    ap (λ (xs : List ℕ). slice_range xs a b) (sym grown) ∙ part_of_front old (drop (length old) new) a b up low

-- a body that keeps its front is no shorter
pub no_shorter : (old new : List ℕ) → take (length old) new ≡ old → length old ≤ length new
no_shorter old new front = omega (arith, ap length front, length-take (length old) new)

-- ---- spans of any kind: `same` says that what lies within is read alike in a grown body, `still` that it lies within that too

module _ {S R : Type 0} (IsIn : List ℕ → S → Type 0) (read : List ℕ → S → R) (same : (old new : List ℕ) (s : S) → take (length old) new ≡ old → IsIn old s → read new s ≡ read old s) (still : (old new : List ℕ) (s : S) → take (length old) new ≡ old → IsIn old s → IsIn new s) where
  pub all_same : (old new : List ℕ) (ss : List S) → take (length old) new ≡ old → AllByRecursion (IsIn old) ss → map (read new) ss ≡ map (read old) ss
  all_same old new [] front w = refl
  all_same old new (s ∷ ss) front w = λ i. same old new s front w.0 i ∷ all_same old new ss front w.1 i

  all_still : (old new : List ℕ) (ss : List S) → take (length old) new ≡ old → AllByRecursion (IsIn old) ss → AllByRecursion (IsIn new) ss
  all_still old new [] front w = tt
  all_still old new (s ∷ ss) front w = (still old new s front w.0, all_still old new ss front w.1)

  -- one more span: in the grown body all lie within
  pub all_pushed : (old new : List ℕ) (ss now : List S) (s : S) → now ≡ ss ++ s ∷ [] → take (length old) new ≡ old → AllByRecursion (IsIn old) ss → IsIn new s → AllByRecursion (IsIn new) now
  all_pushed old new ss now s e front w v = subst (AllByRecursion (IsIn new)) (sym e) (each_append (IsIn new) ss (s ∷ []) (all_still old new ss front w) (v, tt))

  -- and what is read is what was read before, and the new one
  pub reads_pushed : (old new : List ℕ) (ss now : List S) (s : S) (r : R) → now ≡ ss ++ s ∷ [] → take (length old) new ≡ old → AllByRecursion (IsIn old) ss → read new s ≡ r → map (read new) now ≡ map (read old) ss ++ r ∷ []
  reads_pushed old new ss now s r e front w is =
      ap (map (read new)) e ∙ map-append (read new) ss (s ∷ []) ∙ (λ i. all_same old new ss front w i ++ is i ∷ [])

-- ---- records

pub same_record : (old new : List ℕ) (p : RecordSpan) → take (length old) new ≡ old → IsWithin old p → record_in new p ≡ record_in old p
same_record old new p front w =
    let row = same_part old new front p.start p.row_end w.row (omega arith) in
    let family = same_part old new front p.row_end p.family_end w.family (omega arith) in
    let qualifier = same_part old new front p.family_end p.qualifier_end w.qualifier (omega arith) in
    let label = same_part old new front p.qualifier_end p.label_end w.label (omega arith) in
    let value = same_part old new front p.label_end p.end w.value w.whole in
    λ i. record {
      key = record { row = row i; family = family i; qualifier = qualifier i; label = label i; timestamp = p.timestamp };
      kind = p.kind;
      value = value i;
      seq = p.seq;
      idx = p.idx;
    }

-- of 128 bytes that came behind others the first ones stay
pub step_kept : (old bytes : List ℕ) (count n : ℕ) → n ≡ length old + count → count ≤ 128 → take n (old ++ take 128 bytes) ≡ old ++ take count bytes
step_kept old bytes count n is few =
    let whole : List ℕ = old ++ take 128 bytes in
    let first : take (length old) whole ≡ old = take_at old (take 128 bytes) (length old) refl in
    let later : take count (drop (length old) whole) ≡ take count bytes = ap (take count) (drop_at old (take 128 bytes) (length old) refl) ∙ take-take count 128 bytes few in
    ap (λ k. take k whole) is ∙ take-add (length old) count whole ∙ (λ i. first i ++ later i)

-- what holds holds on an error
pub at_err : {T E : Type 0} (r : Result T E) {P : Type 0} → P → OnErr r P
at_err (Ok x) p = tt
at_err (Err e) p = p
