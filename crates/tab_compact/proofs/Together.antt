-- What is made of all chunks of a list is made of the list.
use Rattle.std.proofs.Common.{◌≡◌, ℕ, suc, ◌+◌, ◌*◌, ◌/◌, ◌%◌, ◌<◌, ◌≤◌, List, [], ◌∷◌, ◌++◌, refl, sym, ◌∙◌, ap, subst, map, min, length, take, drop, reverse, get_or, append_assoc, arith, IfOk, Vec, Global, map-id}
use Rattle.std.specs.Prelude.{Ok, Err, flat_map}
use Rattle.std.specs.List.{AllZip}
use Rattle.std.specs.declared.result.Result.{Result}
use Rattle.std.proofs.lemmas.List.{map-append, drop-drop, take-append-drop, length-drop, length-map, reverse-append}
use Rattle.std.proofs.lemmas.Slice.Zip.{AllZip-map, all_zipped_more}
use Rattle.std.proofs.Math.ListN.{get_or-map}
use Rattle.std.proofs.Math.Nat.{suc-mul, zero-mul}
use Rattle.std.proofs.lemmas.Grind.{div_ceil_times}

module _ {X Y : Type 0} (f : X → Y) (size : ℕ) where
  -- the part at this place is made of the chunk there
  abbrev pub IsMadeAt : List X → ℕ → Vec Y Global → Type 0
  IsMadeAt xs n part = part.items ≡ map f (take size (drop (n * size) xs))

  chunks_made : (parts : List (Vec Y Global)) (xs : List X) → ((n : ℕ) (d : Vec Y Global) → n < length parts → IsMadeAt xs n (get_or parts n d)) → length xs ≤ length parts * size → flat_map (λ part. part.items) parts ≡ map f xs
  chunks_made [] [] each le = refl
  chunks_made [] (x ∷ xs) each le = absurd (omega (arith, le, zero-mul size))
  chunks_made (part ∷ parts) xs each le =
      let first : part.items ≡ map f (take size xs) = each 0 part (omega arith) ∙ ap (λ k. map f (take size (drop k xs))) (zero-mul size) in
      let behind : (n : ℕ) → drop (suc n * size) xs ≡ drop (n * size) (drop size xs) = λ n. let k : suc n * size ≡ size + n * size = omega (arith, suc-mul n size) in ap (λ j. drop j xs) k ∙ sym (drop-drop (n * size) size xs) in
      let fewer : length (drop size xs) ≤ length parts * size = omega (arith, le, length-drop size xs, suc-mul (length parts) size) in
      let rest : flat_map (λ p. p.items) parts ≡ map f (drop size xs) = chunks_made parts (drop size xs) (λ n d lt. each (suc n) d (omega (arith, lt)) ∙ ap (λ l. map f (take size l)) (behind n)) fewer in
      (λ i. first i ++ rest i) ∙ sym (map-append f (take size xs) (drop size xs)) ∙ ap (map f) (take-append-drop size xs)

  pub all_made : {E : Type 0} (r : Result (Vec Y Global) E) (rs : List (Result (Vec Y Global) E)) (xs : List X)
      → ((n : ℕ) (d : Result (Vec Y Global) E) → n < length rs → IfOk (get_or rs n d) (IsMadeAt xs n))
      → length rs ≡ length xs / size + min 1 (length xs % size) → 0 < size
      → IfOk r (λ v. (parts : List (Vec Y Global)) × (rs ≡ map Ok parts) × (v.items ≡ flat_map (λ part. part.items) parts))
      → IfOk r (λ v. v.items ≡ map f xs)
  all_made (Err e) rs xs each len some h = tt
  all_made {E} (Ok v) rs xs each len some h =
      let all : rs ≡ map Ok h.0 = h.1 in
      let as_many : length rs ≡ length h.0 = ap length all ∙ length-map h.0 Ok in
      let covered : length xs ≤ length rs * size = subst (λ k. length xs ≤ k * size) (sym len) (div_ceil_times (length xs) size some).0 in
      let part : (n : ℕ) (d : Vec Y Global) → n < length h.0 → IsMadeAt xs n (get_or h.0 n d) = λ n d lt. subst (λ (t : Result (Vec Y Global) E). IfOk t (IsMadeAt xs n)) (ap (λ l. get_or l n (Ok d)) all ∙ get_or-map Ok h.0 n d) (each n (Ok d) (omega (arith, lt, as_many))) in
      h.2 ∙ chunks_made h.0 xs part (subst (λ k. length xs ≤ k * size) as_many covered)

-- what is finished as it was begun
pub same_values : {X E : Type 0} (r : Result (Vec X Global) E) (xs : List X) → IfOk r (λ v. AllZip (λ x y. y ≡ x) xs v.items) → IfOk r (λ v. v.items ≡ xs)
same_values (Ok v) xs h = AllZip-map (λ x. x) xs v.items h ∙ map-id xs
same_values (Err e) xs h = tt

-- what is made of each is made of what it shows
pub made_through : {W X Y Z : Type 0} (f : Y → Z) (shown : W → Y) (of : X → Y) (ws : List W) (xs : List X) → map shown ws ≡ map of xs → map (λ w. f (shown w)) ws ≡ map (λ x. f (of x)) xs
made_through f shown of [] [] e = refl
made_through f shown of [] (x ∷ xs) e = absurd (let bad : [] ≡ of x ∷ map of xs = e in cc)
made_through f shown of (w ∷ ws) [] e = absurd (let bad : shown w ∷ map shown ws ≡ [] = e in cc)
made_through f shown of (w ∷ ws) (x ∷ xs) e =
    let first : shown w ≡ of x = cc in
    let later : map shown ws ≡ map of xs = cc in
    (λ i. f (first i) ∷ made_through f shown of ws xs later i)

-- ---- from the last one on
-- two lists that end alike begin alike
pub ends_alike : {X : Type 0} (xs ys : List X) (x y : X) → xs ++ x ∷ [] ≡ ys ++ y ∷ [] → (xs ≡ ys) × (x ≡ y)
ends_alike [] [] x y e = (refl, cc)
ends_alike [] (z ∷ []) x y e = absurd (let bad : 1 ≡ 2 = ap length e in omega (arith, bad))
ends_alike [] (z ∷ w ∷ ys) x y e = absurd (let bad : 1 ≡ suc (suc (length (ys ++ y ∷ []))) = ap length e in omega (arith, bad))
ends_alike (z ∷ []) [] x y e = absurd (let bad : 2 ≡ 1 = ap length e in omega (arith, bad))
ends_alike (z ∷ w ∷ xs) [] x y e = absurd (let bad : suc (suc (length (xs ++ x ∷ []))) ≡ 1 = ap length e in omega (arith, bad))
ends_alike (z ∷ xs) (w ∷ ys) x y e =
    let first : z ≡ w = cc in
    let later : xs ++ x ∷ [] ≡ ys ++ y ∷ [] = cc in
    let alike = ends_alike xs ys x y later in
    ((λ i. first i ∷ alike.0 i), alike.1)

-- where nothing is left of what was made, nothing is left of what it was made of
pub none_left : {X Y : Type 0} (f : X → Y) (xs : List X) (ys : List Y) → ys ≡ map f xs → ys ≡ [] → xs ≡ []
none_left f [] ys made none = refl
none_left f (x ∷ xs) ys made none = absurd (let bad : [] ≡ f x ∷ map f xs = sym none ∙ made in cc)

-- one more is finished, the last one of those that are left
pub finishes_last : {X Y : Type 0} (R : X → Y → Type 0) (all jobs left : List X) (done more : List Y) (x : X) (y : Y)
    → jobs ≡ left ++ x ∷ [] → more ≡ done ++ y ∷ [] → R x y
    → ((ds : List Y) → AllZip R jobs ds → AllZip R all (ds ++ reverse done))
    → (ds : List Y) → AllZip R left ds → AllZip R all (ds ++ reverse more)
finishes_last R all jobs left done more x y at grown one before ds each =
    let zipped : AllZip R jobs (ds ++ y ∷ []) = subst (λ js. AllZip R js (ds ++ y ∷ [])) (sym at) (all_zipped_more R left ds x y each one) in
    subst (λ l. AllZip R all l) (append_assoc ds (y ∷ []) (reverse done) ∙ ap (λ l. ds ++ l) (sym (reverse-append done (y ∷ []))) ∙ ap (λ l. ds ++ reverse l) (sym grown)) (before (ds ++ y ∷ []) zipped)
