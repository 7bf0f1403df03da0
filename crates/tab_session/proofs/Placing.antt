-- Answers in the places of what they answer.
use Rattle.std.proofs.Common.{◌≡◌, ℕ, [], ◌∷◌, ◌++◌, ◌+◌, ◌<◌, List, map, length, get_or, set, arith, sym, ◌∙◌, ap, subst}
use Rattle.std.specs.List.{All, enumerate_from}
use Rattle.std.specs.List.Sorted.{IsPermutation}
use Rattle.std.proofs.lemmas.List.{get_or_default, get_or-map, length-map, get_or-set_same, get_or-set_other, ext_get_or, nil_from_length}
use Rattle.std.proofs.lemmas.Bool.{cases_eq}
use Rattle.std.proofs.Math.Logic.{⊎_elim}
use Rattle.std.proofs.lemmas.List.Sorted.{All-permutation, IsPermutation-sym}
use Rattle.std.proofs.lemmas.List.FromFn.{length-enumerate_from, get_or-enumerate_from}

-- the item is in the list, at its place
abbrev pub IsPlaced : {A : Type 0} → List A → ℕ × A → Type 0
IsPlaced xs p = (p.0 < length xs) × (get_or xs p.0 p.1 ≡ p.1)

-- the answer for the item stands at its place
abbrev pub IsAnswered : {A B : Type 0} → (A → B) → B → List B → ℕ × A → Type 0
IsAnswered f none answers p = get_or answers p.0 none ≡ f p.1

from_zero : (n : ℕ) → 0 + n ≡ n
from_zero n = omega arith

-- each item of an enumeration, in whatever order, is at its place
pub are_placed : {A : Type 0} (xs : List A) (order : List (ℕ × A)) → IsPermutation (enumerate_from 0 xs) order → All (IsPlaced xs) order
are_placed xs order moved = All-permutation (IsPlaced xs) (enumerate_from 0 xs) order moved (λ k d below.
    let inside : k < length xs = subst (λ n. k < n) (length-enumerate_from 0 xs) below in
    let item = get_or-enumerate_from 0 xs k d inside ∙ ap (λ n. (n, get_or xs k d.1)) (from_zero k) in
    subst (IsPlaced xs) (sym item) (inside, get_or_default xs k (get_or xs k d.1) d.1 inside))

-- an enumeration of one item more
pub one_more : {A : Type 0} (xs : List A) (n : ℕ) (x : A) → enumerate_from n (xs ++ x ∷ []) ≡ enumerate_from n xs ++ (n + length xs, x) ∷ []
one_more [] n x = ap (λ k. (k, x) ∷ []) (omega arith)
one_more (y ∷ ys) n x =
    let counted : (n + 1) + length ys ≡ n + length (y ∷ ys) = omega arith in
    ap (λ l. (n, y) ∷ l) (one_more ys (n + 1) x ∙ ap (λ k. enumerate_from (n + 1) ys ++ (k, x) ∷ []) counted)

-- an answer that is put at its item's place leaves the others where they belong
put_answer : {A B : Type 0} (f : A → B) (none : B) (xs : List A) (answers : List B) (p q : ℕ × A) → length answers ≡ length xs → IsPlaced xs p → IsPlaced xs q → IsAnswered f none answers q → IsAnswered f none (set answers p.0 (f p.1)) q
put_answer f none xs answers p q long here there had = ⊎_elim
    (λ same. ap (λ n. get_or (set answers p.0 (f p.1)) n none) same ∙ get_or-set_same answers p.0 (f p.1) none (subst (λ n. p.0 < n) (sym long) here.0) ∙ ap f (sym here.1 ∙ get_or_default xs p.0 p.1 q.1 here.0 ∙ ap (λ n. get_or xs n q.1) (sym same) ∙ there.1))
    (λ other. get_or-set_other answers p.0 q.0 (f p.1) none other ∙ had)
    (cases_eq q.0 p.0)

-- one more is answered: the one behind those so far
pub put_more : {A B : Type 0} (f : A → B) (none : B) (xs : List A) (answers : List B) (order : List (ℕ × A)) (n : ℕ) (p : ℕ × A) → length answers ≡ length xs → All (IsPlaced xs) order → n < length order → p ≡ get_or order n p → ((k : ℕ) (d : ℕ × A) → k < n → IsAnswered f none answers (get_or order k d)) → (k : ℕ) (d : ℕ × A) → k < n + 1 → IsAnswered f none (set answers p.0 (f p.1)) (get_or order k d)
put_more f none xs answers order n p long placed inside found had k d below =
    let here : IsPlaced xs p = subst (IsPlaced xs) (sym found) (placed n p inside) in
    ⊎_elim
    (λ same.
    let is : get_or order k d ≡ p = ap (λ m. get_or order m d) same ∙ get_or_default order n d p inside ∙ sym found in
    subst (IsAnswered f none (set answers p.0 (f p.1))) (sym is) (get_or-set_same answers p.0 (f p.1) none (subst (λ m. p.0 < m) (sym long) here.0)))
    (λ other.
    let before : k < n = grind (arith, below, other) in
    let within : k < length order = omega (arith, before, inside) in
    put_answer f none xs answers p (get_or order k d) long here (placed k d within) (had k d before))
    (cases_eq k n)

-- where all of them are answered, each at its place, the answers are those of the list
pub all_answered : {A B : Type 0} (f : A → B) (none : B) (xs : List A) (answers : List B) (order : List (ℕ × A)) → length answers ≡ length xs → IsPermutation (enumerate_from 0 xs) order → All (IsAnswered f none answers) order → answers ≡ map f xs
all_answered f none [] answers order long moved all = nil_from_length answers long
all_answered f none (x ∷ xs) answers order long moved all =
    let whole = x ∷ xs in
    let each = All-permutation (IsAnswered f none answers) order (enumerate_from 0 whole) (IsPermutation-sym _ _ moved) all in
    ext_get_or none answers (map f whole) (long ∙ sym (length-map whole f)) (λ i below.
    let inside : i < length whole = subst (λ n. i < n) long below in
    let counted : i < length (enumerate_from 0 whole) = subst (λ n. i < n) (sym (length-enumerate_from 0 whole)) inside in
    let item = get_or-enumerate_from 0 whole i (0, x) inside ∙ ap (λ n. (n, get_or whole i x)) (from_zero i) in
    let answered : IsAnswered f none answers (i, get_or whole i x) = subst (IsAnswered f none answers) item (each i (0, x) counted) in
    answered ∙ sym (get_or-map f whole i x none inside))
